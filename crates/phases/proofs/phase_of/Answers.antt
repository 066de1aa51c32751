-- `phase_of` gives the step that comes after k own steps.
-- Rests on the laws of the plan's positions.
use native.Mathlib.Omega.{arith}
use mathlib.Core.Path.{sym, ◌∙◌}
use Rattle.phases.specs.Phases.{planned}
use Rattle.phases.proofs.Plans.{plan_announce, plan_pass}
use Rattle.phases.proofs.phase_of.Goals as goal

pub returns-in-0 : goal.returns-in-0
unfolding planned
returns-in-0 c = sym (plan_announce c.args.n c.args.k (omega (arith, c.in-0.is)))

pub returns-in_default : goal.returns-in_default
returns-in_default c =
    let s = c.args in
    c.pass_phase.ensures ∙ sym (plan_pass s.n s.k c.reduce.result (omega arith) c.reduce.ensures)
