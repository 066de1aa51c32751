-- `pass_phase` gives the step at a position of a pass.
-- Rests on the laws of the plan's positions.
use native.Mathlib.Omega.{arith}
use mathlib.Core.Path.{sym, ◌∙◌}
use Rattle.phases.specs.Phases.{planned}
use Rattle.phases.proofs.Plans.{pass_first, pass_bucket, pass_look, pass_check, pass_directory, pass_look_again, pass_end}
use Rattle.phases.proofs.pass_phase.Goals as goal

pub returns-then-r-lt1 : goal.returns-then-r-lt1
unfolding planned
returns-then-r-lt1 c = sym (pass_first c.args.n c.args.r c.if-r-lt1.true)

pub returns-then-r-n : goal.returns-then-r-n
returns-then-r-n c =
    let s = c.args in
    c.bucket_phase.ensures ∙ sym (pass_bucket s.n s.r (omega arith) c.if-r-n.true)

pub returns-then-r-n-2 : goal.returns-then-r-n-2
unfolding planned
returns-then-r-n-2 c =
    let s = c.args in
    sym (pass_look s.n s.r c.if-r-n.false c.if-r-n-2.true)

pub returns-then-r-n-3 : goal.returns-then-r-n-3
unfolding planned
returns-then-r-n-3 c =
    let s = c.args in
    sym (pass_check s.n s.r c.if-r-n-2.false c.if-r-n-3.true)

pub returns-then-r-n-4 : goal.returns-then-r-n-4
returns-then-r-n-4 c =
    let s = c.args in
    c.directory_phase.ensures ∙ sym (pass_directory s.n s.r c.if-r-n-3.false c.if-r-n-4.true)

pub returns-then-r-n-5 : goal.returns-then-r-n-5
unfolding planned
returns-then-r-n-5 c =
    let s = c.args in
    sym (pass_look_again s.n s.r c.if-r-n-4.false c.if-r-n-5.true)

pub returns-else-r-n-5 : goal.returns-else-r-n-5
unfolding planned
returns-else-r-n-5 c =
    let s = c.args in
    sym (pass_end s.n s.r c.if-r-n-5.false)
