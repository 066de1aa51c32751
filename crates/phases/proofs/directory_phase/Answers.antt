-- `directory_phase` gives the step at a position of the directory pass.
-- Rests on the laws of the plan's positions.
use Prim.Native.Nat.{◌+◌, ◌*◌}
use native.Mathlib.Omega.{arith}
use mathlib.Core.Path.{sym, ◌∙◌}
use Rattle.phases.specs.Phases.{planned}
use Rattle.phases.proofs.Plans.{reduced_below, directory_copy, directory_slot, directory_state, directory_swap, directory-round}
use Rattle.phases.proofs.directory_phase.Goals as goal

pub returns-in-0 : goal.returns-in-0
unfolding planned
returns-in-0 c =
    let n = c.args.n in
    let i = c.reduce.result in
    sym (directory-round n c.args.r i c.reduce.ensures ∙ directory_copy n i (omega (arith, c.in-0.is)))

pub returns-in_default : goal.returns-in_default
unfolding planned
returns-in_default c =
    let args = c.args in
    let reduce = c.reduce in
    let n = args.n in
    let i = reduce.result in
    sym (directory-round n args.r i reduce.ensures ∙ directory_slot n i (omega arith) c.if-i-n.true)

pub returns-in_default-2 : goal.returns-in_default-2
unfolding planned
returns-in_default-2 c =
    let args = c.args in
    let reduce = c.reduce in
    let n = args.n in
    let i = reduce.result in
    sym (directory-round n args.r i reduce.ensures ∙ directory_state n i (omega arith) c.if-i-n-2.true)

pub returns-in_default-3 : goal.returns-in_default-3
unfolding planned
returns-in_default-3 c =
    let n = c.args.n in
    let r = c.args.r in
    let i = c.reduce.result in
    let k = reduced_below (2 * n + 2) r i c.reduce.ensures (omega arith) in
    sym (directory-round n r i c.reduce.ensures ∙ directory_swap n i (omega arith) k)
