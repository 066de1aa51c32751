-- `bucket_phase` gives the step at a position of the bucket pass.
-- Rests on the laws of the plan's positions.
use Prim.Native.Nat.{◌+◌, ◌-◌}
use native.Mathlib.Omega.{arith}
use mathlib.Core.Path.{sym, ◌∙◌}
use Rattle.phases.specs.Phases.{planned}
use Rattle.phases.proofs.Plans.{reduced_below, bucket_state, bucket_toggle, bucket_slot, bucket_swap, bucket_flip, bucket-round}
use Rattle.phases.proofs.bucket_phase.Goals as goal

pub returns-then-r-lt1 : goal.returns-then-r-lt1
unfolding planned
returns-then-r-lt1 c = sym (bucket_flip c.args.n c.args.r c.if-r-lt1.true)

pub returns-in-0 : goal.returns-in-0
unfolding planned
returns-in-0 c =
    let n = c.args.n in
    let i = c.reduce.result in
    sym (bucket-round n c.args.r i (omega arith) c.reduce.ensures
    ∙ bucket_state n i (omega (arith, c.in-0.is)))

pub returns-in-1 : goal.returns-in-1
unfolding planned
returns-in-1 c =
    let args = c.args in
    let reduce = c.reduce in
    let n = args.n in
    let i = reduce.result in
    sym (bucket-round n args.r i (omega arith) reduce.ensures ∙ bucket_toggle n i (omega arith) (omega (arith, c.in-1.is)))

pub returns-in_default : goal.returns-in_default
unfolding planned
returns-in_default c =
    let args = c.args in
    let reduce = c.reduce in
    let n = args.n in
    let i = reduce.result in
    sym (bucket-round n args.r i (omega arith) reduce.ensures ∙ bucket_slot n i (omega arith) c.if-i-n.true)

pub returns-in_default-2 : goal.returns-in_default-2
unfolding planned
returns-in_default-2 c =
    let n = c.args.n in
    let r = c.args.r in
    let i = c.reduce.result in
    let k = reduced_below (n + 3) (r - 1) i c.reduce.ensures (omega arith) in
    sym (bucket-round n r i (omega arith) c.reduce.ensures ∙ bucket_swap n i c.if-i-n.false k)
