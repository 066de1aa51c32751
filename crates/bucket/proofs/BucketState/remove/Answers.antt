-- `remove` makes the state that `remove_of` makes, at any position.
-- Rests on the law of a removal.
use native.Mathlib.Omega.{arith}
use mathlib.Core.Path.{sym, ◌∙◌, ap}
use Rattle.bucket.specs.State.{remove_of}
use Rattle.bucket.proofs.Laws.{removed_at}
use Rattle.bucket.proofs.BucketState.remove.Goals as goal

pub returns : goal.returns
returns c =
    let s = c.args in
    removed_at s.self _ c.in-At.i c.size-n.ensures _ _ _
    c.lower.ensures c.lower-2.ensures (omega arith)
    ∙ ap (remove_of s.self) (sym c.in-At.is)

pub returns-in_default : goal.returns-in_default
unfolding remove_of
returns-in_default c = ap (remove_of c.args.self) (sym c.in_default.is)
