-- `half` makes the state that `half_of` makes. The loop's invariant: what has been gathered from the positions below i.
-- Rests on the laws of a half.
use Prim.Native.Nat.{◌≤◌}
use Rattle.bucket.specs.State.{array_size}
use Rattle.halves.proofs.Laws.{Halved}
use Rattle.halves.proofs.half.Given as goal

abbrev pub invariant-loop-i : goal.invariant-loop-i
invariant-loop-i l =
    (l.n ≤ array_size) × (l.kept ≤ l.i) × Halved l.old_accounts l.old_totals l.d l.q l.i l.accounts l.totals l.kept
