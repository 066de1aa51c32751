-- `raise` leaves what `inserted_in` says. The loop's invariant: the items above position k are moved up, by `raised`.
-- Rests on the laws of `raised`.
use Prim.Native.Nat.{◌≤◌}
use mathlib.Core.Path.{◌≡◌}
use Rattle.arrays.proofs.Laws.{raised}
use Rattle.arrays.proofs.raise.Given as goal

abbrev pub invariant-loop-k : goal.invariant-loop-k
invariant-loop-k l = (l.i ≤ l.k) × (l.a ≡ raised l.initial.a l.c l.k)
