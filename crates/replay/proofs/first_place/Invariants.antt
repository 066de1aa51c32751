-- `first_place` finds what the definition finds. The loop's invariant: the search from place j on has the answer of the whole search.
-- Rests on the laws of a search.
use Prim.Native.Nat.{◌-◌}
use mathlib.Core.Path.{◌≡◌}
use Rattle.replay.specs.Balances.{first_from, first_place}
use Rattle.replay.proofs.first_place.Given as goal

abbrev pub invariant-loop-j : goal.invariant-loop-j
invariant-loop-j l = first_from l.log l.account (l.i - l.j) l.j ≡ first_place l.log l.i
