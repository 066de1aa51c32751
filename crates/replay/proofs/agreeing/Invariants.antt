-- `agreeing` counts what the definition counts. The loop's invariant: the count so far is that of the first j places.
-- Rests on the laws of the count.
use Prim.Native.Nat.{◌≤◌}
use mathlib.Core.Path.{◌≡◌}
use Rattle.replay.specs.Balances.{agreeing}
use Rattle.replay.proofs.agreeing.Given as goal

abbrev pub invariant-loop-j : goal.invariant-loop-j
invariant-loop-j l = (l.found ≤ l.j) × (l.found ≡ agreeing l.log l.depth l.bits l.balances l.j)
