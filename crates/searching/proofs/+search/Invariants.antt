-- `search` calls itself. The measure is what remains. The loop's invariant: the list for the order is as it was, and the
-- places from i on decide. Rests on the places' search.
use Prim.Native.Nat.{◌-◌}
use mathlib.Core.Path.{◌≡◌}
use Rattle.searching.specs.Searching.{is_left, search_in}
use Rattle.searching.proofs.Tries.{tries_in}
use Rattle.searching.proofs.+search.Given as goal

abbrev pub decreases-search : goal.decreases-search
decreases-search l = l.remaining

abbrev pub invariant-loop-i : goal.invariant-loop-i
invariant-loop-i l =
    (l.order ≡ l.fn.order)
    × (search_in l.log l.capacity l.depth l.remaining l.before l.last (is_left l.left) l.balances
    ≡ tries_in l.log l.capacity l.depth (l.remaining - 1) l.before l.last l.left l.balances (12 - l.i) l.i)
