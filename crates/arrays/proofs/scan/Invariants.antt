-- `scan` finds what the definition finds. The loop's invariant: the scan from position i on has the answer of the whole scan.
-- Rests on the laws of a search.
use mathlib.Core.Path.{◌≡◌}
use lib.ListN.{drop}
use Rattle.arrays.specs.Arrays.{scan}
use Rattle.arrays.proofs.scan.Given as goal

abbrev pub invariant-loop-i : goal.invariant-loop-i
invariant-loop-i l = scan (drop l.i l.accounts) l.account l.i ≡ scan l.accounts l.account 0
