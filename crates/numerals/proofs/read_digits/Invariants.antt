-- `read_digits`: what the bytes passed say is within the limit, and the rest is still to be read after it.
-- Rests on the laws that it cites and on the contracts of what is called.
use Prim.Native.Nat.{◌≤◌}
use mathlib.Core.Path.{◌≡◌}
use lib.ListN.{drop}
use Rattle.numerals.specs.Numerals.{digits_after, up_to}
use Rattle.numerals.proofs.read_digits.Given as goal

abbrev pub invariant-loop-byte : goal.invariant-loop-byte
invariant-loop-byte l =
    (l.value ≤ l.most)
    × (up_to l.most (digits_after l.value (drop l.byte-index l.field)) ≡ up_to l.most (digits_after 0 l.field))
