-- `print_order`: the word, i places behind it, and a line feed.
-- Rests on the laws that it cites and on the contracts of what is called.
use Prim.Native.Nat.{◌+◌, ◌*◌, ◌≤◌}
use mathlib.Core.Path.{◌≡◌}
use lib.ListN.{length, take}
use Rattle.lists.specs.Parts.{overlay}
use Rattle.loglines.proofs.TextLaws.{spaced}
use Rattle.loglines.proofs.text.print_order.Given as goal

abbrev pub invariant-loop-place : goal.invariant-loop-place
invariant-loop-place l =
    (length l.out ≡ length l.initial.out) × ((l.out ≡ overlay l.initial.out l.initial.at (spaced (take l.place-index l.places)))
    × ((l.at ≡ l.initial.at + length (spaced (take l.place-index l.places))) × (l.at ≤ l.initial.at + 21 * l.place-index)))
