-- `split_while` splits an account's bucket while it is full. The loop's invariant: as many words, and the splits left give what all give.
-- Rests on the outcomes of the loop's tests.
use Prim.Native.Nat.{◌-◌}
use mathlib.Core.Path.{◌≡◌}
use lib.ListN.{length}
use Rattle.splits.specs.Splits.{split_while_at}
use Rattle.splits.proofs.split_while.Given as goal

abbrev pub invariant-loop : goal.invariant-loop
invariant-loop l =
    (length l.words ≡ length l.initial.words)
    × (split_while_at l.words l.g l.account (l.g.depth - l.counter) ≡ split_while_at l.initial.words l.g l.account l.g.depth)
