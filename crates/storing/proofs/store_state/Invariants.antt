-- `store_state` stores two arrays at a time, then three. The loops' invariants: the items passed are stored.
-- Rests on the laws of one item more, of the whole state, and of the addresses.
use Prim.Native.Nat.{◌+◌, ◌≤◌}
use mathlib.Core.Path.{◌≡◌}
use lib.ListN.{length}
use Rattle.fields.specs.Fields.{widest_record}
use Rattle.memory.specs.Words.{stored}
use Rattle.storing.proofs.store_state.Given as goal

abbrev pub invariant-loop-i : goal.invariant-loop-i
invariant-loop-i l =
    (l.c ≤ l.b) × (l.q + widest_record ≤ length l.words)
    × (l.words ≡ stored (stored l.initial.words l.accounts l.s.accounts l.i) l.totals l.s.totals l.i)

abbrev pub invariant-loop-j : goal.invariant-loop-j
invariant-loop-j l =
    (l.q + widest_record ≤ length l.words)
    × (l.words ≡ stored (stored (stored l.initial.words l.settled l.s.settled l.j) l.answers l.s.answers l.j) l.posted l.s.posted l.j)
