-- `load_state` loads two arrays at a time, then three. The loops' invariants: the items passed are copied.
-- Rests on the laws of one item more, of the whole state, and of the addresses.
use Prim.Native.Nat.{◌+◌, ◌≤◌}
use mathlib.Core.Path.{◌≡◌}
use lib.ListN.{get_or}
use Rattle.fields.specs.Fields.{record_applied}
use Rattle.record.proofs.States.{loading}
use Rattle.record.proofs.load_state.Given as goal

abbrev pub invariant-loop-i : goal.invariant-loop-i
invariant-loop-i l =
    (l.c ≤ l.b)
    × (l.s ≡ loading l.words l.accounts l.totals (l.totals + l.b) (l.totals + l.b + l.n) (l.totals + l.b + l.n + l.n) l.i 0 l.c (get_or l.words (l.q + record_applied) 0))

abbrev pub invariant-loop-j : goal.invariant-loop-j
invariant-loop-j l =
    l.s ≡ loading l.words l.accounts l.totals l.settled l.answers l.posted l.c l.j l.c (get_or l.words (l.q + record_applied) 0)
