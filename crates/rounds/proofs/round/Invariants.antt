-- `round` makes the state that `round_of` makes. The loop's invariant: the workers below j have been helped.
-- A worker without a slot needs no help, and a settled ticket changes by its own worker's update only. Rests on the laws of a round.
use Prim.Native.Nat.{◌≤◌, ◌*◌}
use mathlib.Core.Path.{◌≡◌}
use lib.ListN.{length}
use Rattle.fields.specs.Fields.{slot_size}
use Rattle.rounds.specs.Rounds.{helped_of}
use Rattle.rounds.proofs.round.Given as goal

abbrev pub invariant-loop-j : goal.invariant-loop-j
invariant-loop-j l =
    (slot_size * l.m ≤ length l.slots)
    × (helped_of l.initial.x l.slots l.s l.depth l.toggle l.s.workers ≡ helped_of l.initial.x l.slots l.s l.depth l.toggle l.m)
    × (l.x ≡ helped_of l.initial.x l.slots l.s l.depth l.toggle l.j)
