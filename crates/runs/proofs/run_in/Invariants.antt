-- `run-in` takes steps until an answer, as `run_in` says. The loop's invariant: the steps left have the answer of all.
-- Rests on the laws of a run, and on the bounds of a worker's words.
use Prim.Native.Nat.{◌-◌}
use mathlib.Core.Path.{◌≡◌}
use lib.ListN.{length}
use Rattle.layout.specs.Shape.{settings_of}
use Rattle.runs.specs.Runs.{run_in}
use Rattle.runs.proofs.run_in.Given as goal

abbrev pub invariant-loop-done : goal.invariant-loop-done
invariant-loop-done l =
    (length l.words ≡ length l.initial.words)
    × (run_in l.words (settings_of l.x) l.w l.done (l.most - l.done) ≡ run_in l.initial.words (settings_of l.x) l.w 0 l.most)
