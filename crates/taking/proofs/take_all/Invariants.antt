-- `take_all` takes the updates of some workers. The loop's invariant: as many words, and those of the workers passed are taken.
-- Rests on the turn for one worker more.
use mathlib.Core.Path.{◌≡◌}
use lib.ListN.{length}
use Rattle.fields.specs.Regions.{worker_at}
use Rattle.taking.specs.Taking.{taken_all}
use Rattle.taking.proofs.take_all.Given as goal

abbrev pub invariant-loop-i : goal.invariant-loop-i
invariant-loop-i l =
    (length l.words ≡ length l.initial.words) × (l.words ≡ taken_all l.initial.words l.g (worker_at l.g.workers l.w) l.bits l.i)
