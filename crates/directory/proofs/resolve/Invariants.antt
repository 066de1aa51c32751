-- `resolve` resolves the marked buckets. The loop's invariant: as many words, and the buckets of the marks passed are resolved.
-- Rests on the turn for one mark more.
use mathlib.Core.Path.{◌≡◌}
use lib.ListN.{length}
use Rattle.fields.specs.Regions.{worker_at}
use Rattle.directory.specs.Directory.{resolved_at}
use Rattle.directory.proofs.resolve.Given as goal

abbrev pub invariant-loop-j : goal.invariant-loop-j
invariant-loop-j l =
    (length l.words ≡ length l.initial.words) × (l.words ≡ resolved_at l.initial.words l.g (worker_at l.g.workers l.w) l.j)
