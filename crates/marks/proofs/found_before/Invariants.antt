-- `found-before` answers `found_before`. The loop's invariant: the steps below i decide; the measure: those left.
-- Rests on the laws of searches.
use mathlib.Core.Path.{◌≡◌}
use Rattle.fields.specs.Regions.{worker_at}
use Rattle.renumbering.specs.Numbers.{any}
use Rattle.marks.specs.StateStep.{found_before}
use Rattle.marks.proofs.Cases.{found}
use Rattle.marks.proofs.found_before.Given as goal

abbrev pub invariant-loop-i : goal.invariant-loop-i
invariant-loop-i l = any l.i (found l.words l.g (worker_at l.g.workers l.w) l.q) ≡ found_before l.words l.g (worker_at l.g.workers l.w) l.j l.q
