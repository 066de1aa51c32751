-- `feed`: feeding the bytes left comes to feeding all.
-- Rests on the laws that it cites and on the contracts of what is called.
use mathlib.Core.Path.{◌≡◌}
use lib.ListN.{drop}
use Rattle.loglines.specs.Holding.{fed}
use Rattle.loglines.proofs.progress.feed.Given as goal

abbrev pub invariant-loop-byte : goal.invariant-loop-byte
invariant-loop-byte l = fed l.feeding (drop l.byte-index l.input) ≡ fed l.initial.feeding l.input
