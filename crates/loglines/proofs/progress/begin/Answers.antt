-- `begin`: nothing is held.
-- Rests on the laws that it cites and on the contracts of what is called.
use Rattle.loglines.specs.Holding.{begin, start, none_kept}
use Rattle.loglines.proofs.progress.begin.Goals as goal

pub returns : goal.returns
unfolding begin start none_kept
returns c = rw c.new.ensures
