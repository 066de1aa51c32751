-- `Progress::settle`: settings that were read, or none.
-- Rests on the laws that it cites and on the contracts of what is called.
use Rattle.loglines.specs.Holding.{with_settings}
use Rattle.loglines.proofs.progress.Progress.settle.Goals as goal

pub returns-in_default : goal.returns-in_default
unfolding with_settings
returns-in_default c = rw c.in_default.is

pub returns : goal.returns
unfolding with_settings
returns c = rw c.in-Some.is
