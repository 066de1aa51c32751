-- `Progress::add`: an operation that was read, or none.
-- Rests on the contracts of what is called.
use Rattle.loglines.specs.Holding.{with_operation}
use Rattle.loglines.proofs.progress.Progress.add.Goals as goal

pub returns-in_default : goal.returns-in_default
unfolding with_operation
returns-in_default c = rw (c.in_default.is, c.next_line.ensures)

pub returns : goal.returns
unfolding with_operation
returns c = rw (c.in-Some.is, c.next_line.ensures, c.push.ensures)
