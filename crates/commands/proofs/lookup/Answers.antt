-- `lookup`: a worker and an account.
-- Rests on the laws that it cites and on the contracts of what is called.
use Rattle.commands.proofs.Fields.{of_pair}
use Rattle.commands.proofs.lookup.Goals as goal

pub returns-in_err-w : goal.returns-in_err-w
returns-in_err-w c = rw (of_pair, ← c.in_err-w.ensures) c.from_residual.ensures

pub returns : goal.returns
returns c = rw (of_pair, ← c.in_ok-w.ensures)
