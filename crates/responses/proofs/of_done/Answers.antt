-- `of_done`: by the answer of the call.
-- Rests on the contracts of what is called.
use Rattle.responses.specs.Responses.{of_done}
use Rattle.responses.proofs.of_done.Goals as goal

pub returns-in-Ok : goal.returns-in-Ok
unfolding of_done
returns-in-Ok c = rw c.in-Ok.is

pub returns-in-Err : goal.returns-in-Err
unfolding of_done
returns-in-Err c = rw (c.in-Err.is, c.number.ensures)
