-- `done_number` gives the number that `done_number` gives, by cases.
-- Rests on the definition.
use Rattle.numbers.specs.Returned.{done_number}
use Rattle.numbers.proofs.done_number.Goals as goal

pub returns-in-Ok : goal.returns-in-Ok
unfolding done_number
returns-in-Ok c = rw c.in-Ok.is

pub returns-in-Err : goal.returns-in-Err
unfolding done_number
returns-in-Err c = rw c.in-Err.is c.number.ensures
