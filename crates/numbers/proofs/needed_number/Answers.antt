-- `needed_number` gives the number that `needed_number` gives, by cases.
-- Rests on the definition.
use Rattle.numbers.specs.Returned.{needed_number}
use Rattle.numbers.proofs.needed_number.Goals as goal

pub returns-in-Ok : goal.returns-in-Ok
unfolding needed_number
returns-in-Ok c = rw c.in-Ok.is

pub returns-in-Err : goal.returns-in-Err
unfolding needed_number
returns-in-Err c = rw c.in-Err.is c.number.ensures
