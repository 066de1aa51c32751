-- `verdict_number` gives the number that `verdict_number` gives, by cases.
-- Rests on the definition.
use Rattle.std.proofs.Common.{rules}
use Rattle.numbers.specs.Returned.{verdict_number}
use Rattle.numbers.proofs.verdict_number.Goals as goal

pub returns-in-Ok-Accepted : goal.returns-in-Ok-Accepted
unfolding verdict_number
returns-in-Ok-Accepted c = search rules

pub returns-in-Ok-No : goal.returns-in-Ok-No
unfolding verdict_number
returns-in-Ok-No c = search rules

pub returns-in-Err : goal.returns-in-Err
unfolding verdict_number
returns-in-Err c = rw c.in-Err.is c.number.ensures
