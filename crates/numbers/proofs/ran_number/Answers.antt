-- `ran_number` gives the number and the report of a run's answer, by cases.
-- Rests on the definitions.
use mathlib.Core.Path.{refl}
use Rattle.std.proofs.Common.{rules}
use Rattle.numbers.specs.Returned.{ran_number, ran_report}
use Rattle.numbers.proofs.ran_number.Goals as goal

pub returns-in-Ok-Moved : goal.returns-in-Ok-Moved
unfolding ran_number ran_report
returns-in-Ok-Moved c = search rules

pub returns-in-Ok-Answered : goal.returns-in-Ok-Answered
unfolding ran_number ran_report
returns-in-Ok-Answered c = search rules

pub returns-in-Err : goal.returns-in-Err
unfolding ran_number ran_report
returns-in-Err c = rw c.in-Err.is (refl, c.number.ensures)
