-- `stepped_number` gives the number and the report of a step's answer, by cases.
-- Rests on the definitions.
use mathlib.Core.Path.{refl}
use Rattle.numbers.specs.Returned.{stepped_number, stepped_report}
use Rattle.numbers.proofs.stepped_number.Goals as goal

pub returns-in-Moved : goal.returns-in-Moved
unfolding stepped_number stepped_report
returns-in-Moved c = rw c.in-Moved.is (refl, refl)

pub returns-in-Answered : goal.returns-in-Answered
unfolding stepped_number stepped_report
returns-in-Answered c = rw c.in-Answered.is c.ended.ensures

pub returns-in-Refused : goal.returns-in-Refused
unfolding stepped_number stepped_report
returns-in-Refused c = rw c.in-Refused.is (refl, c.number.ensures)
