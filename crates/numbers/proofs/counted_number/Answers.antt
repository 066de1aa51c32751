-- `counted_number` gives the number and the report of a listing's answer, by cases.
-- Rests on the definitions.
use mathlib.Core.Path.{refl}
use Rattle.numbers.specs.Returned.{counted_number, counted_report}
use Rattle.numbers.proofs.counted_number.Goals as goal

pub returns-in-Ok : goal.returns-in-Ok
unfolding counted_number counted_report
returns-in-Ok c = rw c.in-Ok.is (c.tell_one.ensures, refl)

pub returns-in-Err : goal.returns-in-Err
unfolding counted_number counted_report
returns-in-Err c = rw c.in-Err.is (refl, c.number.ensures)
