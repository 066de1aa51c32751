-- `totals_step` gives the number and the report of what `table::step` answers.
-- Rests on the law of a number and a report.
use Rattle.numbers.specs.Returned.{stepped_number, stepped_report}
use Rattle.capi.proofs.Laws.{reported_is}
use Rattle.capi.proofs.totals_step.Goals as goal

pub returns : goal.returns
returns c =
    let n = c.stepped_number.ensures in
    reported_is stepped_number _ _ _ _ c.step-answer.ensures n.1 stepped_report _ _ n.0
