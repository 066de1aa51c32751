-- `totals_run` gives the number and the report of what `table::run` answers.
-- Rests on the law of a number and a report.
use Rattle.numbers.specs.Returned.{ran_number, ran_report}
use Rattle.capi.proofs.Laws.{reported_is}
use Rattle.capi.proofs.totals_run.Goals as goal

pub returns : goal.returns
returns c =
    let n = c.ran_number.ensures in
    reported_is ran_number _ _ _ _ c.run-answer.ensures n.1 ran_report _ _ n.0
