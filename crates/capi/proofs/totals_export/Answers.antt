-- `totals_export` gives the number and the report of what `table::export` answers.
-- Rests on the law of a number and a report.
use Rattle.numbers.specs.Returned.{counted_number, counted_report}
use Rattle.capi.proofs.Laws.{reported_is}
use Rattle.capi.proofs.totals_export.Goals as goal

pub returns : goal.returns
returns c =
    let n = c.counted_number.ensures in
    reported_is counted_number _ _ _ _ c.export-answer.ensures n.1 counted_report _ _ n.0
