-- `totals_rebates` writes what `table::rebates` writes, and gives the number and the report of what it answers.
-- Rests on the law of the rebates.
use Rattle.capi.proofs.Laws.{written_rebates_is}
use Rattle.capi.proofs.totals_rebates.Goals as goal

pub returns : goal.returns
returns c =
    let number = c.counted_number.ensures in
    written_rebates_is _ _ _ _ _ _ _ c.rebates-answer.ensures number.1 number.0
