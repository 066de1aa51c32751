-- `totals_list` writes what `table::listing` writes, and gives the number and the report of what it answers.
-- Rests on the law of a listing.
use Rattle.capi.proofs.Laws.{written_is}
use Rattle.capi.proofs.totals_list.Goals as goal

pub returns : goal.returns
returns c =
    written_is _ _ _ _ _ _ _ c.listing-answer.ensures c.counted_number.ensures.1 c.counted_number.ensures.0
