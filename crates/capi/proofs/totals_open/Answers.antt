-- `totals_open` gives the number of what `table::open` answers.
-- Rests on the law of a number.
use Rattle.numbers.specs.Returned.{done_number}
use Rattle.capi.proofs.Laws.{flat_is}
use Rattle.capi.proofs.totals_open.Goals as goal

pub returns : goal.returns
returns c = flat_is done_number _ _ _ _ c.open-answer.ensures c.done_number.ensures
