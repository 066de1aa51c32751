-- `totals_check_log` gives the number of what `check_log` answers.
-- Rests on the law of a number.
use Rattle.numbers.specs.Returned.{verdict_number}
use Rattle.capi.proofs.Laws.{flat_is}
use Rattle.capi.proofs.totals_check_log.Goals as goal

pub returns : goal.returns
returns c = flat_is verdict_number _ _ _ _ c.check_log-verdict.ensures c.verdict_number.ensures
