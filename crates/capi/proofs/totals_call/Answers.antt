-- `totals_call` gives the number of what `table::call` answers.
-- Rests on the law of a number.
use mathlib.Core.Path.{◌∙◌, ap}
use mir.Facts.{to_z-of_z}
use Rattle.calls.specs.Calls.{call_words}
use Rattle.numbers.specs.Returned.{done_number}
use Rattle.capi.proofs.Laws.{flat_is}
use Rattle.capi.proofs.totals_call.Goals as goal

pub returns : goal.returns
returns c =
    flat_is done_number _ _ _ _ (c.call-answer.ensures ∙ ap (call_words _ _ _ _) (to_z-of_z c.ranges.total)) c.done_number.ensures
