-- `totals_words_needed` gives the number of what `table::words_needed` answers.
-- Rests on the contracts of what is called.
use mathlib.Core.Path.{◌∙◌, ap}
use Rattle.numbers.specs.Returned.{needed_number}
use Rattle.capi.proofs.totals_words_needed.Goals as goal

pub returns : goal.returns
returns c = c.needed_number.ensures ∙ ap needed_number c.words_needed-answer.ensures
