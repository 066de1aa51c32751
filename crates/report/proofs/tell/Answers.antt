-- `tell` writes three words where they fit, the first two where only they do, as `told_three` says.
-- Rests on the laws of reports.
use mathlib.Core.Path.{◌∙◌}
use Rattle.report.proofs.Laws.{three_short, three_told}
use Rattle.report.proofs.tell.Goals as goal

pub returns-then-report-lt3 : goal.returns-then-report-lt3
returns-then-report-lt3 c = c.tell_words.ensures ∙ three_short _ _ _ _ c.if-report-lt3.true

pub returns-else-report-lt3 : goal.returns-else-report-lt3
returns-else-report-lt3 c = c.tell_words-else-report-lt3.ensures ∙ three_told _ _ _ _ c.if-report-lt3.false
