-- `tell_words` writes words where they fit, as `told` says.
-- Rests on the laws of reports.
use Rattle.report.proofs.Laws.{told_none, told_some}
use Rattle.report.proofs.tell_words.Goals as goal

pub returns-then-words-report : goal.returns-then-words-report
returns-then-words-report c = told_some _ _ _ c.if-words-report.true c.copy_from_slice.ensures.after

pub returns-else-words-report : goal.returns-else-words-report
returns-else-words-report c = told_none _ _ c.if-words-report.false
