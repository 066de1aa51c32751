-- `answer_number` chooses the number that `answer_by` chooses.
-- Rests on nothing.
use borrow.Author.Rules.{rules}
use Rattle.rules.specs.Rules.{answer_by}
use Rattle.rules.proofs.answer_number.Goals as goal

pub returns-in-At : goal.returns-in-At
unfolding answer_by
returns-in-At c = search rules

pub returns-in-Before : goal.returns-in-Before
unfolding answer_by
returns-in-Before c = search rules
