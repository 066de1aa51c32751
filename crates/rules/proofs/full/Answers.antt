-- `full` compares as `full_by` does.
-- Rests on nothing.
use borrow.Author.Rules.{rules}
use Rattle.rules.specs.Rules.{full_by}
use Rattle.rules.proofs.full.Goals as goal

pub returns : goal.returns
unfolding full_by
returns c = search rules
