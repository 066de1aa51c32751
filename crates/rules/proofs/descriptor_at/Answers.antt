-- `descriptor_at` reads the words that `descriptor_in` names.
-- Rests on nothing.
use borrow.Author.Rules.{rules}
use Rattle.rules.specs.Rules.{descriptor_in}
use Rattle.rules.proofs.descriptor_at.Goals as goal

pub returns : goal.returns
unfolding descriptor_in
returns c = search rules
