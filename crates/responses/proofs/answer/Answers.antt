-- `answer`: what is left is a command that is no listing.
-- Rests on the law that it cites and on the contracts of what is called.
use borrow.Author.Rules.{rules}
use Rattle.responses.proofs.Answering.{answered_reply}
use Rattle.responses.proofs.answer.Goals as goal

pub returns-in_default-c : goal.returns-in_default-c
returns-in_default-c c =
    answered_reply _ _ _ _ _ _ c.in-Some.is c.in_default-c.not-List c.respond.ensures (search rules)
