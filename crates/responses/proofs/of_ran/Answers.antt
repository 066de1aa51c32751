-- `of_ran`: by the answer of the run.
-- Rests on the contracts of what is called.
use Rattle.std.proofs.Common.{rules}
use Rattle.responses.specs.Responses.{of_ran}
use Rattle.responses.proofs.of_ran.Goals as goal

pub returns-in-Ok-Moved : goal.returns-in-Ok-Moved
unfolding of_ran
returns-in-Ok-Moved c = search rules

pub returns-in-Ok-Answered : goal.returns-in-Ok-Answered
unfolding of_ran
returns-in-Ok-Answered c = search rules

pub returns-in-Err : goal.returns-in-Err
unfolding of_ran
returns-in-Err c = rw (c.in-Err.is, c.number.ensures)
