-- `answer_or`: the field is the word, or it is not.
-- Rests on the laws that it cites and on the contracts of what is called.
use Rattle.machine.specs.Choice.{when◌then◌else◌}
use Rattle.loglines.proofs.field.answer_or.Goals as goal

pub returns-then-same : goal.returns-then-same
unfolding when◌then◌else◌
returns-then-same c = rw (← c.same.ensures, c.if-same.true)

pub returns : goal.returns
unfolding when◌then◌else◌
returns c = rw (← c.same.ensures, c.if-same.false)
