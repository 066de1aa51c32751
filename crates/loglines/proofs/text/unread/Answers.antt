-- `unread`: no line, a bad line, or neither.
-- Rests on the laws that it cites and on the contracts of what is called.
use borrow.Author.Tests.{eq-eqb, ne_eqb}
use Rattle.machine.specs.Choice.{when◌then◌else◌}
use Rattle.loglines.specs.Holding.{first_unread}
use Rattle.loglines.proofs.text.unread.Goals as goal

pub returns-then-progress-eq0 : goal.returns-then-progress-eq0
unfolding first_unread when◌then◌else◌
returns-then-progress-eq0 c = rw (eq-eqb _ 0 c.if-progress-eq0.true)

pub returns-then-progress : goal.returns-then-progress
unfolding first_unread when◌then◌else◌
returns-then-progress c = rw (ne_eqb _ 0 c.if-progress-eq0.false, c.if-progress.true)

pub returns : goal.returns
unfolding first_unread when◌then◌else◌
returns c = rw (ne_eqb _ 0 c.if-progress-eq0.false, c.if-progress.false)
