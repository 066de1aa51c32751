-- `Feeding::end`: a line that has a byte is ended.
-- Rests on the laws that it cites and on the contracts of what is called.
use borrow.Author.Tests.{eq-eqb, ne_eqb}
use Rattle.machine.specs.Choice.{when◌then◌else◌}
use Rattle.loglines.specs.Holding.{ended}
use Rattle.loglines.proofs.progress.Feeding.end.Goals as goal

pub returns-then-line-eq0 : goal.returns-then-line-eq0
unfolding ended when◌then◌else◌
returns-then-line-eq0 c = rw (eq-eqb _ 0 c.if-line-eq0.true)

pub returns : goal.returns
unfolding ended when◌then◌else◌
returns c = rw (ne_eqb _ 0 c.if-line-eq0.false) c.end_line.ensures
