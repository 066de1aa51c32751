-- `Feeding::take`: a line feed ends the line, any other byte is one of it.
-- Rests on the laws that it cites and on the contracts of what is called.
use borrow.Author.Tests.{eq-eqb, ne_eqb}
use Rattle.machine.specs.Choice.{when◌then◌else◌}
use Rattle.decimals.specs.Ascii.{line_feed}
use Rattle.loglines.specs.Holding.{took}
use Rattle.loglines.proofs.progress.Feeding.take.Goals as goal

pub returns-then-byte-eq10 : goal.returns-then-byte-eq10
unfolding took when◌then◌else◌
returns-then-byte-eq10 c = rw (eq-eqb _ line_feed c.if-byte-eq10.true, c.new.ensures, c.end_line.ensures)

pub returns : goal.returns
unfolding took when◌then◌else◌
returns c = rw (ne_eqb _ line_feed c.if-byte-eq10.false, c.push.ensures)
