-- `Progress::read`: nothing past a bad line, the settings first, and else an operation.
-- Rests on the laws that it cites and on the contracts of what is called.
use mathlib.Core.Path.{◌∙◌, ap}
use Rattle.machine.specs.Choice.{when◌then◌else◌}
use Rattle.loglines.specs.Holding.{with_settings, with_operation, with_line}
use Rattle.loglines.proofs.Reading.{first_line, later_line}
use Rattle.loglines.proofs.progress.Progress.read.Goals as goal

pub returns-then-self : goal.returns-then-self
unfolding with_line when◌then◌else◌
returns-then-self c = rw c.if-self.true

pub returns-then-self-eq0 : goal.returns-then-self-eq0
returns-then-self-eq0 c =
    c.settle.ensures
    ∙ ap (with_settings _) c.read_settings.ensures
    ∙ first_line _ _ c.if-self.false c.if-self-eq0.true

pub returns : goal.returns
returns c =
    c.add.ensures
    ∙ ap (with_operation _) c.read_operation.ensures
    ∙ later_line _ _ c.if-self.false c.if-self-eq0.false
