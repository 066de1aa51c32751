-- `steps`: two numbers, of which the second has a least value too.
-- Rests on the laws that it cites and on the contracts of what is called.
use borrow.Author.Tests.{le-leb, lt-leb}
use Rattle.machine.specs.Choice.{when◌then◌else◌}
use Rattle.commands.specs.Commands.{least_steps, steps_of}
use Rattle.commands.proofs.Fields.{of_pair_from}
use Rattle.commands.proofs.steps.Goals as goal

pub returns-in_err-w : goal.returns-in_err-w
unfolding steps_of
returns-in_err-w c = rw (of_pair_from, ← c.in_err-w.ensures) c.from_residual.ensures

pub returns-then-k-lt-LEAST_STEPS : goal.returns-then-k-lt-LEAST_STEPS
unfolding steps_of when◌then◌else◌
returns-then-k-lt-LEAST_STEPS c = rw (of_pair_from, ← c.in_ok-w.ensures, lt-leb least_steps _ c.if-k-lt-LEAST_STEPS.true)

pub returns : goal.returns
unfolding steps_of when◌then◌else◌
returns c = rw (of_pair_from, ← c.in_ok-w.ensures, le-leb least_steps _ c.if-k-lt-LEAST_STEPS.false)
