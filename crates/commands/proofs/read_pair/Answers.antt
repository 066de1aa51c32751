-- `read_pair`: two fields, each of which is read.
-- Rests on the laws that it cites and on the contracts of what is called.
use Rattle.commands.specs.Commands.{small_of}
use Rattle.commands.proofs.read_pair.Goals as goal

pub returns-in_err-first : goal.returns-in_err-first
unfolding small_of
returns-in_err-first c = rw (← c.in_err-first.ensures) c.from_residual.ensures

pub returns-in_err-second : goal.returns-in_err-second
unfolding small_of
returns-in_err-second c = rw (← c.in_ok-first.ensures, ← c.in_err-second.ensures) c.from_residual-in_err-second.ensures

pub returns : goal.returns
unfolding small_of
returns c = rw (← c.in_ok-first.ensures, ← c.in_ok-second.ensures)
