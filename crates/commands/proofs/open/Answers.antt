-- `open`: two numbers and a third.
-- Rests on the laws that it cites and on the contracts of what is called.
use Rattle.commands.specs.Commands.{small_of}
use Rattle.commands.proofs.Fields.{of_pair_then}
use Rattle.commands.proofs.open.Goals as goal

pub returns-in_err-n : goal.returns-in_err-n
unfolding small_of
returns-in_err-n c = rw (of_pair_then, ← c.in_err-n.ensures) c.from_residual.ensures

pub returns-in_err-m : goal.returns-in_err-m
unfolding small_of
returns-in_err-m c = rw (of_pair_then, ← c.in_ok-n.ensures, ← c.in_err-m.ensures) c.from_residual-in_err-m.ensures

pub returns : goal.returns
unfolding small_of
returns c = rw (of_pair_then, ← c.in_ok-n.ensures, ← c.in_ok-m.ensures)
