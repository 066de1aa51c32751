-- `Line::new`: no byte.
-- Rests on the laws that it cites and on the contracts of what is called.
use mathlib.Core.Path.{refl}
use Rattle.loglines.specs.Holding.{no_line}
use Rattle.loglines.proofs.progress.Line.new.Goals as goal

pub returns : goal.returns
unfolding no_line
returns c = refl
