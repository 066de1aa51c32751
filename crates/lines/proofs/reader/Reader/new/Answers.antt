-- `Reader::new`: no byte.
-- Rests on the laws that it cites and on the contracts of what is called.
use mathlib.Core.Path.{refl}
use Rattle.lines.specs.Reading.{fresh}
use Rattle.lines.proofs.reader.Reader.new.Goals as goal

pub returns : goal.returns
unfolding fresh
returns c = refl
