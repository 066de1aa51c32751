-- `Reader::empty`: no byte is kept.
-- Rests on the laws that it cites and on the contracts of what is called.
use mathlib.Core.Path.{refl}
use Rattle.lines.specs.Reading.{is_empty}
use Rattle.lines.proofs.reader.Reader.empty.Goals as goal

pub returns : goal.returns
unfolding is_empty
returns c = refl
