-- `size` is the definition `least` of the record's first word.
-- Rests on nothing but the definition.
use Rattle.memory.specs.Words.{least}
use Rattle.layout.proofs.addresses.size.Goals as goal

pub returns : goal.returns
returns c = rw (c.least.ensures, c.get.ensures)
