-- `first_bits` shifts away all but the first d bits of the place; of a depth above 32 it shifts nothing away, as in the machine.
-- Rests on the contract of `place_in`.
use Rattle.machine.specs.Sequential.{first_bits}
use Rattle.rules.proofs.first_bits.Goals as goal

pub returns : goal.returns
unfolding first_bits
returns c = rw (c.saturating_sub.ensures, c.place_in.ensures)
