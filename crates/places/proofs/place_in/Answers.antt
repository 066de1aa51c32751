-- `place_in` is the number times the factor, modulo 2 ^ 32: reduced first, so that no product leaves 64 bits.
-- Rests on the place of an account's last 32 bits.
use borrow.Author.Rules.{rules}
use Rattle.machine.specs.Sequential.{place}
use Rattle.machine.proofs.laws.Places.{place_last_32}
use Rattle.places.proofs.place_in.Goals as goal

-- the product of two numbers of 32 bits
pub overflow_mul-result : goal.overflow_mul-result
overflow_mul-result c = search rules

pub returns : goal.returns
unfolding place
returns c = place_last_32 _
