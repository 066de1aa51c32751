-- `place` is that of the account's word, which has 32 bits.
-- Rests on the contract of `place_in`.
use native.Mathlib.Omega.{arith}
use Rattle.machine.proofs.laws.Places.{place_below}
use Rattle.places.proofs.place.Goals as goal

pub overflow_cast-result : goal.overflow_cast-result
overflow_cast-result c = omega (arith, c.place_in.ensures, place_below c.args.account)
