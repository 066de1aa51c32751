-- `account_at` is the place times the other factor, modulo 2 ^ 32: no product of 32 bits leaves 64.
-- Rests on nothing.
use mathlib.Core.Path.{refl}
use Rattle.machine.specs.Sequential.{account_at}
use Rattle.places.proofs.account_at.Goals as goal

pub returns : goal.returns
unfolding account_at
returns c = refl
