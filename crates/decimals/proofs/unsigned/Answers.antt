-- `unsigned`: a size with no sign.
-- Rests on the laws that it cites and on the contracts of what is called.
use mathlib.Core.Path.{refl}
use Rattle.decimals.specs.Signs.{sign_of}
use Rattle.decimals.proofs.unsigned.Goals as goal

pub returns : goal.returns
unfolding sign_of
returns c = refl
