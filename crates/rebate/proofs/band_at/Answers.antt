-- `band_at`: the code's table is the definition's.
use mathlib.Core.Path.{refl}
use Rattle.rebate.proofs.band_at.Goals as goal

pub returns : goal.returns
returns c = refl
