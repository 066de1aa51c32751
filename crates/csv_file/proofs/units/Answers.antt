-- `units`: a hundredth, with the sign. Rests on the definition of whole units.
use mathlib.Core.Path.{refl}
use Rattle.csv_file.specs.Units.{units_of}
use Rattle.csv_file.proofs.units.Goals as goal

pub returns : goal.returns
unfolding units_of
returns c = refl
