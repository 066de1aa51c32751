-- `settings_of` gives the settings that a first word keeps.
-- Rests on nothing but the definition.
use mathlib.Core.Path.{refl}
use Rattle.layout.specs.Shape.{settings_of}
use Rattle.layout.proofs.shape.settings_of.Goals as goal

pub returns : goal.returns
unfolding settings_of
returns c = refl
