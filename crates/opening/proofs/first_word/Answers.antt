-- `first_word` is the definition `first_word`.
-- Rests on nothing.
use mathlib.Core.Path.{refl}
use Rattle.layout.specs.Shape.{first_word}
use Rattle.opening.proofs.first_word.Goals as goal

pub returns : goal.returns
unfolding first_word
returns c = refl
