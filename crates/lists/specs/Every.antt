-- What holds of each item of a list. Rests on nothing.
use Rattle.std.specs.Prelude.{List, [], ◌∷◌}

unfoldable pub Every : {A : Type 0} → (A → Type 0) → List A → Type 0
Every P [] = Unit {0}
Every P (x ∷ xs) = P x × Every P xs
