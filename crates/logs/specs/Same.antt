-- Whether two lists of numbers are the same: words of two tables, the bytes of a field and of an answer's word. Rests
-- on nothing.
use Rattle.std.specs.Prelude.{ℕ, Bool, true, false, List, [], ◌∷◌, eqb}
use Rattle.machine.specs.Choice.{◌and◌}

unfoldable pub same_numbers : List ℕ → List ℕ → Bool
same_numbers [] [] = true
same_numbers [] (y ∷ ys) = false
same_numbers (x ∷ xs) [] = false
same_numbers (x ∷ xs) (y ∷ ys) = eqb x y and same_numbers xs ys
