-- A text cut at each of one byte. Rests on the tests of the machine's specs/Choice.
use Rattle.std.specs.Prelude.{ℕ, List, [], ◌∷◌, eqb}
use Rattle.machine.specs.Choice.{when◌then◌else◌}

-- a byte put before the first part, which it starts where there is none
unfoldable pub before : ℕ → List (List ℕ) → List (List ℕ)
before b [] = (b ∷ []) ∷ []
before b (p ∷ ps) = (b ∷ p) ∷ ps

-- the parts between the bytes x, with `last` for what follows the last byte
unfoldable pub parts_at : ℕ → List (List ℕ) → List ℕ → List (List ℕ)
parts_at x last [] = last
parts_at x last (b ∷ bs) = let rest : List (List ℕ) = parts_at x last bs in when eqb b x then [] ∷ rest else before b rest
