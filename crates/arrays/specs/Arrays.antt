-- An item put into an array or taken out of it, and a search among ascending accounts, for any items.
-- Rests on the type that src declares for a search's result: its position, in the code a byte, is a number here.
use Rattle.std.specs.Prelude.{ℕ, suc, ◌-◌, List, [], ◌∷◌, ◌++◌, ltb, leb, eqb, length, take, drop}
use Rattle.machine.specs.Choice.{when◌then◌else◌, ◌and◌}
use Rattle.arrays.specs.declared.Position.{Position}
use Rattle.arrays.specs.declared.Position.TheVariants.{At, Before}

-- ---- arrays

-- v at position i of the first c items, the later ones moved up: where there is room, and i is among them or just past
unfoldable pub inserted_in : List ℕ → ℕ → ℕ → ℕ → List ℕ
inserted_in l c i v =
    when ltb c (length l) and leb i c then take i l ++ v ∷ take (c - i) (drop i l) ++ drop (suc c) l else l

-- position i taken out of the first c items, the later ones moved down; what stood at the last one stays there
unfoldable pub removed_from : List ℕ → ℕ → ℕ → List ℕ
removed_from l c i =
    when leb c (length l) and ltb i c then take i l ++ take (c - suc i) (drop (suc i) l) ++ drop (c - 1) l else l

-- ---- a search

-- the first position whose account is not below a, the positions being counted from i on
unfoldable pub scan : List ℕ → ℕ → ℕ → Position
scan [] a i = Before i
scan (x ∷ xs) a i = when leb a x then when eqb a x then At i else Before i else scan xs a (suc i)
