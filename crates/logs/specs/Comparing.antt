-- Orders compared: the field's lexicographic order. 02, No. 10: "comparing orders operation by operation by place in
-- the log". Rests on nothing.
use Rattle.std.specs.Prelude.{ℕ, ◌<◌, ◌≡◌, ◌⊎◌, List, [], ◌∷◌}

-- o comes before p: where they first differ, o has the operation of the lower place, or ends
abbrev pub Before : List ℕ → List ℕ → Type 0
Before [] [] = ⊥
Before [] (j ∷ p) = Unit {0}
Before (i ∷ o) [] = ⊥
Before (i ∷ o) (j ∷ p) = (i < j) ⊎ ((i ≡ j) × Before o p)

-- p is o, or o comes before it
abbrev pub NotAfter : List ℕ → List ℕ → Type 0
NotAfter o p = (p ≡ o) ⊎ Before o p

-- of any two orders that differ, one comes before the other, and not the other way round
pub record ComparingLaws : Type 0 where
  pub total : (o p : List ℕ) → NotAfter o p ⊎ Before p o
  pub one_way : (o p : List ℕ) → Before o p → Before p o → ⊥
  pub transitive : (o p q : List ℕ) → Before o p → Before p q → Before o q
