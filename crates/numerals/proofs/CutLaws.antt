-- Texts cut at a byte: what stands before it comes first, and a text without it is one part. Rests on the definitions of specs/Cut.
use Prim.Native.Nat.{ℕ}
use mathlib.Core.Path.{◌≡◌, refl}
use mathlib.Core.Logic.{◌≢◌}
use mathlib.Core.List.{List, [], ◌∷◌, ◌++◌}
use borrow.Author.Tests.{eq-eqb, ne_eqb}
use Rattle.lists.specs.Every.{Every}
use Rattle.machine.specs.Choice.{when◌then◌else◌}
use Rattle.numerals.specs.Cut.{before, parts_at}

pub cut_first : (x : ℕ) (last : List (List ℕ)) (xs ys : List ℕ) → Every (λ b. b ≢ x) xs
    → parts_at x last (xs ++ x ∷ ys) ≡ xs ∷ parts_at x last ys
unfolding parts_at before when◌then◌else◌ Every
cut_first x last [] ys e = rw (eq-eqb x x refl)
cut_first x last (b ∷ xs) ys e = rw (ne_eqb b x e.0, cut_first x last xs ys e.1)

pub cut_none : (x : ℕ) (xs : List ℕ) → Every (λ b. b ≢ x) xs → parts_at x ([] ∷ []) xs ≡ xs ∷ []
unfolding parts_at before when◌then◌else◌ Every
cut_none x [] e = refl
cut_none x (b ∷ xs) e = rw (ne_eqb b x e.0, cut_none x xs e.1)
