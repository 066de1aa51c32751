-- Laws of the comparison of two lists: what it finds the same is equal, and it is the library's, either way round. Rests on the
-- definition.
use Prim.Native.Nat.{ℕ}
use native.Mathlib.Omega.{arith}
use mathlib.Core.Path.{◌≡◌, refl}
use mathlib.Core.List.{List, [], ◌∷◌}
use mathlib.Core.Bool.{true}
use lib.Dec.{eqb}
use borrow.Author.Tests.{eqb-true}
use Rattle.std.proofs.lemmas.Bool.Decides.{nat_tests}
use Rattle.std.specs.Cmp.Lexicographic.{pointwise}
use Rattle.machine.specs.Choice.{◌and◌}
use Rattle.machine.proofs.laws.Base.{no_both, and_parts}
use Rattle.logs.specs.Same.{same_numbers}

pub same-numbers : (x y : List ℕ) → same_numbers x y ≡ true → x ≡ y
unfolding same_numbers
same-numbers [] [] e = refl
same-numbers [] (b ∷ y) e = absurd (no_both e refl)
same-numbers (a ∷ x) [] e = absurd (no_both e refl)
same-numbers (a ∷ x) (b ∷ y) e =
    let p = and_parts (eqb a b) (same_numbers x y) e in
    let h = eqb-true a b p.0 in
    let t = same-numbers x y p.1 in
    cc

pub as_library : (x y : List ℕ) → pointwise eqb x y ≡ same_numbers x y
unfolding same_numbers ◌and◌
as_library [] [] = refl
as_library [] (b ∷ y) = refl
as_library (a ∷ x) [] = refl
as_library (a ∷ x) (b ∷ y) = grind (arith, nat_tests, as_library x y)

pub as_library_turned : (x y : List ℕ) → pointwise eqb x y ≡ same_numbers y x
unfolding same_numbers ◌and◌
as_library_turned [] [] = refl
as_library_turned [] (b ∷ y) = refl
as_library_turned (a ∷ x) [] = refl
as_library_turned (a ∷ x) (b ∷ y) = grind (arith, nat_tests, as_library_turned x y)
