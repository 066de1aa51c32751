-- What holds of each item: of joined lists, and of anything weaker. Rests on the definition of specs/Every.
use mathlib.Core.List.{List, [], ◌∷◌, ◌++◌}
use Rattle.lists.specs.Every.{Every}

module _ {A : Type 0} where
  pub every_append : (P : A → Type 0) (xs ys : List A) → Every P xs → Every P ys → Every P (xs ++ ys)
  unfolding Every
  every_append P [] ys e f = f
  every_append P (x ∷ xs) ys e f = (e.0, every_append P xs ys e.1 f)

  pub every_weaker : {P Q : A → Type 0} → ((x : A) → P x → Q x) → (xs : List A) → Every P xs → Every Q xs
  unfolding Every
  every_weaker h [] e = tt
  every_weaker h (x ∷ xs) e = (h x e.0, every_weaker h xs e.1)
