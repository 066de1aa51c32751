-- A line cut at its spaces, field by field. Rests on the definitions of specs/Grammar.
use Prim.Native.Nat.{ℕ, suc, ◌+◌, ◌≤◌, ◌<◌}
use mathlib.Core.Path.{◌≡◌, refl, sym, ◌∙◌, ap}
use mathlib.Core.Bool.{Bool, true, false, not, cond}
use mathlib.Core.List.{List, [], ◌∷◌}
use native.Mathlib.Omega.{arith}
use native.Mathlib.Numerals.{add-one}
use lib.Dec.{eqb, ltb}
use lib.ListN.{length, take, drop, get_or}
use borrow.Author.Tests.{ltb-true, ltb-false}
use Rattle.std.specs.Prelude.{Some, None}
use Rattle.std.specs.Option.{unwrap_or}
use Rattle.std.specs.List.{position, position_or_len}
use Rattle.std.proofs.lemmas.List.Sums.{prefix_len-le-length}
use Rattle.std.proofs.lemmas.List.Recursion.{is_position_or_len}
use Rattle.machine.specs.Choice.{when◌then◌else◌}
use Rattle.decimals.specs.Ascii.{space}
use Rattle.commands.specs.Commands.{one_field}
use Rattle.numerals.specs.Cut.{before, parts_at}
use Rattle.lines.specs.Grammar.{fields_of, first_field, letter_of, of_fields, command_of}

-- ---- the first field, byte by byte

pub first_field_at : (l : List ℕ) → first_field l ≡ position_or_len (λ b. eqb b space) l
unfolding first_field when◌then◌else◌
first_field_at = is_position_or_len first_field (λ b. eqb b space) refl (λ x xs. by (eqb x space) (first_field xs))
  where
    by : (t : Bool) (n : ℕ) → (when t then 0 else suc n) ≡ cond t 0 (1 + n)
    by true n = refl
    by false n = omega arith

module _ (l : List ℕ) where
  abbrev at : ℕ
  at = position_or_len (λ b. eqb b space) l

  -- where a space is found
  pub found : (i : ℕ) → Some i ≡ position (λ b. eqb b space) l → (i ≡ first_field l) × (i < length l)
  found i h = by (ltb at (length l)) refl h
    where
      by : (t : Bool) → ltb at (length l) ≡ t → Some i ≡ cond t (Some at) None → (i ≡ first_field l) × (i < length l)
      by true e p = let n : i ≡ at = cc in (n ∙ sym (first_field_at l), let b = ltb-true at (length l) e in omega arith)
      by false e p = cc

  pub none_found : None ≡ position (λ b. eqb b space) l → length l ≤ first_field l
  none_found h = by (ltb at (length l)) refl h
    where
      by : (t : Bool) → ltb at (length l) ≡ t → None ≡ cond t (Some at) None → length l ≤ first_field l
      by true e p = cc
      by false e p = rw (first_field_at l) (ltb-false at (length l) e)

  pub or_length : unwrap_or (position (λ b. eqb b space) l) (length l) ≡ first_field l
  or_length = by (ltb at (length l)) refl
    where
      by : (t : Bool) → ltb at (length l) ≡ t → unwrap_or (cond t (Some at) None) (length l) ≡ first_field l
      by true e = sym (first_field_at l)
      by false e = let b = ltb-false at (length l) e in omega (arith, first_field_at l, prefix_len-le-length (λ b. not (eqb b space)) l)

-- ---- the fields, one by one

one_step : (t : Bool) (b : ℕ) (bs : List ℕ) → suc (length bs) ≤ (when t then 0 else suc (first_field bs))
    → (length bs ≤ first_field bs → fields_of bs ≡ bs ∷ []) → when t then [] ∷ fields_of bs else before b (fields_of bs) ≡ (b ∷ bs) ∷ []
unfolding when◌then◌else◌ before
one_step true b bs h ih = absurd (omega arith)
one_step false b bs h ih = rw (ih (omega arith))

-- a line with no space is one field
pub one-field : (l : List ℕ) → length l ≤ first_field l → fields_of l ≡ l ∷ []
unfolding fields_of parts_at first_field
one-field [] h = refl
one-field (b ∷ bs) h = one_step (eqb b space) b bs h (one-field bs)

more_step : (t : Bool) (b : ℕ) (bs : List ℕ) → (when t then 0 else suc (first_field bs)) < suc (length bs)
    → (first_field bs < length bs → fields_of bs ≡ take (first_field bs) bs ∷ fields_of (drop (suc (first_field bs)) bs))
    → when t then [] ∷ fields_of bs else before b (fields_of bs)
    ≡ take (when t then 0 else suc (first_field bs)) (b ∷ bs) ∷ fields_of (drop (suc (when t then 0 else suc (first_field bs))) (b ∷ bs))
unfolding when◌then◌else◌ before
more_step true b bs h ih = refl
more_step false b bs h ih = rw (ih (omega arith))

at_space : (l : List ℕ) → first_field l < length l → fields_of l ≡ take (first_field l) l ∷ fields_of (drop (suc (first_field l)) l)
unfolding fields_of parts_at first_field
at_space [] h = absurd (omega arith)
at_space (b ∷ bs) h = more_step (eqb b space) b bs h (at_space bs)

-- a line with a space is its first field and the fields after the space
pub more_fields : (l : List ℕ) (n : ℕ) → n ≡ first_field l → n < length l → fields_of l ≡ take n l ∷ fields_of (drop (n + 1) l)
more_fields l n e h = rw (e, add-one) (at_space l (rw e at h))

-- there is a field in every line
module _ (b : ℕ) where
  starts : (ps : List (List ℕ)) → (p : List ℕ) × (qs : List (List ℕ)) × (before b ps ≡ p ∷ qs)
  unfolding before
  starts [] = (b ∷ [], [], refl)
  starts (p ∷ ps) = (b ∷ p, ps, refl)

  begins : (t : Bool) (ps : List (List ℕ)) → (p : List ℕ) × (qs : List (List ℕ)) × (when t then [] ∷ ps else before b ps ≡ p ∷ qs)
  unfolding when◌then◌else◌
  begins true ps = ([], ps, refl)
  begins false ps = starts ps

pub some_field : (l : List ℕ) → (p : List ℕ) × (qs : List (List ℕ)) × (fields_of l ≡ p ∷ qs)
unfolding fields_of parts_at
some_field [] = ([], [], refl)
some_field (b ∷ bs) = begins b (eqb b space) (fields_of bs)

-- five fields and more mean nothing
pub too_many : (f x y z l : List ℕ) → None ≡ of_fields (f ∷ x ∷ y ∷ z ∷ fields_of l)
unfolding of_fields
too_many f x y z l = rw (some_field l).2

-- ---- the letter

pub letter_one : (l : List ℕ) → length l ≡ 1 → get_or l 0 0 ≡ letter_of l
unfolding letter_of
letter_one [] e = absurd (omega arith)
letter_one (b ∷ []) e = refl
letter_one (b ∷ c ∷ l) e = absurd (omega arith)

pub letter_none : (l : List ℕ) → (length l ≡ 1 → ⊥) → 0 ≡ letter_of l
unfolding letter_of
letter_none [] e = refl
letter_none (b ∷ []) e = absurd (e refl)
letter_none (b ∷ c ∷ l) e = refl

-- only the letter counts of the first field
pub by_letter : (f : List ℕ) (fs : List (List ℕ)) → of_fields (f ∷ fs) ≡ of_fields ((letter_of f ∷ []) ∷ fs)
unfolding of_fields letter_of
by_letter f [] = refl
by_letter f (x ∷ []) = refl
by_letter f (x ∷ y ∷ []) = refl
by_letter f (x ∷ y ∷ z ∷ []) = refl
by_letter f (x ∷ y ∷ z ∷ g ∷ gs) = refl

-- ---- a line of one field, and of more

pub alone : (l : List ℕ) → length l ≤ first_field l → command_of l ≡ one_field (letter_of l)
unfolding command_of of_fields
alone l h = rw (one-field l h)

pub followed : (l : List ℕ) (n : ℕ) → n ≡ first_field l → n < length l
    → command_of l ≡ of_fields ((letter_of (take n l) ∷ []) ∷ fields_of (drop (n + 1) l))
unfolding command_of
followed l n e h = ap of_fields (more_fields l n e h) ∙ by_letter (take n l) (fields_of (drop (n + 1) l))
