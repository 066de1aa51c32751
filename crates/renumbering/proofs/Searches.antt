-- Laws of the searches that the code makes by loops: a test tried for each number from the last one down, and the least free number.
-- Rests on the definitions of specs/Numbers.
use Prim.Native.Nat.{ℕ, zero, suc, ◌+◌, ◌-◌, ◌≤◌, ◌<◌}
use native.Mathlib.Numerals.{add-one}
use native.Mathlib.Omega.{arith}
use mathlib.Core.Path.{◌≡◌, refl, sym, ◌∙◌, ap}
use mathlib.Core.Bool.{Bool, true, false, not, ◌||◌}
use native.Mathlib.Nat.{add-zero, zero-add}
use mathlib.Core.List.{List}
use lib.Dec.{eqb}
use Rattle.std.specs.List.{find, list_any, range_with_len}
use Rattle.std.specs.Option.{option_map, unwrap_or}
use Rattle.std.specs.Prelude.{Option, Some, None, cond}
use Rattle.machine.specs.Choice.{when◌then◌else◌, ◌and◌}
use Rattle.machine.proofs.laws.Base.{if_true, if_false}
use Rattle.layout.specs.Shape.{word}
use Rattle.fields.specs.Fields.{worker_held, worker_state}
use Rattle.fields.specs.Regions.{worker_at}
use Rattle.renumbering.specs.Numbers.{any, least_free}

or_join : (a b c : Bool) → (a || (b || c)) ≡ ((a || b) || c)
or_join true b c = refl
or_join false b c = refl

or_none : (a : Bool) → (a || false) ≡ a
or_none true = refl
or_none false = refl

either : (a b : Bool) → (a || b) ≡ when b then true else a
unfolding when◌then◌else◌
either true true = refl
either true false = refl
either false true = refl
either false false = refl

same : (r : Option ℕ) (n : ℕ) → unwrap_or r n ≡ unwrap_or (option_map (λ x. x) r) n
same None n = refl
same (Some x) n = refl

module _ (f : ℕ → Bool) where
  pub any_hit : (j : ℕ) → 0 < j → f (j - 1) ≡ true → any j f ≡ true
  unfolding any
  any_hit zero h e = absurd (omega arith)
  any_hit (suc j) h e = let k : suc j - 1 ≡ j = omega arith in if_true _ _ (rw k at e)

  pub any_turn : (j : ℕ) → 0 < j → f (j - 1) ≡ false → any (j - 1) f ≡ any j f
  unfolding any
  any_turn zero h e = absurd (omega arith)
  any_turn (suc j) h e = let k : suc j - 1 ≡ j = omega arith in rw k (sym (if_false _ _ (rw k at e)))

  pub any_none : (j : ℕ) → j ≤ 0 → any j f ≡ false
  unfolding any
  any_none zero h = refl
  any_none (suc j) h = absurd (omega arith)

  -- the library's search, over the numbers from a on
  any_last : (a n : ℕ) → list_any f (range_with_len a (suc n)) ≡ (list_any f (range_with_len a n) || f (a + n))
  any_last a zero = rw add-zero (or_none (f a))
  any_last a (suc n) =
      let e : a + 1 + n ≡ a + suc n = omega arith in
      ap (λ (b : Bool). f a || b) (any_last (a + 1) n) ∙ or_join (f a) (list_any f (range_with_len (a + 1) n)) (f (a + 1 + n))
      ∙ ap (λ (k : ℕ). f a || list_any f (range_with_len (a + 1) n) || f k) e

  pub any_listed : (n : ℕ) → list_any f (range_with_len 0 n) ≡ any n f
  unfolding any
  any_listed zero = refl
  any_listed (suc n) =
      any_last 0 n ∙ rw zero-add (ap (λ (b : Bool). b || f n) (any_listed n) ∙ either (any n f) (f n))

  least_found : (i k : ℕ) → unwrap_or (find (λ x. not (f x)) (range_with_len i k)) (i + k) ≡ least_free f i k
  unfolding least_free when◌then◌else◌
  least_found i zero = add-zero i
  least_found i (suc k) =
      let e : i + suc k ≡ i + 1 + k = omega arith in
      go (f i) (rw (e, ← add-one i) (least_found (i + 1) k))
    where
      go :
          (t : Bool) → unwrap_or (find (λ x. not (f x)) (range_with_len (i + 1) k)) (i + suc k) ≡ least_free f (suc i) k
          → unwrap_or (cond (not t) (Some i) (find (λ x. not (f x)) (range_with_len (i + 1) k))) (i + suc k)
          ≡ when t then least_free f (suc i) k else i
      go true h = h
      go false h = refl

  pub least_listed :
      (r : Option ℕ) (n : ℕ) → option_map (λ x. x) r ≡ find (λ x. not (f x)) (range_with_len 0 n) → unwrap_or r n ≡ least_free f 0 n
  least_listed r n e = same r n ∙ ap (λ (o : Option ℕ). unwrap_or o n) e ∙ rw zero-add at (least_found 0 n)

-- ---- the tests of the searches among the workers

-- word k of worker j's record is x
abbrev pub has : List ℕ → ℕ → ℕ → ℕ → ℕ → Bool
has l n k x j = eqb (word l (worker_at n j + k)) x

abbrev pub read_number : List ℕ → ℕ → ℕ → ℕ → ℕ → Bool
read_number l n q x j = has l n worker_held q j and has l n worker_state x j
