-- Laws of what is left: tests of all places, places taken out, how many are left. Rests on the definitions of specs/Search.
use Prim.Native.Nat.{ℕ, zero, suc, ◌≤◌, ◌<◌}
use native.Mathlib.Omega.{arith}
use native.Mathlib.Decide.{ℕ_discrete, dec_lt}
use mathlib.Core.Path.{◌≡◌, refl, sym, ap, ◌∙◌, fun_ext}
use mathlib.Core.Logic.{◌≢◌, by_cases}
use mathlib.Core.Bool.{Bool, true, false}
use lib.Dec.{eqb}
use Rattle.machine.specs.Choice.{when◌then◌else◌, assign}
use Rattle.machine.proofs.laws.Base.{no_both, is_false, below_suc, and_true, and_parts, assign_at, assign_other, assign_elim}
use Rattle.logs.specs.Log.{all}
use Rattle.logs.specs.Search.{count_left}

-- ---- tests of all places

pub all_at : (n : ℕ) (test : ℕ → Bool) → all n test ≡ true → (i : ℕ) → i < n → test i ≡ true
unfolding all
all_at zero test e i l = absurd (omega arith)
all_at (suc n) test e i l =
    let z = and_parts (all n test) (test n) e in below_suc (λ j. test j ≡ true) n (all_at n test z.0) z.1 i l

pub all_of : (n : ℕ) (test : ℕ → Bool) → ((i : ℕ) → i < n → test i ≡ true) → all n test ≡ true
unfolding all
all_of zero test h = refl
all_of (suc n) test h = and_true (all_of n test (λ i l. h i (omega arith))) (h n (omega arith))

-- ---- one place taken out

module _ (left : ℕ → Bool) (i : ℕ) where
  pub left_before : (j : ℕ) → assign left i false j ≡ true → left j ≡ true
  left_before j = assign_elim (λ b. b ≡ true → left j ≡ true) left i false j (λ e f. absurd (no_both f refl)) (λ e f. f)

  pub not_taken : (j : ℕ) → assign left i false j ≡ true → j ≢ i
  not_taken j f e = no_both f (assign_at left i false j e)

  pub others_left : (j : ℕ) → j ≢ i → left j ≡ true → assign left i false j ≡ true
  others_left j e f = assign_other left i false j e ∙ f

-- two taken out in either order
pub taken_both : (left : ℕ → Bool) (i j : ℕ) → assign (assign left i false) j false ≡ assign (assign left j false) i false
unfolding assign when◌then◌else◌
taken_both left i j = fun_ext (λ k. same k (eqb k i) (eqb k j))
  where
    same : (k : ℕ) (x y : Bool) → when y then false else (when x then false else left k) ≡ when x then false else (when y then false else left k)
    same k true true = refl
    same k true false = refl
    same k false true = refl
    same k false false = refl

-- ---- how many are left

pub left_same : (n : ℕ) (f g : ℕ → Bool) → ((i : ℕ) → i < n → f i ≡ g i) → count_left n f ≡ count_left n g
unfolding count_left
left_same zero f g h = refl
left_same (suc n) f g h = rw (h n (omega arith), left_same n f g (λ i l. h i (omega arith)))

-- one less where one that is left is taken out
pub left_less : (n : ℕ) (left : ℕ → Bool) (i : ℕ) → i < n → left i ≡ true → count_left n left ≡ suc (count_left n (assign left i false))
unfolding count_left when◌then◌else◌
left_less zero left i l e = absurd (omega arith)
left_less (suc n) left i l e = by_cases (ℕ_discrete i n) here (λ z. there z (left n) refl (left_less n left i (omega arith) e))
  where
    here : i ≡ n → count_left (suc n) left ≡ suc (count_left (suc n) (assign left i false))
    here z =
        let same = left_same n (assign left i false) left (λ j k. assign_other left i false j (omega arith)) in
        rw (ap left (sym z) ∙ e, assign_at left i false n (sym z), same)

    there :
        i ≢ n → (b : Bool) → left n ≡ b → count_left n left ≡ suc (count_left n (assign left i false))
        → count_left (suc n) left ≡ suc (count_left (suc n) (assign left i false))
    there z true f ih = rw (assign_other left i false n (λ x. z (sym x)), f, ih)
    there z false f ih = rw (assign_other left i false n (λ x. z (sym x)), f, ih)

pub none_left : (n : ℕ) (left : ℕ → Bool) → count_left n left ≡ 0 → (i : ℕ) → i < n → left i ≡ false
none_left n left z i l = is_false (left i) (λ e. let k = left_less n left i l e in omega arith)

pub all_taken : (n : ℕ) (left : ℕ → Bool) → ((i : ℕ) → i < n → left i ≡ false) → count_left n left ≡ 0
unfolding count_left when◌then◌else◌
all_taken zero left h = refl
all_taken (suc n) left h = rw (h n (omega arith)) (all_taken n left (λ i l. h i (omega arith)))

-- exactly the first c of n
pub left_below : (n c : ℕ) (left : ℕ → Bool) → c ≤ n → ((i : ℕ) → i < c → left i ≡ true) → ((i : ℕ) → c ≤ i → i < n → left i ≡ false)
    → count_left n left ≡ c
unfolding count_left when◌then◌else◌
left_below zero c left l h k = omega arith
left_below (suc n) c left l h k =
    by_cases (dec_lt n c)
    (λ z. rw (h n z) (let e = left_below n n left (omega arith) (λ i y. h i (omega arith)) (λ i y x. absurd (omega arith)) in omega arith))
    (λ z. rw (k n (omega arith) (omega arith)) (left_below n c left (omega arith) h (λ i y x. k i y (omega arith))))
