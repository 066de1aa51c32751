-- What fits 64 bits is a total, and the other way round; and the test that a sum is one, against the end that the amount's sign
-- points to: its bound is a total itself, and it passes exactly where the sum is. Rests on the library's integers.
use Prim.Native.Nat.{ℕ, zero, suc, ◌+◌, ◌-◌, ◌≤◌, ◌<◌}
use native.Mathlib.Omega.{arith}
use native.Mathlib.Decide.{dec_lt}
use mathlib.Core.Path.{◌≡◌, refl, sym, ap, ◌∙◌}
use mathlib.Core.Logic.{by_cases}
use mathlib.Core.Bool.{Bool, true, false, not, ◌&&◌, cond}
use lib.Dec.{ltb, leb}
use lib.IntN.{ℤ, pos, negsuc, sub_ℕ, ◌+ℤ◌, ◌-ℤ◌}
use lib.Signed.{lt_z, mag}
use mir.Syntax.{w64}
use mir.Val.{SFits, to_z, of_z}
use borrow.Author.Tests.{lt-ltb, le-ltb, le-leb, lt-leb, leb-true, ltb-true, ltb-false}
use Rattle.machine.specs.Sequential.{least_total, greatest_total, is_total}
use mir.Facts.{to_z-of_z}
use Rattle.std.specs.Prelude.{Option, Some, None}
use Rattle.std.specs.Option.{SomeIff}
use Rattle.std.proofs.lemmas.Option.{same_Some}
use Rattle.machine.specs.Choice.{when◌then◌else◌}
use Rattle.machine.proofs.laws.Base.{if_true, if_false, none_some}

-- ---- naturals

-- a difference, by its sign
sub_elim : (P : ℤ → Type 0) (a b : ℕ) → (a < b → P (negsuc (b - suc a))) → (b ≤ a → P (pos (a - b))) → P (sub_ℕ a b)
sub_elim P a b h k = go (ltb a b) refl
  where
    go : (t : Bool) → ltb a b ≡ t → P (cond t (negsuc (b - suc a)) (pos (a - b)))
    go true e = h (ltb-true a b e)
    go false e = k (ltb-false a b e)

-- two tests of which one passes where the other fails
opposite : (a b c d : ℕ) → (a ≤ b → d ≤ c) → (d ≤ c → a ≤ b) → leb a b ≡ not (ltb c d)
opposite a b c d h k =
    by_cases (dec_lt c d)
    (λ l. lt-leb a b (by_cases (dec_lt b a) (λ m. m) (λ m. omega (arith, h (omega arith)))) ∙ ap not (sym (lt-ltb c d l)))
    (λ l. le-leb a b (k (omega arith)) ∙ ap not (sym (le-ltb c d (omega arith))))

-- ---- the range

and_true : (x : Bool) → (x && true) ≡ x
and_true true = refl
and_true false = refl

-- a total is a number of 64 bits, by its distance from 0
range_is : (z : ℤ) → is_total z ≡ leb (mag z) 9_223_372_036_854_775_807
unfolding is_total
range_is (pos n) = refl
range_is (negsuc n) = and_true _

pub fits_total : (z : ℤ) → is_total z ≡ true → SFits w64 z
fits_total z e = record { sfits = let h = leb-true (mag z) _ (sym (range_is z) ∙ e) in omega arith }

-- ---- an amount below 0

module _ (x v : ℤ) (fx : SFits w64 x) (fv : SFits w64 v) (negative : lt_z v (pos 0) ≡ true) where
  pub low_bound_fits : SFits w64 (least_total -ℤ v)
  low_bound_fits = go v fv negative
    where
      go : (v : ℤ) → SFits w64 v → lt_z v (pos 0) ≡ true → SFits w64 (least_total -ℤ v)
      go (pos k) f e = absurd (let h = ltb-true k 0 e in omega arith)
      go (negsuc k) f e =
          sub_elim (SFits w64) (suc k) _ (λ h. record { sfits = omega (arith, f.sfits) }) (λ h. record { sfits = omega (arith, f.sfits) })

  pub low_test : is_total (x +ℤ v) ≡ not (lt_z x (least_total -ℤ v))
  low_test = range_is (x +ℤ v) ∙ go x v fx fv negative
    where
      go : (x v : ℤ) → SFits w64 x → SFits w64 v → lt_z v (pos 0) ≡ true
          → leb (mag (x +ℤ v)) 9_223_372_036_854_775_807 ≡ not (lt_z x (least_total -ℤ v))
      go x (pos k) f g e = absurd (let h = ltb-true k 0 e in omega arith)
      go (pos a) (negsuc k) f g e =
          sub_elim (λ (z : ℤ). leb (mag z) 9_223_372_036_854_775_807 ≡ not (lt_z (pos a) (least_total -ℤ negsuc k))) a (suc k)
          (λ h. le-leb (suc k - suc a) _ (omega (arith, g.sfits)) ∙ above) (λ h. le-leb (a - suc k) _ (omega (arith, f.sfits)) ∙ above)
        where
          above : true ≡ not (lt_z (pos a) (least_total -ℤ negsuc k))
          above =
              sub_elim (λ (z : ℤ). true ≡ not (lt_z (pos a) z)) (suc k) 9_223_372_036_854_775_808 (λ h. refl)
              (λ h. ap not (sym (le-ltb a (suc k - 9_223_372_036_854_775_808) (omega (arith, g.sfits)))))
      go (negsuc a) (negsuc k) f g e =
          sub_elim (λ (z : ℤ). leb (suc (a + k)) 9_223_372_036_854_775_807 ≡ not (lt_z (negsuc a) z)) (suc k) _
          (λ h. opposite (suc (a + k)) _ (9_223_372_036_854_775_808 - suc (suc k)) a (λ l. omega arith) (λ l. omega arith))
          (λ h. lt-leb (suc (a + k)) _ (omega arith))

-- ---- an amount of 0 or more

module _ (x v : ℤ) (fx : SFits w64 x) (fv : SFits w64 v) (positive : lt_z v (pos 0) ≡ false) where
  pub high_bound_fits : SFits w64 (greatest_total -ℤ v)
  high_bound_fits = go v fv positive
    where
      go : (v : ℤ) → SFits w64 v → lt_z v (pos 0) ≡ false → SFits w64 (greatest_total -ℤ v)
      go (pos zero) f e = record { sfits = omega arith }
      go (pos (suc k)) f e =
          sub_elim (SFits w64) _ (suc k) (λ h. record { sfits = omega (arith, f.sfits) }) (λ h. record { sfits = omega (arith, f.sfits) })
      go (negsuc k) f e = absurd (let z : ◌≡◌ {A = ℕ} 0 1 = cc in omega arith)

  pub high_test : is_total (x +ℤ v) ≡ not (lt_z (greatest_total -ℤ v) x)
  high_test = range_is (x +ℤ v) ∙ go x v fx fv positive
    where
      go : (x v : ℤ) → SFits w64 x → SFits w64 v → lt_z v (pos 0) ≡ false
          → leb (mag (x +ℤ v)) 9_223_372_036_854_775_807 ≡ not (lt_z (greatest_total -ℤ v) x)
      go x (negsuc k) f g e = absurd (let z : ◌≡◌ {A = ℕ} 0 1 = cc in omega arith)
      go (pos a) (pos zero) f g e =
          opposite (a + 0) 9_223_372_036_854_775_807 9_223_372_036_854_775_807 a (λ l. omega arith) (λ l. omega arith)
      go (pos a) (pos (suc k)) f g e =
          sub_elim (λ (z : ℤ). leb (a + suc k) 9_223_372_036_854_775_807 ≡ not (lt_z z (pos a))) _ (suc k)
          (λ h. absurd (omega (arith, g.sfits)))
          (λ h. opposite (a + suc k) _ (9_223_372_036_854_775_807 - suc k) a (λ l. omega arith) (λ l. omega arith))
      go (negsuc a) (pos zero) f g e =
          sub_elim (λ (z : ℤ). leb (mag z) 9_223_372_036_854_775_807 ≡ true) zero (suc a)
          (λ h. le-leb (suc a - suc zero) _ (omega (arith, f.sfits))) (λ h. absurd (omega arith))
      go (negsuc a) (pos (suc k)) f g e =
          sub_elim (λ (z : ℤ). leb (mag z) 9_223_372_036_854_775_807 ≡ not (lt_z (greatest_total -ℤ pos (suc k)) (negsuc a))) (suc k) (suc a)
          (λ h. le-leb (suc a - suc (suc k)) _ (omega (arith, f.sfits)) ∙ above)
          (λ h. le-leb (suc k - suc a) _ (omega (arith, g.sfits)) ∙ above)
        where
          above : true ≡ not (lt_z (greatest_total -ℤ pos (suc k)) (negsuc a))
          above = sub_elim (λ (z : ℤ). true ≡ not (lt_z z (negsuc a))) _ (suc k) (λ h. absurd (omega (arith, g.sfits))) (λ h. refl)

-- ---- a checked sum

total_fits : (z : ℤ) → SFits w64 z → is_total z ≡ true
total_fits z f = range_is z ∙ le-leb (mag z) _ (omega (arith, f.sfits))

-- a sum that is checked is there exactly where it is a total
pub checked : (r : Option ℤ) (z : ℤ) → SomeIff r (SFits w64 z) z → r ≡ when is_total z then Some z else None
checked (Some x) z h = rw h.1 (sym (if_true _ _ (total_fits z h.0)))
checked None z h = by (is_total z) refl
  where
    by : (t : Bool) → is_total z ≡ t → None ≡ when is_total z then Some z else None
    by true e = absurd (h (fits_total z e))
    by false e = sym (if_false _ _ e)

-- the words of a sum that is no total, and of one that is
pub no_word : (z : ℤ) (t : Bool) → (when t then Some z else None) ≡ None → (when t then Some (of_z w64 z) else None) ≡ None
unfolding when◌then◌else◌
no_word z true e = absurd (none_some e refl)
no_word z false e = refl

pub word : (z s : ℤ) → (when is_total z then Some z else None) ≡ Some s
    → (when is_total z then Some (of_z w64 z) else None) ≡ Some (of_z w64 (to_z w64 (of_z w64 s)))
unfolding when◌then◌else◌
word z s e = by (is_total z) refl e
  where
    by : (t : Bool) → is_total z ≡ t → (when t then Some z else None) ≡ Some s
        → (when t then Some (of_z w64 z) else None) ≡ Some (of_z w64 (to_z w64 (of_z w64 s)))
    by true f e = rw (sym (same_Some z s e)) (ap (λ (x : ℤ). Some (of_z w64 x)) (sym (to_z-of_z (fits_total z f))))
    by false f e = absurd (none_some refl e)
