-- Reading numbers within a limit. Rests on the definitions of specs/Numerals.
use Prim.Native.Nat.{ℕ, zero, suc, zero-le, ◌+◌, ◌-◌, ◌*◌, ◌≤◌, ◌<◌}
use mathlib.Core.Path.{◌≡◌, refl, sym, ◌∙◌, ap}
use mathlib.Core.Logic.{◌⊎◌, inl, inr}
use mathlib.Core.Bool.{Bool, true, false}
use mathlib.Core.List.{List, [], ◌∷◌}
use Rattle.std.specs.Prelude.{Option, Some, None, ◌==◌}
use Rattle.std.specs.Bool.{then_some}
use native.Mathlib.Omega.{arith}
use native.Mathlib.Numerals.{add-one}
use lib.Dec.{leb, eqb-suc-zero}
use lib.IntN.{pos, negsuc}
use lib.ListN.{length, drop, get_or, drop_of_length-le}
use lib.Seq.{drop-cons}
use borrow.Author.Tests.{eq-eqb, ne_eqb, le-leb, lt-leb, leb-true}
use Rattle.machine.specs.Choice.{when◌then◌else◌, ◌and◌}
use Rattle.decimals.specs.Ascii.{minus_sign, zero_digit, nine_digit}
use Rattle.numerals.specs.Numerals.{is_digit, digits_after, zero_then, numeral, plus, minus, signed_numeral, up_to, in64, greatest_total, least_total_size}

-- ---- limits

pub up-to : (most v : ℕ) → v ≤ most → up_to most (Some v) ≡ Some v
unfolding up_to when◌then◌else◌
up-to most v h = rw (le-leb v most h)

pub past : (most v : ℕ) → most < v → up_to most (Some v) ≡ None
unfolding up_to when◌then◌else◌
past most v h = rw (lt-leb v most h)

module _ {A : Type 0} where
  pub some_none : {a : A} → Some a ≡ None → ⊥
  some_none {a} e = let z : ◌≡◌ {A = ℕ} 0 1 = cc in omega arith

  -- a test that lets something through
  pub passed : (t : Bool) (o : Option A) (v : A) → when t then o else None ≡ Some v → (t ≡ true) × (o ≡ Some v)
  unfolding when◌then◌else◌
  passed true o v e = (refl, e)
  passed false o v e = absurd (some_none (sym e))

-- what is read within a limit is within it, and was read
pub limited : (most : ℕ) (o : Option ℕ) (v : ℕ) → up_to most o ≡ Some v → v ≤ most
unfolding up_to
limited most None v e = absurd (some_none (sym e))
limited most (Some u) v e =
    let k = passed (leb u most) (Some u) v e in
    let h = leb-true u most k.0 in
    let r : Some u ≡ Some v = k.1 in
    let q : u ≡ v = cc in
    omega arith

-- ---- digits

pub digit_yes : (b : ℕ) → zero_digit ≤ b → b ≤ nine_digit → is_digit b ≡ true
unfolding is_digit ◌and◌
digit_yes b h k = rw (le-leb zero_digit b h, le-leb b nine_digit k)

pub digit_low : (b : ℕ) → b < zero_digit → is_digit b ≡ false
unfolding is_digit ◌and◌
digit_low b h = rw (lt-leb zero_digit b h)

pub digit_high : (b : ℕ) → nine_digit < b → is_digit b ≡ false
unfolding is_digit ◌and◌
digit_high b h = rw (le-leb zero_digit b (omega arith), lt-leb b nine_digit h)

past_if : (t : Bool) (most : ℕ) (o : Option ℕ) → up_to most o ≡ None → up_to most (when t then o else None) ≡ None
unfolding up_to when◌then◌else◌
past_if true most o e = e
past_if false most o e = refl

-- once past the limit, no digit leads back
pub stays_past : (most v : ℕ) (bs : List ℕ) → most < v → up_to most (digits_after v bs) ≡ None
unfolding digits_after
stays_past most v [] h = past most v h
stays_past most v (b ∷ bs) h =
    past_if (is_digit b) most (digits_after (v * 10 + (b - zero_digit)) bs) (stays_past most (v * 10 + (b - zero_digit)) bs (omega arith))

-- one byte of a field, read after those that said v
module _ (most v : ℕ) (l : List ℕ) (i : ℕ) (h : i < length l) where
  stop : is_digit (get_or l i 0) ≡ false → up_to most (digits_after v (drop i l)) ≡ None
  unfolding digits_after up_to when◌then◌else◌
  stop e = rw (drop-cons l i 0 h, e)

  pub stop_other : (get_or l i 0 < zero_digit) ⊎ (nine_digit < get_or l i 0) → up_to most (digits_after v (drop i l)) ≡ None
  stop_other k = stop (elim k [ inl h ↦ digit_low (get_or l i 0) h | inr h ↦ digit_high (get_or l i 0) h ])

  pub go_on : zero_digit ≤ get_or l i 0 → get_or l i 0 ≤ nine_digit
      → up_to most (digits_after v (drop i l)) ≡ up_to most (digits_after (v * 10 + (get_or l i 0 - zero_digit)) (drop (i + 1) l))
  unfolding digits_after when◌then◌else◌
  go_on j k = rw (drop-cons l i 0 h, digit_yes (get_or l i 0) j k, add-one)

  pub stop_large : zero_digit ≤ get_or l i 0 → get_or l i 0 ≤ nine_digit → most < v * 10 + (get_or l i 0 - zero_digit)
      → up_to most (digits_after v (drop i l)) ≡ None
  stop_large j k m = go_on j k ∙ stays_past most (v * 10 + (get_or l i 0 - zero_digit)) (drop (i + 1) l) m

pub digits_end : (most v : ℕ) (l : List ℕ) (i : ℕ) → length l ≤ i → v ≤ most → up_to most (digits_after v (drop i l)) ≡ Some v
unfolding digits_after
digits_end most v l i h k = rw (drop_of_length-le l h) (up-to most v k)

-- ---- whole fields

pub no_bytes : (l : List ℕ) → length l ≡ 0 → numeral l ≡ None
unfolding numeral
no_bytes [] e = refl
no_bytes (b ∷ l) e = absurd (omega arith)

-- a zero comes alone
pub zero_first : (most : ℕ) (l : List ℕ) → 0 < length l → get_or l 0 0 ≡ zero_digit → up_to most (numeral l) ≡ then_some (length (drop 1 l) == 0) 0
unfolding numeral zero_then up_to when◌then◌else◌
zero_first most [] h e = absurd (omega arith)
zero_first most (b ∷ []) h e = rw (eq-eqb b zero_digit e, le-leb 0 most (zero-le))
zero_first most (b ∷ d ∷ l) h e = rw (eq-eqb b zero_digit e, eqb-suc-zero (length l))

pub no_leading_zero : (l : List ℕ) → 0 < length l → (get_or l 0 0 ≡ zero_digit → ⊥) → numeral l ≡ digits_after 0 l
unfolding numeral when◌then◌else◌
no_leading_zero [] h e = absurd (omega arith)
no_leading_zero (b ∷ l) h e = rw (ne_eqb b zero_digit e)

-- ---- signs

module _ {A B : Type 0} (f : Option A → Option B) where
  -- what keeps nothing as it is goes through a test
  through : (t : Bool) (a : A) (b : B) → f (Some a) ≡ Some b → f None ≡ None → when t then Some b else None ≡ f (when t then Some a else None)
  unfolding when◌then◌else◌
  through true a b e z = sym e
  through false a b e z = sym z

pub plus_limit : (o : Option ℕ) → in64 (plus o) ≡ plus (up_to greatest_total o)
unfolding in64 plus up_to
plus_limit None = refl
plus_limit (Some n) = through plus (leb n greatest_total) n (pos n) refl refl

pub minus_limit : (o : Option ℕ) → in64 (minus o) ≡ minus (up_to least_total_size o)
unfolding in64 minus up_to when◌then◌else◌
minus_limit None = refl
minus_limit (Some zero) = refl
minus_limit (Some (suc n)) = through minus (leb (suc n) least_total_size) (suc n) (negsuc n) refl refl

pub minus_some : (n : ℕ) → 0 < n → minus (Some n) ≡ Some (negsuc (n - 1))
unfolding minus
minus_some zero h = absurd (omega arith)
minus_some (suc n) h = let e : n ≡ suc n - 1 = omega arith in ap (λ (k : ℕ). Some (negsuc k)) e

pub signed_minus : (l : List ℕ) → 0 < length l → get_or l 0 0 ≡ minus_sign → signed_numeral l ≡ minus (numeral (drop 1 l))
unfolding signed_numeral when◌then◌else◌
signed_minus [] h e = absurd (omega arith)
signed_minus (b ∷ l) h e = rw (eq-eqb b minus_sign e)

pub signed_plus : (l : List ℕ) → 0 < length l → (get_or l 0 0 ≡ minus_sign → ⊥) → signed_numeral l ≡ plus (numeral l)
unfolding signed_numeral when◌then◌else◌
signed_plus [] h e = absurd (omega arith)
signed_plus (b ∷ l) h e = rw (ne_eqb b minus_sign e)

pub signed_empty : (l : List ℕ) → length l ≡ 0 → signed_numeral l ≡ None
unfolding signed_numeral
signed_empty [] e = refl
signed_empty (b ∷ l) e = absurd (omega arith)
