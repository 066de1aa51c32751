-- Numbers that were written in decimal are read back. Rests on the decimals' laws and on those of NumeralLaws.
use Prim.Native.Nat.{ℕ, zero, suc, ◌+◌, ◌-◌, ◌*◌, ◌/◌, ◌%◌, ◌^◌, ◌≤◌, ◌<◌}
use mathlib.Core.Path.{◌≡◌, refl, sym, ◌∙◌, ap}
use mathlib.Core.Bool.{Bool, true, false}
use mathlib.Core.List.{List, [], ◌∷◌, ◌++◌}
use Rattle.std.specs.Prelude.{Option, Some}
use native.Mathlib.Nat.{pow-suc, one-le-pow, mod-eq_of_lt}
use native.Mathlib.Omega.{arith}
use lib.Arith.{mod-mul}
use lib.Dec.{eqb, ltb}
use borrow.Author.Tests.{ltb-true, ltb-false, ne_eqb}
use Rattle.machine.specs.Choice.{when◌then◌else◌}
use Rattle.decimals.specs.Ascii.{zero_digit}
use Rattle.decimals.specs.Decimals.{digit, digits, decimal}
use Rattle.decimals.proofs.DecimalLaws.{digit_count_small, digit_count_large}
use Rattle.numerals.specs.Numerals.{is_digit, digits_after, zero_then, numeral}
use Rattle.numerals.proofs.NumeralLaws.{some_none, passed, digit_yes}

-- ---- one more digit

-- behind digits that said u
next_digit : (v : ℕ) (xs : List ℕ) (u d : ℕ) → d < 10 → digits_after v xs ≡ Some u → digits_after v (xs ++ digit d ∷ []) ≡ Some (u * 10 + d)
unfolding digits_after digit when◌then◌else◌
next_digit v [] u d h e =
    let q : v ≡ u = cc in
    rw (digit_yes (zero_digit + d) (omega arith) (omega arith)) (ap Some (omega arith))
next_digit v (b ∷ xs) u d h e =
    let k = passed (is_digit b) (digits_after (v * 10 + (b - zero_digit)) xs) u e in
    rw k.0 (next_digit (v * 10 + (b - zero_digit)) xs u d h k.1)

-- ---- so many digits

pub digits_read : (k n v : ℕ) → digits_after v (digits k n) ≡ Some (v * 10 ^ k + n % 10 ^ k)
unfolding digits digits_after
digits_read zero n v = ap Some (omega arith)
digits_read (suc k) n v =
    next_digit v (digits k (n / 10)) (v * 10 ^ k + n / 10 % 10 ^ k) (n % 10) (omega arith) (digits_read k (n / 10) v)
    ∙ rw (pow-suc 10 k, mod-mul n {m = 10 ^ k} {c = 10} (one-le-pow k 10 (omega arith)) (omega arith)) (ap Some (omega arith))

-- ---- whole numbers

-- one more digit behind a number that is not 0
next_numeral : (xs : List ℕ) (u d : ℕ) → 0 < u → d < 10 → numeral xs ≡ Some u → numeral (xs ++ digit d ∷ []) ≡ Some (u * 10 + d)
unfolding numeral zero_then when◌then◌else◌
next_numeral [] u d h k e = absurd (some_none (sym e))
next_numeral (b ∷ xs) u d h k e = by (eqb b zero_digit) xs e (next_digit 0 (b ∷ xs) u d k)
  where
    by : (t : Bool) (ys : List ℕ) {o p : Option ℕ} → when t then zero_then ys else o ≡ Some u → (o ≡ Some u → p ≡ Some (u * 10 + d))
        → when t then zero_then (ys ++ digit d ∷ []) else p ≡ Some (u * 10 + d)
    by true [] f g = let z : 0 ≡ u = cc in absurd (omega arith)
    by true (c ∷ ys) f g = absurd (some_none (sym f))
    by false ys f g = g f

-- a digit by itself, also where it is 0
single : (d : ℕ) → d < 10 → numeral (digit d ∷ []) ≡ Some d
unfolding numeral digit zero_then digits_after when◌then◌else◌
single zero h = refl
single (suc d) h =
    rw (ne_eqb (zero_digit + suc d) zero_digit (λ e. omega arith)) (next_digit 0 [] 0 (suc d) h refl ∙ ap Some (omega arith))

one_digit : (n : ℕ) → n < 10 → numeral (decimal n) ≡ Some n
unfolding decimal digits
one_digit n h = rw (digit_count_small n h, mod-eq_of_lt h) (single n h)

more_digits : (n : ℕ) → 10 ≤ n → numeral (decimal (n / 10)) ≡ Some (n / 10) → numeral (decimal n) ≡ Some n
unfolding decimal digits
more_digits n h e =
    rw (digit_count_large n h) (next_numeral (decimal (n / 10)) (n / 10) (n % 10) (omega arith) (omega arith) e ∙ ap Some (omega arith))

-- any number that a bound holds
within : (most n : ℕ) → n ≤ most → numeral (decimal n) ≡ Some n
within zero n h = one_digit n (omega arith)
within (suc most) n h = by (ltb n 10) refl (λ e. within most (n / 10) (omega arith))
  where
    by : (t : Bool) → ltb n 10 ≡ t → (10 ≤ n → numeral (decimal (n / 10)) ≡ Some (n / 10)) → numeral (decimal n) ≡ Some n
    by true e ih = one_digit n (ltb-true n 10 e)
    by false e ih = let b = ltb-false n 10 e in more_digits n b (ih b)

pub numeral_decimal : (n : ℕ) → numeral (decimal n) ≡ Some n
numeral_decimal n = within n n (omega arith)
