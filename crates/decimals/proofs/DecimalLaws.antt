-- Numbers written in decimal: how many digits, and the digits one by one. Rests on the definitions of specs/Decimals.
use Prim.Native.Nat.{ℕ, zero, suc, ◌+◌, ◌*◌, ◌/◌, ◌%◌, ◌^◌, ◌≤◌, ◌<◌}
use mathlib.Core.Path.{◌≡◌, refl, sym, ◌∙◌, ap}
use mathlib.Core.Bool.{Bool, true, false}
use mathlib.Core.List.{[], ◌∷◌}
use native.Mathlib.Omega.{arith}
use native.Mathlib.Numerals.{add-one}
use native.Mathlib.Nat.{pow-suc}
use lib.Dec.{ltb}
use lib.ListN.{length, length-append}
use borrow.Author.Tests.{lt-ltb, le-ltb, ltb-true, ltb-false}
use Rattle.decimals.specs.Decimals.{digit, digits, digit_count_up_to, digit_count, decimal}

-- ---- how many digits

one_digit : (most n : ℕ) → n < 10 → digit_count_up_to most n ≡ 1
unfolding digit_count_up_to
one_digit zero n h = refl
one_digit (suc most) n h = rw (lt-ltb n 10 h, digit_count_up_to)

more_digits : (most n : ℕ) → 10 ≤ n → digit_count_up_to (suc most) n ≡ suc (digit_count_up_to most (n / 10))
unfolding digit_count_up_to
more_digits most n h = rw (le-ltb n 10 h, digit_count_up_to)

-- any bound does that the number does not exceed
any_bound : (f g n : ℕ) → n ≤ f → n ≤ g → digit_count_up_to f n ≡ digit_count_up_to g n
any_bound zero g n h k = one_digit zero n (omega arith) ∙ sym (one_digit g n (omega arith))
any_bound (suc f) zero n h k = one_digit (suc f) n (omega arith) ∙ sym (one_digit zero n (omega arith))
any_bound (suc f) (suc g) n h k = by (ltb n 10) refl (λ e. any_bound f g (n / 10) (omega arith) (omega arith))
  where
    by : (t : Bool) → ltb n 10 ≡ t → (10 ≤ n → digit_count_up_to f (n / 10) ≡ digit_count_up_to g (n / 10))
        → digit_count_up_to (suc f) n ≡ digit_count_up_to (suc g) n
    by true e ih = let s = ltb-true n 10 e in one_digit (suc f) n s ∙ sym (one_digit (suc g) n s)
    by false e ih = let b = ltb-false n 10 e in more_digits f n b ∙ ap suc (ih b) ∙ sym (more_digits g n b)

pub digit_count_small : (n : ℕ) → n < 10 → digit_count n ≡ 1
unfolding digit_count
digit_count_small n h = one_digit n n h

pub digit_count_large : (n : ℕ) → 10 ≤ n → digit_count n ≡ suc (digit_count (n / 10))
unfolding digit_count
digit_count_large zero h = absurd (omega arith)
digit_count_large (suc m) h = more_digits m (suc m) h ∙ ap suc (any_bound m (suc m / 10) (suc m / 10) (omega arith) (omega arith))

-- a number below a power of ten has no more digits than the power says
pub digit_count_within : (k n : ℕ) → n < 10 ^ suc k → digit_count n ≤ suc k
digit_count_within zero n h = omega (arith, digit_count_small n h)
digit_count_within (suc k) n h =
    by (ltb n 10) refl (λ b. digit_count_within k (n / 10) (let m : n < 10 ^ suc k * 10 = rw (sym (pow-suc 10 (suc k))) h in omega arith))
  where
    by : (t : Bool) → ltb n 10 ≡ t → (10 ≤ n → digit_count (n / 10) ≤ suc k) → digit_count n ≤ suc (suc k)
    by true e ih = omega (arith, digit_count_small n (ltb-true n 10 e))
    by false e ih = let b = ltb-false n 10 e in omega (arith, digit_count_large n b, ih b)

-- a number from a power of ten on and below the next has one digit more than the power says
pub digit_count_at : (k n : ℕ) → 10 ^ k ≤ n → n < 10 * 10 ^ k → digit_count n ≡ k + 1
digit_count_at zero n h b = digit_count_small n b
digit_count_at (suc k) n h b =
    let low : 10 ^ k * 10 ≤ n = rw (← pow-suc 10 k) h in
    let high : n < 10 * (10 ^ k * 10) = rw (← pow-suc 10 k) b in
    omega (arith, digit_count_large n (omega arith), digit_count_at k (n / 10) (omega arith) (omega arith))

-- ---- the digits

pub length_digits : (k n : ℕ) → length (digits k n) ≡ k
unfolding digits
length_digits zero n = refl
length_digits (suc k) n =
    length-append (digits k (n / 10)) (digit (n % 10) ∷ []) ∙ ap (λ (j : ℕ). j + 1) (length_digits k (n / 10)) ∙ add-one k

pub length_decimal : (n : ℕ) → length (decimal n) ≡ digit_count n
unfolding decimal
length_decimal n = length_digits (digit_count n) n

pub decimal_within : (k n : ℕ) → n < 10 ^ suc k → length (decimal n) ≤ suc k
decimal_within k n h = rw (length_decimal n) (digit_count_within k n h)
