-- The bytes of the fields: comma, minus and point stand right before the digits, in this order. Rests on the file's definitions.
use Prim.Native.Nat.{ℕ, zero, suc, ◌/◌, ◌%◌, ◌≤◌, ◌<◌}
use mathlib.Core.Logic.{◌≢◌}
use mathlib.Core.List.{List, [], ◌∷◌, ◌++◌}
use native.Mathlib.Omega.{arith}
use lib.IntN.{ℤ, pos, negsuc}
use Rattle.lists.specs.Every.{Every}
use Rattle.lists.proofs.EveryLaws.{every_append, every_weaker}
use Rattle.decimals.specs.Ascii.{minus_sign, point, zero_digit, nine_digit}
use Rattle.decimals.specs.Decimals.{digit, digits, digit_count, decimal}
use Rattle.csv_file.specs.Csv.{in_units, total_field}
use Rattle.csv_file.specs.Laws.{TextData}

-- every byte stands from `low` to the nine
abbrev pub From : ℕ → List ℕ → Type 0
From low xs = Every (λ b. (low ≤ b) × (b ≤ nine_digit)) xs

-- so no byte below `low` is among them
pub none_below : (x low : ℕ) (xs : List ℕ) → x < low → From low xs → Every (λ b. b ≢ x) xs
none_below x low xs h e = every_weaker (λ b k q. omega arith) xs e

pub text_data : (xs : List ℕ) → From minus_sign xs → Every TextData xs
text_data xs e =
    every_weaker (λ b k. record { from = omega arith; up_to = omega arith; no_quote = λ q. omega arith; no_comma = λ q. omega arith }) xs e

module _ (low : ℕ) where
  -- two texts with a byte between them
  pub joined : (x : ℕ) (xs ys : List ℕ) → low ≤ x → x ≤ nine_digit → From low xs → From low ys → From low (xs ++ x ∷ ys)
  unfolding Every
  joined x xs ys h k e f = every_append (λ b. (low ≤ b) × (b ≤ nine_digit)) xs (x ∷ ys) e ((h, k), f)

  pub digits_from : (k n : ℕ) → low ≤ zero_digit → From low (digits k n)
  unfolding digits digit Every
  digits_from zero n h = tt
  digits_from (suc k) n h = joined (digit (n % 10)) (digits k (n / 10)) [] (omega arith) (omega arith) (digits_from k (n / 10) h) tt

  pub decimal_from : (n : ℕ) → low ≤ zero_digit → From low (decimal n)
  unfolding decimal
  decimal_from n h = digits_from (digit_count n) n h

  pub units_from : (n : ℕ) → low ≤ point → From low (in_units n)
  unfolding in_units
  units_from n h =
      joined point (decimal (n / 100)) (digits 2 n) h (omega arith) (decimal_from (n / 100) (omega arith)) (digits_from 2 n (omega arith))

  pub total_from : (t : ℤ) → low ≤ minus_sign → From low (total_field t)
  unfolding total_field Every
  total_from (pos n) h = units_from n (omega arith)
  total_from (negsuc n) h = ((h, omega arith), units_from (suc n) (omega arith))
