-- How long a row of the exported file is: its equation, and the bound for 32 bits with 64. Rests on the decimals' lengths.
use Prim.Native.Nat.{ℕ, suc, ◌+◌, ◌/◌, ◌^◌, ◌≤◌, ◌<◌}
use mathlib.Core.Path.{◌≡◌}
use mathlib.Core.List.{[], ◌∷◌, ◌++◌}
use native.Mathlib.Omega.{arith}
use lib.IntN.{ℤ, pos, negsuc}
use lib.ListN.{length, length-append}
use lib.Signed.{mag}
use Rattle.decimals.specs.Ascii.{line_feed, carriage_return, comma, point}
use Rattle.decimals.specs.Decimals.{digits, decimal}
use Rattle.decimals.proofs.DecimalLaws.{length_digits, decimal_within}
use Rattle.csv_file.specs.Csv.{csv_record, in_units, total_field, csv_row, longest_row}

units_length : (n : ℕ) → length (in_units n) ≡ length (decimal (n / 100)) + 3
unfolding in_units
units_length n = omega (arith, length-append (decimal (n / 100)) (point ∷ digits 2 n), length_digits 2 n)

pub row_length : (a : ℕ) (t : ℤ) → length (csv_row a t) ≡ length (decimal a) + length (total_field t) + 3
unfolding csv_row csv_record
row_length a t =
    omega (
      arith,
      length-append (decimal a) (comma ∷ (total_field t ++ carriage_return ∷ line_feed ∷ [])),
      length-append (total_field t) (carriage_return ∷ line_feed ∷ []),
    )

-- 17 digits before the point
units_within : (n : ℕ) → n ≤ 2 ^ 63 → length (in_units n) ≤ 20
units_within n h = omega (arith, units_length n, decimal_within 16 (n / 100) (omega arith))

total_within : (t : ℤ) → mag t < 2 ^ 63 → length (total_field t) ≤ 21
unfolding total_field
total_within (pos n) h = let k = units_within n (omega arith) in omega arith
total_within (negsuc n) h = let k = units_within (suc n) h in omega arith

pub row_short : (a : ℕ) (t : ℤ) → a < 2 ^ 32 → mag t < 2 ^ 63 → length (csv_row a t) ≤ longest_row
row_short a t h k = omega (arith, row_length a t, decimal_within 9 a (omega arith), total_within t k)
