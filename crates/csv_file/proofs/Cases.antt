-- The exported file and its reader on the figures of document 02, at both ends of the range, and on texts that are no rows: computed.
use Prim.Native.Nat.{◌-◌, ◌^◌}
use Prim.Native.String.{String}
use mathlib.Core.Path.{◌≡◌, refl}
use mathlib.Core.List.{List, [], ◌∷◌, map}
use Rattle.std.specs.Prelude.{Some, None}
use lib.IntN.{ℤ, pos, negsuc}
use Rattle.interface.specs.Numbers.{bytes}
use Rattle.machine.specs.Choice.{when◌then◌else◌, ◌and◌}
use Rattle.decimals.specs.Decimals.{digit, digits, digit_count_up_to, digit_count, decimal}
use Rattle.numerals.specs.Numerals.{is_digit, digits_after, zero_then, numeral, plus, minus}
use Rattle.numerals.specs.Cut.{before, parts_at}
use Rattle.csv_file.specs.Csv.{csv_record, header, in_units, total_field, csv_row, csv_rows, csv_file}
use Rattle.csv_file.specs.Reading.{two_digits, in_cents, cents_of, read_units, read_total, row_of, read_fields, read_ended, read_line, behind, read_lines, read_rows, behind_header, read_file}

-- ---- what is written

writing : Unit {0}
unfolding csv_file csv_rows csv_row header csv_record total_field in_units decimal digit_count digit_count_up_to digits digit bytes
writing = tt

abbrev pub Written : List (ℤ × String) → Type 0
Written cases = map (λ c. total_field c.0) cases ≡ map (λ c. bytes c.1) cases

-- "as -12.05 for -1205 and 0.07 for 7"
pub figures : Written ((negsuc 1204, "-12.05") ∷ (pos 7, "0.07") ∷ [])
unfolding writing
figures = refl

-- about 0, and about one unit
pub edges : Written (
    (pos 0, "0.00") ∷ (negsuc 0, "-0.01") ∷ (negsuc 6, "-0.07") ∷ (negsuc 98, "-0.99") ∷ (negsuc 99, "-1.00") ∷ (pos 99, "0.99")
    ∷ (pos 100, "1.00") ∷ [])
unfolding writing
edges = refl

-- "The lowest 64-bit total too.", and the greatest
pub ends : Written ((negsuc (2 ^ 63 - 1), "-92233720368547758.08") ∷ (pos (2 ^ 63 - 1), "92233720368547758.07") ∷ [])
unfolding writing
ends = refl

-- "lines ended by CR LF, header `account,total`"
pub first_line : header ≡ bytes "account,total\r\n"
unfolding writing
first_line = refl

pub whole_file : csv_file ((5, negsuc 1204) ∷ (4294967295, pos 7) ∷ []) ≡ bytes "account,total\r\n5,-12.05\r\n4294967295,0.07\r\n"
unfolding writing
whole_file = refl

-- ---- what is read

reading : Unit {0}
unfolding read_file behind_header read_rows read_lines behind read_line read_ended read_fields row_of read_total read_units cents_of in_cents two_digits
    numeral zero_then digits_after is_digit plus minus parts_at before bytes when◌then◌else◌ ◌and◌
reading = tt

pub two_rows : read_file (bytes "account,total\r\n5,-0.07\r\n0,12.05\r\n") ≡ Some ((5, negsuc 6) ∷ (0, pos 1205) ∷ [])
unfolding reading
two_rows = refl

abbrev pub Unread : List String → Type 0
Unread texts = map (λ s. read_rows (bytes s)) texts ≡ map (λ s. None) texts

-- no carriage return, or one too early
pub other_ends : Unread ("5,0.07\n" ∷ "5,0.07\r\r\n" ∷ "5,\r0.07\r\n" ∷ [])
unfolding reading
other_ends = refl

-- other decimals than two, no units, leading zeros, and a minus at 0
pub other_totals : Unread (
    "5,7\r\n" ∷ "5,0.7\r\n" ∷ "5,0.070\r\n" ∷ "5,.07\r\n" ∷ "5,00.07\r\n" ∷ "5,-0.00\r\n" ∷ "5,--0.07\r\n" ∷ [])
unfolding reading
other_totals = refl

-- one field, three, and an account that is no numeral
pub other_fields : Unread ("5\r\n" ∷ "5,0.07,\r\n" ∷ ",0.07\r\n" ∷ "05,0.07\r\n" ∷ "-5,0.07\r\n" ∷ "\r\n" ∷ [])
unfolding reading
other_fields = refl
