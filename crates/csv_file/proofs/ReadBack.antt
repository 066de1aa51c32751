-- The reader finds in the exported file what was written. Rests on numerals read back, on texts cut at a byte and on the fields' bytes.
use Prim.Native.Nat.{ℕ, suc, ◌/◌, ◌%◌, ◌<◌}
use mathlib.Core.Path.{◌≡◌, refl, sym, ◌∙◌, ap}
use mathlib.Core.Logic.{◌≢◌}
use mathlib.Core.List.{List, [], ◌∷◌, ◌++◌, append_assoc, append-nil}
use Rattle.std.specs.Prelude.{Some}
use native.Mathlib.Omega.{arith}
use lib.IntN.{ℤ, pos, negsuc}
use borrow.Author.Tests.{ne_eqb}
use Rattle.interface.specs.Numbers.{bytes}
use Rattle.lists.specs.Every.{Every}
use Rattle.lists.proofs.EveryLaws.{every_append}
use Rattle.machine.specs.Choice.{when◌then◌else◌}
use Rattle.decimals.specs.Ascii.{line_feed, carriage_return, comma, minus_sign, point, zero_digit}
use Rattle.decimals.specs.Decimals.{digits, decimal}
use Rattle.numerals.specs.Numerals.{plus, minus}
use Rattle.numerals.specs.Cut.{before, parts_at}
use Rattle.numerals.proofs.NumeralLaws.{some_none}
use Rattle.numerals.proofs.ReadBack.{digits_read, numeral_decimal}
use Rattle.numerals.proofs.CutLaws.{cut_first, cut_none}
use Rattle.csv_file.specs.Csv.{csv_record, header, in_units, total_field, csv_row, csv_rows, csv_file}
use Rattle.csv_file.specs.Reading.{two_digits, in_cents, cents_of, read_units, read_total, row_of, read_fields, read_ended, read_line, behind, read_lines, read_rows, behind_header, read_file}
use Rattle.csv_file.proofs.Plain.{From, none_below, joined, digits_from, decimal_from, units_from, total_from}

-- two texts with a lower byte between them
cut_two : (x low : ℕ) (xs ys : List ℕ) → x < low → From low xs → From low ys → parts_at x ([] ∷ []) (xs ++ x ∷ ys) ≡ xs ∷ ys ∷ []
cut_two x low xs ys h e f =
    cut_first x ([] ∷ []) xs ys (none_below x low xs h e)
    ∙ ap (λ (ps : List (List ℕ)). xs ∷ ps) (cut_none x ys (none_below x low ys h f))

-- ---- a total

two-digits : (n : ℕ) → two_digits (digits 2 n) ≡ Some (n % 100)
unfolding two_digits digits
two-digits n = digits_read 2 n 0 ∙ ap Some (omega arith)

units_cut : (n : ℕ) → parts_at point ([] ∷ []) (in_units n) ≡ decimal (n / 100) ∷ digits 2 n ∷ []
unfolding in_units
units_cut n =
    cut_two point zero_digit (decimal (n / 100)) (digits 2 n) (omega arith) (decimal_from zero_digit (n / 100) (omega arith))
    (digits_from zero_digit 2 n (omega arith))

units_read : (n : ℕ) → read_units (in_units n) ≡ Some n
unfolding read_units cents_of in_cents
units_read n = rw (units_cut n, numeral_decimal (n / 100), two-digits n) (ap Some (omega arith))

-- what does not start with a minus
unsigned_read : (xs : List ℕ) (n : ℕ) → From point xs → read_units xs ≡ Some n → read_total xs ≡ Some (pos n)
unfolding read_total read_units parts_at cents_of plus when◌then◌else◌ Every
unsigned_read [] n e f = absurd (some_none (sym f))
unsigned_read (b ∷ xs) n e f = rw (ne_eqb b minus_sign (λ q. omega (arith, e.0)), f)

total_read : (t : ℤ) → read_total (total_field t) ≡ Some t
unfolding total_field read_total minus when◌then◌else◌
total_read (pos n) = unsigned_read (in_units n) n (units_from point n (omega arith)) (units_read n)
total_read (negsuc n) = rw (units_read (suc n))

-- ---- a line

-- a row without its end
abbrev fields : ℕ → ℤ → List ℕ
fields a t = decimal a ++ comma ∷ total_field t

-- a row without its line feed
abbrev ended : ℕ → ℤ → List ℕ
ended a t = fields a t ++ carriage_return ∷ []

module _ (a : ℕ) (t : ℤ) where
  fields_from : From comma (fields a t)
  fields_from =
      joined comma comma (decimal a) (total_field t) (omega arith) (omega arith) (decimal_from comma a (omega arith))
      (total_from comma t (omega arith))

  fields_cut : parts_at comma ([] ∷ []) (fields a t) ≡ decimal a ∷ total_field t ∷ []
  fields_cut =
      cut_two comma minus_sign (decimal a) (total_field t) (omega arith) (decimal_from minus_sign a (omega arith))
      (total_from minus_sign t (omega arith))

  end_cut : parts_at carriage_return ([] ∷ []) (ended a t) ≡ fields a t ∷ [] ∷ []
  unfolding Every
  end_cut = cut_two carriage_return comma (fields a t) [] (omega arith) fields_from tt

  line_read : read_line (ended a t) ≡ Some (a, t)
  unfolding read_line read_ended read_fields row_of
  line_read = rw (end_cut, fields_cut, numeral_decimal a, total_read t)

  no_line_feed : Every (λ b. b ≢ line_feed) (ended a t)
  unfolding Every
  no_line_feed =
      every_append (λ b. b ≢ line_feed) (fields a t) (carriage_return ∷ []) (none_below line_feed comma (fields a t) (omega arith) fields_from)
      (λ q. omega arith, tt)

  row_ends : (ys : List ℕ) → csv_row a t ++ ys ≡ ended a t ++ line_feed ∷ ys
  unfolding csv_row csv_record
  row_ends ys = simp append_assoc

  row_cut : (ys : List ℕ) → parts_at line_feed [] (csv_row a t ++ ys) ≡ ended a t ∷ parts_at line_feed [] ys
  row_cut ys = rw (row_ends ys) (cut_first line_feed [] (ended a t) ys no_line_feed)

-- ---- rows

rows_read : (rs : List (ℕ × ℤ)) → read_rows (csv_rows rs) ≡ Some rs
unfolding read_rows csv_rows parts_at read_lines behind
rows_read [] = refl
rows_read (r ∷ rs) = rw (row_cut r.0 r.1 (csv_rows rs), line_read r.0 r.1, rows_read rs)

pub row_read : (a : ℕ) (t : ℤ) → read_rows (csv_row a t) ≡ Some ((a, t) ∷ [])
unfolding csv_rows
row_read a t = rw append-nil at (rows_read ((a, t) ∷ []))

pub file_read : (rs : List (ℕ × ℤ)) → read_file (csv_file rs) ≡ Some rs
unfolding read_file csv_file behind_header header csv_record bytes parts_at before when◌then◌else◌ read_rows
file_read rs = rows_read rs
