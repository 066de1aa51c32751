-- Cents in units with two decimals, and rows of them: their texts, their lengths, and both written over a buffer part by part.
-- Rests on the definitions of specs/Csv and specs/Units, on the rows' lengths, and on parts written one behind the other.
use Prim.Native.Nat.{ℕ, ◌+◌, ◌≤◌, ◌<◌}
use mathlib.Core.Path.{◌≡◌, refl, ◌∙◌, ap}
use mathlib.Core.List.{List, [], ◌∷◌, ◌++◌, append_assoc}
use native.Mathlib.Omega.{arith}
use lib.IntN.{ℤ, pos, negsuc}
use lib.ListN.{length, set, length-append}
use lib.Seq.{append_snoc}
use Rattle.machine.specs.Choice.{when◌then◌else◌}
use Rattle.lists.specs.Parts.{overlay}
use Rattle.decimals.specs.declared.Decimal.{Decimal}
use Rattle.decimals.specs.Ascii.{line_feed, carriage_return, comma, point}
use Rattle.decimals.specs.Decimals.{digits, digit_count, decimal}
use Rattle.decimals.specs.Signs.{sign_of, decimal_text}
use Rattle.decimals.proofs.DecimalLaws.{length_digits, length_decimal}
use Rattle.decimals.proofs.Overlays.{next, next_byte}
use Rattle.csv_file.specs.Csv.{csv_record, in_units, total_field, csv_row}
use Rattle.csv_file.specs.Units.{units_of, units_text}
use Rattle.csv_file.proofs.Sizes.{row_length}

-- ---- the source's cents

units_field : (t : ℤ) → units_text (sign_of t) ≡ total_field t
unfolding units_text units_of sign_of decimal_text total_field in_units when◌then◌else◌
units_field (pos n) = refl
units_field (negsuc n) = refl

pub text_length : (d : Decimal) → length (units_text d) ≡ length (decimal_text (units_of d)) + 3
unfolding units_text
text_length d = simp (length-append, length_digits) (omega arith)

-- a row by the sign and the size of its total
module _ (a : ℕ) (t : ℤ) (d : Decimal) (cents : d ≡ sign_of t) where
  field : units_text d ≡ total_field t
  field = ap units_text cents ∙ units_field t

  row_text : decimal a ++ comma ∷ units_text d ++ carriage_return ∷ [] ++ line_feed ∷ [] ≡ csv_row a t
  unfolding csv_row csv_record
  row_text = rw field (simp append_assoc)

  pub row-size : length (csv_row a t) ≡ digit_count a + 1 + length (units_text d) + 2
  row-size = omega (arith, row_length a t, length_decimal a, ap length field)

-- ---- written over a buffer

-- two parts with a byte between them
part_byte_part :
    (l : List ℕ) (at : ℕ) (xs : List ℕ) (b : ℕ) (ys : List ℕ) (k : ℕ) {m o : List ℕ} → k ≡ length xs → at + k < length l
    → m ≡ overlay l at xs → o ≡ overlay (set m (at + k) b) (at + k + 1) ys
    → o ≡ overlay l at (xs ++ b ∷ ys)
part_byte_part l at xs b ys k n h e f =
    let size = length-append xs (b ∷ []) in
    let w = next_byte l at xs (at + k) b (omega arith) e (omega arith) in
    next l at (xs ++ b ∷ []) (at + k + 1) ys (omega arith) w f (omega arith) ∙ rw append_snoc

-- the digits of the units, a point and two digits more
pub units_written :
    (l : List ℕ) (at : ℕ) (d whole : Decimal) (k : ℕ) {m o : List ℕ} → whole ≡ units_of d → k ≡ length (decimal_text whole)
    → at + k < length l → m ≡ overlay l at (decimal_text whole) → o ≡ overlay (set m (at + k) point) (at + k + 1) (digits 2 d.size)
    → o ≡ overlay l at (units_text d)
unfolding units_text
units_written l at d whole k w n h e f =
    rw w at (part_byte_part l at (decimal_text whole) point (digits 2 d.size) k n h e f)

-- an account, a comma, a total and the line's end
pub row_written :
    (l : List ℕ) (at a : ℕ) (t : ℤ) (d : Decimal) (k end : ℕ) {m o : List ℕ} → d ≡ sign_of t → k ≡ digit_count a
    → at + length (csv_row a t) ≤ length l → m ≡ overlay l at (digits k a)
    → o ≡ overlay (set m (at + k) comma) (at + k + 1) (units_text d) → end ≡ at + k + 1 + length (units_text d)
    → set (set o end carriage_return) (end + 1) line_feed ≡ overlay l at (csv_row a t)
unfolding decimal
row_written l at a t d k end cents n h e f g =
    let size = row-size a t d cents in
    let fields : List ℕ = decimal a ++ comma ∷ units_text d in
    let long = length-append (decimal a) (comma ∷ units_text d) in
    let first = length_decimal a in
    let longer = length-append fields (carriage_return ∷ []) in
    let w = part_byte_part l at (decimal a) comma (units_text d) k (omega arith) (omega arith) (rw n at e) f in
    let r = next_byte l at fields end carriage_return (omega arith) w (omega arith) in
    next_byte l at (fields ++ carriage_return ∷ []) (end + 1) line_feed (omega arith) r (omega arith)
    ∙ ap (overlay l at) (row_text a t d cents)
