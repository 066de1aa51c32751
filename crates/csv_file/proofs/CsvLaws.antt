-- What holds of the exported file. Rests on the fields' bytes, on what the reader finds and on a row's length.
use Prim.Native.Nat.{ℕ}
use mathlib.Core.Path.{◌≡◌, sym, ◌∙◌, ap}
use mathlib.Core.List.{List, [], ◌∷◌}
use Rattle.std.specs.Prelude.{Option, Some}
use native.Mathlib.Omega.{arith}
use lib.IntN.{ℤ}
use Rattle.decimals.specs.Ascii.{minus_sign}
use Rattle.decimals.specs.Decimals.{decimal}
use Rattle.csv_file.specs.Csv.{total_field}
use Rattle.csv_file.specs.Reading.{read_rows, read_file}
use Rattle.csv_file.specs.Laws.{CsvLaws}
use Rattle.csv_file.proofs.Sizes.{row_short}
use Rattle.csv_file.proofs.Plain.{text_data, decimal_from, total_from}
use Rattle.csv_file.proofs.ReadBack.{row_read, file_read}

-- what a reader finds in a text was written in no other
module _ {A : Type 0} (read : List ℕ → Option A) where
  found : {xs ys : List ℕ} {x y : A} → read xs ≡ Some x → read ys ≡ Some y → xs ≡ ys → x ≡ y
  found {xs} {ys} {x} {y} e f q = let p : Some x ≡ Some y = sym e ∙ ap read q ∙ f in cc

one_row : (r q : ℕ × ℤ) → ◌≡◌ {A = List (ℕ × ℤ)} (r ∷ []) (q ∷ []) → (r.0 ≡ q.0) × (r.1 ≡ q.1)
one_row r q e = let p : r ≡ q = cc in (ap (λ (s : ℕ × ℤ). s.0) p, ap (λ (s : ℕ × ℤ). s.1) p)

pub csv_laws : CsvLaws
csv_laws =
    record {
      plain_account = λ a. text_data (decimal a) (decimal_from minus_sign a (omega arith));
      plain_total = λ t. text_data (total_field t) (total_from minus_sign t (omega arith));
      line = row_read;
      file = file_read;
      one_line = λ a b t u e. one_row (a, t) (b, u) (found read_rows (row_read a t) (row_read b u) e);
      one_file = λ rs qs e. found read_file (file_read rs) (file_read qs) e;
      short = row_short;
    }
