-- Files of the first rows of two lists: one row more, their lengths, and rows written behind rows.
-- Rests on the definitions of specs/Csv of csv, and on the first rows of two lists.
use Prim.Native.Nat.{ℕ, zero, suc, ◌+◌, ◌-◌, ◌*◌, ◌≤◌, ◌<◌}
use native.Mathlib.Nat.{add-zero}
use native.Mathlib.Omega.{arith}
use mathlib.Core.Path.{◌≡◌, refl, sym, ◌∙◌, ap}
use mathlib.Core.List.{List, [], ◌∷◌, ◌++◌, append_assoc, append-nil}
use lib.IntN.{ℤ, pos}
use lib.ListN.{length, get_or, length-append}
use Rattle.interface.specs.Numbers.{bytes}
use Rattle.lists.specs.Every.{Every}
use Rattle.lists.specs.Parts.{overlay}
use Rattle.lists.proofs.PartLaws.{overlay_join}
use Rattle.sorting.specs.RowLists.{row_at, rows_at}
use Rattle.sorting.proofs.FirstRows.{rows_more}
use Rattle.rows.proofs.SmallRows.{Small}
use Rattle.csv_file.specs.Csv.{csv_record, header, header_size, longest_row, csv_row, csv_rows, csv_file}
use Rattle.csv_file.proofs.CsvLaws.{csv_laws}

pub file-size : (r : List (ℕ × ℤ)) → length (csv_file r) ≡ header_size + length (csv_rows r)
unfolding csv_file header csv_record bytes
file-size r = length-append header (csv_rows r)

-- rows of accounts of 32 bits with totals of 64
rows_within : (rs : List (ℕ × ℤ)) → Every Small rs → length (csv_rows rs) ≤ longest_row * length rs
unfolding csv_rows Every
rows_within [] h = omega arith
rows_within (r ∷ rs) h =
    let m = csv_laws.short r.0 r.1 h.0.account h.0.total in
    let n = rows_within rs h.1 in
    omega (arith, length-append (csv_row r.0 r.1) (csv_rows rs))

pub small_file : (rs : List (ℕ × ℤ)) → Every Small rs → length (csv_file rs) ≤ header_size + longest_row * length rs
small_file rs h = omega (arith, file-size rs, rows_within rs h)

-- the rows behind the header
pub file_written :
    (l m o : List ℕ) (r : List (ℕ × ℤ)) → m ≡ overlay l 0 header → o ≡ overlay m header_size (csv_rows r) → o ≡ overlay l 0 (csv_file r)
unfolding csv_file header csv_record bytes
file_written l m o r e f = f ∙ rw e (overlay_join l 0 header (csv_rows r) (omega arith))

rows_joined : (r q : List (ℕ × ℤ)) → csv_rows (r ++ q) ≡ csv_rows r ++ csv_rows q
unfolding csv_rows
rows_joined [] q = refl
rows_joined (x ∷ r) q =
    ap (λ (l : List ℕ). csv_row x.0 x.1 ++ l) (rows_joined r q) ∙ sym (append_assoc (csv_row x.0 x.1) (csv_rows r) (csv_rows q))

module _ (accounts : List ℕ) (totals : List ℤ) where
  abbrev pub lines : ℕ → List ℕ
  lines i = csv_rows (rows_at accounts totals 0 i)

  abbrev line : ℕ → List ℕ
  line i = csv_row (get_or accounts i 0) (get_or totals i (pos 0))

  line_more : (i : ℕ) → lines (i + 1) ≡ lines i ++ line i
  unfolding csv_rows row_at
  line_more i =
      ap csv_rows (rows_more accounts totals i)
      ∙ rows_joined (rows_at accounts totals 0 i) (row_at accounts totals i ∷ [])
      ∙ ap (λ (l : List ℕ). lines i ++ l) (append-nil (line i))

  pub lines_size : (i : ℕ) → length (lines (i + 1)) ≡ length (lines i) + length (line i)
  lines_size i = ap length (line_more i) ∙ length-append (lines i) (line i)

  lines_grow : (i k : ℕ) → length (lines i) ≤ length (lines (i + k))
  lines_grow i zero = rw add-zero (omega arith)
  lines_grow i (suc k) =
      let n : i + suc k ≡ i + k + 1 = omega arith in
      rw n (omega (arith, lines_grow i k, lines_size (i + k)))

  -- all k lines have room for one more than the first i
  pub line-room : (i k : ℕ) → i < k → length (lines i) + length (line i) ≤ length (lines k)
  line-room i k h =
      let n : i + 1 + (k - (i + 1)) ≡ k = omega arith in
      omega (arith, lines_size i, rw n at (lines_grow (i + 1) (k - (i + 1))))

  -- one line more, and where the next one starts
  pub line_behind :
      (l m o : List ℕ) (at next i : ℕ) (t : ℤ) → t ≡ get_or totals i (pos 0) → header_size ≤ length l
      → (at ≡ header_size + length (lines i)) × (m ≡ overlay l header_size (lines i))
      → (o ≡ overlay m at (csv_row (get_or accounts i 0) t)) × (next ≡ at + length (csv_row (get_or accounts i 0) t))
      → (next ≡ header_size + length (lines (i + 1))) × (o ≡ overlay l header_size (lines (i + 1)))
  line_behind l m o at next i t e h first row =
      let written = rw e at row in (
        omega (arith, first.0, written.1, lines_size i),
        written.0 ∙ rw (first.1, first.0, line_more i) (overlay_join l header_size (lines i) (line i) h),
      )
