-- The listing of a table as a file, for any words. 02, No. 14: "Strange memory is refused first. If the output is too
-- short, it is refused as narrow and untouched." Rests on the listing's rows, and on the file of rows.
use Rattle.std.specs.Prelude.{ℕ, ◌+◌, ◌*◌, ◌≤◌, ◌≡◌, ◌≢◌, List, ltb, ℤ, length, take, Some, Result, Ok, Err}
use Rattle.interface.specs.declared.Refusal.{Refusal}
use Rattle.lists.specs.Parts.{overlay}
use Rattle.machine.specs.Choice.{when◌then◌else◌}
use Rattle.layout.specs.Shape.{strange, shape_of}
use Rattle.sorting.specs.RowLists.{rows_at}
use Rattle.rows.specs.Rows.{rows, greatest_count, listing_words}
use Rattle.csv_file.specs.Csv.{csv_file, header_size, longest_row}
use Rattle.csv_file.specs.Reading.{read_file}

-- a file at the start of the output, nothing past it; where the output is too short for it, nothing at all
unfoldable pub written : List ℕ → List ℕ → List ℕ × Result ℕ Refusal
written out file =
    when ltb (length out) (length file) then (out, Err Refusal.Narrow)
    else (overlay out 0 file, Ok (length file))

-- "Write the listing as RFC 4180 records": checks 8, 10
unfoldable pub export_words : List ℕ → List ℕ → List ℕ × Result ℕ Refusal
export_words l out =
    when strange l then (out, Err Refusal.Strange) else written out (csv_file (rows l (shape_of l)))

-- ---- what holds of it

-- the longest file: 4,096 rows of 34 bytes each, and the header
abbrev pub longest_file : ℕ
longest_file = header_size + longest_row * greatest_count

pub record ExportLaws : Type 0 where
  -- Beside a listing of the same words: a reader of the bytes written finds the rows that the listing shows.
  pub as_listed :
      (l out accounts : List ℕ) (totals : List ℤ) (k n : ℕ) → (export_words l out).1 ≡ Ok k
      → (listing_words l accounts totals).listed ≡ Ok n
      → read_file (take k (export_words l out).0)
      ≡ Some (rows_at (listing_words l accounts totals).accounts (listing_words l accounts totals).totals 0 n)
  -- An output of so many bytes is never too short.
  pub long_enough :
      (l out : List ℕ) → longest_file ≤ length out → (export_words l out).1 ≢ Err Refusal.Narrow
