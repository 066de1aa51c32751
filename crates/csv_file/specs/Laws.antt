-- What holds of the exported file, whatever the rows are. Rests on the file and on its reader.
use Rattle.std.specs.Prelude.{ℕ, ◌^◌, ◌≤◌, ◌<◌, ◌≡◌, ◌≢◌, List, [], ◌∷◌, ℤ, length, Some}
use Rattle.std.specs.Int.Signed.{mag}
use Rattle.lists.specs.Every.{Every}
use Rattle.decimals.specs.Ascii.{space, quote, comma, tilde}
use Rattle.decimals.specs.Decimals.{decimal}
use Rattle.csv_file.specs.Csv.{total_field, csv_row, csv_file, longest_row}
use Rattle.csv_file.specs.Reading.{read_rows, read_file}

-- RFC 4180's TEXTDATA, of which a field without quotes is made: any character from space to tilde but quote and comma
pub record TextData (b : ℕ) : Type 0 where
  pub from : space ≤ b
  pub up_to : b ≤ tilde
  pub no_quote : b ≢ quote
  pub no_comma : b ≢ comma

pub record CsvLaws : Type 0 where
  -- "RFC 4180 records": no field is in need of quotes
  pub plain_account : (a : ℕ) → Every TextData (decimal a)
  pub plain_total : (t : ℤ) → Every TextData (total_field t)
  -- "Every exported line must determine its account and total": a reader finds them, for all numbers and all integers
  pub line : (a : ℕ) (t : ℤ) → read_rows (csv_row a t) ≡ Some ((a, t) ∷ [])
  pub file : (rs : List (ℕ × ℤ)) → read_file (csv_file rs) ≡ Some rs
  -- so that no two rows have one line, and no two lists of rows one file
  pub one_line : (a b : ℕ) (t u : ℤ) → csv_row a t ≡ csv_row b u → (a ≡ b) × (t ≡ u)
  pub one_file : (rs qs : List (ℕ × ℤ)) → csv_file rs ≡ csv_file qs → rs ≡ qs
  -- an account of 32 bits with a total of 64
  pub short : (a : ℕ) (t : ℤ) → a < 2 ^ 32 → mag t < 2 ^ 63 → length (csv_row a t) ≤ longest_row
