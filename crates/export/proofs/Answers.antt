-- What the export answers, by the listing: refused with it, refused where the output is too short, or the file and its size.
-- Rests on the definition of the export, and on what a counted listing has written.
use Prim.Native.Nat.{ℕ, ◌+◌, ◌*◌, ◌≤◌}
use mathlib.Core.Path.{◌≡◌, sym, ◌∙◌}
use mathlib.Core.Bool.{Bool, true, false}
use mathlib.Core.List.{List}
use lib.Dec.{ltb}
use lib.IntN.{ℤ}
use lib.ListN.{length}
use borrow.Author.Tests.{ltb-false}
use Rattle.interface.specs.declared.Refusal.{Refusal}
use Rattle.machine.proofs.laws.Base.{if_true, if_false}
use Rattle.lists.specs.Parts.{overlay}
use Rattle.layout.specs.Shape.{shape_of}
use Rattle.sorting.specs.RowLists.{rows_at}
use Rattle.rows.specs.Rows.{rows}
use Rattle.rows.proofs.SmallRows.{rows_small}
use Rattle.rows.proofs.AllRows.{AllRows, OnlyStrange}
use Rattle.csv_file.specs.Csv.{csv_file, header_size, longest_row}
use Rattle.export.proofs.Files.{small_file}
use Rattle.export.specs.Export.{written, export_words}
use Rattle.std.specs.Prelude.{Ok, Err}

-- by a listing that refuses strange words alone
pub export_refused :
    {l : List ℕ} {why : Refusal} → OnlyStrange l why → (out : List ℕ) → (out, Err why) ≡ export_words l out
unfolding export_words
export_refused o out = rw o.reason (sym (if_true _ _ o.fails))

-- it has no longer file than so many rows can have
pub all_within :
    {l : List ℕ} {n : ℕ} {accounts : List ℕ} {totals : List ℤ} → AllRows l n accounts totals
    → length (csv_file (rows_at accounts totals 0 n)) ≤ header_size + longest_row * n
all_within {l} all = rw (all.read, all.count) (small_file (rows l (shape_of l)) (rows_small l (shape_of l)))

module _ {l : List ℕ} {n : ℕ} {accounts : List ℕ} {totals : List ℤ} (all : AllRows l n accounts totals) (out : List ℕ) (short : Bool)
    (measured : short ≡ ltb (length out) (length (csv_file (rows_at accounts totals 0 n)))) where
  of_rows : written out (csv_file (rows_at accounts totals 0 n)) ≡ export_words l out
  unfolding export_words
  of_rows = rw all.read (sym (if_false _ _ all.passed))

  pub export_narrow : short ≡ true → (out, Err Refusal.Narrow) ≡ export_words l out
  unfolding written
  export_narrow e = sym (if_true _ _ (sym measured ∙ e)) ∙ of_rows

  pub enough : short ≡ false → length (csv_file (rows_at accounts totals 0 n)) ≤ length out
  enough e = ltb-false _ _ (sym measured ∙ e)

  pub export_all :
      (after : List ℕ) (size : ℕ) → short ≡ false → after ≡ overlay out 0 (csv_file (rows_at accounts totals 0 n))
      → size ≡ length (csv_file (rows_at accounts totals 0 n)) → (after, Ok size) ≡ export_words l out
  unfolding written
  export_all after size e f g = rw (f, g) (sym (if_false _ _ (sym measured ∙ e)) ∙ of_rows)
