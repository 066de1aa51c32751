-- A reader of the exported bytes finds the rows that a listing shows, and how long an output always suffices.
-- Rests on the file's laws, on what a counted listing has written, and on how small rows are.
use Prim.Native.Nat.{ℕ, ◌≤◌}
use native.Mathlib.Omega.{arith}
use mathlib.Core.Path.{◌≡◌, refl}
use mathlib.Core.Logic.{◌≢◌}
use mathlib.Core.Bool.{false}
use mathlib.Core.List.{List}
use Rattle.std.specs.Prelude.{Some, Result, Ok, Err}
use lib.Dec.{ltb}
use lib.IntN.{ℤ}
use lib.ListN.{length, take}
use lib.Seq.{take_at}
use borrow.Author.Tests.{ltb-true}
use Rattle.interface.specs.declared.Refusal.{Refusal}
use Rattle.machine.proofs.laws.Base.{if_elim, if_false}
use Rattle.lists.proofs.PartLaws.{overlay_first}
use Rattle.layout.specs.Shape.{strange, shape_of}
use Rattle.sorting.specs.RowLists.{rows_at}
use Rattle.rows.specs.Rows.{rows, listing_words}
use Rattle.rows.proofs.RowLaws.{rows_few}
use Rattle.rows.proofs.AllRows.{rows_counted}
use Rattle.rows.proofs.SmallRows.{rows_small}
use Rattle.csv_file.specs.Csv.{csv_file}
use Rattle.csv_file.specs.Reading.{read_file}
use Rattle.csv_file.proofs.CsvLaws.{csv_laws}
use Rattle.export.proofs.Files.{small_file}
use Rattle.export.specs.Export.{written, export_words, longest_file, ExportLaws}

-- ---- what was written is the file

module _ (out file : List ℕ) (k : ℕ) where
  abbrev Holds : List ℕ × Result ℕ Refusal → Type 0
  Holds x = x.1 ≡ Ok k → take k x.0 ≡ file

  written_holds : Holds (written out file)
  unfolding written
  written_holds =
      if_elim Holds (ltb (length out) (length file)) _ _ (λ _ e. let z : ◌≡◌ {A = ℕ} 0 1 = cc in absurd (omega arith))
      (λ _ e. let c : length file ≡ k = cc in rw (← c, overlay_first out file) (take_at file _ _ refl))

as_listed :
    (l out accounts : List ℕ) (totals : List ℤ) (k n : ℕ) → (export_words l out).1 ≡ Ok k
    → (listing_words l accounts totals).listed ≡ Ok n
    → read_file (take k (export_words l out).0)
    ≡ Some (rows_at (listing_words l accounts totals).accounts (listing_words l accounts totals).totals 0 n)
unfolding export_words
as_listed l out accounts totals k n e f =
    let all = rows_counted l accounts totals n _ refl f in
    let r = rows l (shape_of l) in
    let x : export_words l out ≡ written out (csv_file r) = if_false _ _ all.passed in
    rw (x, all.read, written_holds out (csv_file r) k (rw x at e)) (csv_laws.file r)

-- ---- how long it is

file_within : (l : List ℕ) → strange l ≡ false → length (csv_file (rows l (shape_of l))) ≤ longest_file
file_within l passed =
    let r = rows l (shape_of l) in
    omega (arith, small_file r (rows_small l (shape_of l)), rows_few l passed)

module _ (l out : List ℕ) (long : longest_file ≤ length out) where
  abbrev Wide : List ℕ × Result ℕ Refusal → Type 0
  Wide x = x.1 ≢ Err Refusal.Narrow

  written_wide : strange l ≡ false → Wide (written out (csv_file (rows l (shape_of l))))
  unfolding written
  written_wide passed =
      if_elim Wide (ltb (length out) (length (csv_file (rows l (shape_of l))))) _ _
      (λ short _. let h = ltb-true (length out) _ short in omega (arith, file_within l passed))
      (λ _ e. let z : ◌≡◌ {A = ℕ} 0 1 = cc in omega arith)

  long_enough : Wide (export_words l out)
  unfolding export_words
  long_enough = if_elim Wide (strange l) _ _ (λ _ e. let z : ◌≡◌ {A = ℕ} 0 1 = cc in omega arith) written_wide

pub export_laws : ExportLaws
export_laws = record { as_listed = as_listed; long_enough = long_enough }
