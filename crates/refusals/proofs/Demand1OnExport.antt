-- Demand 1 for the export. Rests on the laws of checks, and on the definitions that the two contracts equal.
use Prim.Native.Nat.{ℕ}
use native.Mathlib.Omega.{arith}
use mathlib.Core.Path.{◌≡◌, refl, sym}
use mathlib.Core.List.{List}
use lib.Dec.{ltb}
use lib.ListN.{length, replicate}
use borrow.Author.Tests.{ltb-false}
use Rattle.interface.specs.declared.Refusal.{Refusal}
use Rattle.machine.proofs.laws.Base.{if_elim, if_true}
use Rattle.lists.specs.Parts.{overlay}
use Rattle.layout.specs.Shape.{strange, shape_of}
use Rattle.layout.proofs.Checks.{zeros_strange}
use Rattle.rows.specs.Rows.{rows}
use Rattle.csv_file.specs.Csv.{csv_file}
use Rattle.export.specs.Export.{written, export_words}
use Rattle.numbers.specs.Returned.{counted_number, counted_report}
use Rattle.capi.specs.Flat.{reported}
use Rattle.refusals.specs.Demand1.{RefusedBy, RefusalNumber, left_of}
use Rattle.refusals.specs.Demand1OnExport.{export_checks, PastBytes, Demand1OnExport}
use Rattle.refusals.proofs.Checking.{passed, check_then}
use Rattle.refusals.proofs.Demand1.{laid}
use Rattle.refusals.proofs.Demand1ForC.{in_c}
use Rattle.std.specs.Prelude.{Result, Ok, Err}

bytes_never : {k : ℕ} (r : Refusal) → Ok k ≡ Err r → ⊥
bytes_never r e = let z : ◌≡◌ {A = ℕ} 0 1 = cc in omega arith

exported_known : (a : Result ℕ Refusal) → RefusalNumber (counted_number a) → (r : Refusal) × (a ≡ Err r)
unfolding counted_number
exported_known (Ok j) k = absurd (k.0 refl)
exported_known (Err r) k = (r, refl)

module _ (l out : List ℕ) where
  export-checks : RefusedBy Err (export_checks l out) out (export_words l out)
  unfolding export_checks export_words written
  export-checks = check_then (check_then (passed bytes_never) _) (strange l)

  refused_past : (r : Refusal) → PastBytes out (out, Err r)
  refused_past r k e = absurd (bytes_never r (sym e))

  written_past : (file : List ℕ) → PastBytes out (written out file)
  unfolding written
  written_past file =
      if_elim (PastBytes out) (ltb (length out) (length file)) _ (overlay out 0 file, Ok (length file))
      (λ _. refused_past Refusal.Narrow)
      (λ e k f. let c : length file ≡ k = cc in let h = ltb-false (length out) (length file) e in laid out file k c (omega arith))

  export_past : PastBytes out (export_words l out)
  unfolding export_words
  export_past =
      if_elim (PastBytes out) (strange l) _ _ (λ _. refused_past Refusal.Strange) (λ _. written_past (csv_file (rows l (shape_of l))))

zeros : (k : ℕ) (out : List ℕ) → export_words (replicate k 0) out ≡ (out, Err Refusal.Strange)
unfolding export_words
zeros k out = if_true _ _ (zeros_strange k)

-- Demand 1 for the export.
pub demand1_on_export : Demand1OnExport
unfolding left_of reported counted_number counted_report
demand1_on_export =
    record {
      export = export-checks;
      bytes = export_past;
      zeros = zeros;
      export_in_c = λ l out report.
          in_c counted_number (λ r. refl) (exported_known _) (λ r e h. rw (e, h)) (export-checks l out);
      zeros_in_c = λ k out report. rw (zeros k out);
    }
