-- Demand 1 for the export, over any words and any output, and the same for the C function. Rests on the listing's first
-- check and on the definitions that the two contracts equal.
use Rattle.std.specs.Prelude.{ℕ, ◌≡◌, List, [], ◌∷◌, ltb, length, replicate, Result, Ok, Err}
use Rattle.interface.specs.Numbers.{number_of}
use Rattle.interface.specs.declared.Refusal.{Refusal}
use Rattle.layout.specs.Shape.{shape_of}
use Rattle.rows.specs.Rows.{rows}
use Rattle.csv_file.specs.Csv.{csv_file}
use Rattle.export.specs.Export.{export_words}
use Rattle.capi.specs.Flat.{export_left}
use Rattle.refusals.specs.Checks.{Check, check8}
use Rattle.refusals.specs.Demand1.{RefusedBy, RefusedInC, KeptPast, left_of}

-- "If the output is too short, it is refused as narrow"
abbrev pub export_check10 : List ℕ → List ℕ → Check
export_check10 l out = (ltb (length out) (length (csv_file (rows l (shape_of l)))), Refusal.Narrow)

-- "Strange memory is refused first."
unfoldable pub export_checks : List ℕ → List ℕ → List Check
export_checks l out = check8 l ∷ export_check10 l out ∷ []

-- past the bytes written the output is as it was, where their number is answered
abbrev pub PastBytes : List ℕ → List ℕ × Result ℕ Refusal → Type 0
PastBytes out x = (k : ℕ) → x.1 ≡ Ok k → KeptPast k out x.0

pub record Demand1OnExport : Type 0 where
  -- "and untouched"
  pub export : (l out : List ℕ) → RefusedBy Err (export_checks l out) out (export_words l out)
  pub bytes : (l out : List ℕ) → PastBytes out (export_words l out)
  -- 8 "always on memory of zeros"
  pub zeros : (k : ℕ) (out : List ℕ) → export_words (replicate k 0) out ≡ (out, Err Refusal.Strange)
  -- the C function: the same checks, and the report is kept too
  pub export_in_c :
      (l out report : List ℕ) → RefusedInC (export_checks l out) (out, report) (left_of (export_left l out report))
  pub zeros_in_c :
      (k : ℕ) (out report : List ℕ)
      → export_left (replicate k 0) out report
      ≡ record { lent = out; report = report; number = number_of Refusal.Strange }
