-- What a C function returns for what the call that it stands for answered: a number, and a report. Rests on document
-- 01's numbers and on specs/Report of crate report.
use Rattle.std.specs.Prelude.{ℕ, List, [], ◌∷◌, Result, Ok, Err, ⊤}
use Rattle.interface.specs.Numbers.{number_of}
use Rattle.interface.specs.declared.Stepped.{Stepped}
use Rattle.interface.specs.declared.Ran.{Ran}
use Rattle.interface.specs.declared.Verdict.{Verdict}
use Rattle.report.specs.Report.{answer_base, ended_number, told, told_three, ended_report}
use Rattle.interface.specs.declared.Refusal.{Refusal}

-- ---- numbers

-- the words needed, or 1
unfoldable pub needed_number : Result ℕ Refusal → ℕ
needed_number (Ok k) = k
needed_number (Err r) = number_of r

-- of an opening, or of a call
unfoldable pub done_number : Result ⊤ Refusal → ℕ
done_number (Ok _) = 0
done_number (Err r) = number_of r

unfoldable pub stepped_number : Stepped → ℕ
stepped_number Stepped.Moved = 0
stepped_number (Stepped.Answered c) = ended_number c
stepped_number (Stepped.Refused r) = number_of r

unfoldable pub ran_number : Result Ran Refusal → ℕ
ran_number (Ok (Ran.Moved k)) = 0
ran_number (Ok (Ran.Answered c)) = ended_number c
ran_number (Err r) = number_of r

-- of a listing, of rebates or of an export
unfoldable pub counted_number : Result ℕ Refusal → ℕ
counted_number (Ok k) = 0
counted_number (Err r) = number_of r

-- 0 for an order, and for none a number past every refusal's that no answer has
abbrev pub no_order : ℕ
no_order = answer_base

unfoldable pub verdict_number : Result Verdict Refusal → ℕ
verdict_number (Ok Verdict.Accepted) = 0
verdict_number (Ok Verdict.No) = no_order
verdict_number (Err r) = number_of r

-- ---- reports

unfoldable pub stepped_report : List ℕ → Stepped → List ℕ
stepped_report report Stepped.Moved = report
stepped_report report (Stepped.Answered c) = ended_report report c
stepped_report report (Stepped.Refused r) = report

-- the steps given, where the operation goes on
unfoldable pub ran_report : List ℕ → Result Ran Refusal → List ℕ
ran_report report (Ok (Ran.Moved k)) = told_three report k 0 0
ran_report report (Ok (Ran.Answered c)) = ended_report report c
ran_report report (Err r) = report

-- how many rows, or bytes
unfoldable pub counted_report : List ℕ → Result ℕ Refusal → List ℕ
counted_report report (Ok k) = told report (k ∷ [])
counted_report report (Err r) = report
