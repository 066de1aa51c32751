-- What does not fit into a returned number, in a report: words at its start, an operation's end, and its number. Rests
-- on document 01's numbers.
use Rattle.std.specs.Prelude.{ℕ, ◌+◌, List, [], ◌∷◌, leb, length, ℤ, Option, Some, None}
use Rattle.std.specs.Int.{w64}
use Rattle.std.proofs.Common.{of_z}
use Rattle.interface.specs.Numbers.{answer_number, answer_total}
use Rattle.interface.specs.declared.Answer.{Answer}
use Rattle.interface.specs.declared.Completion.{Completion}
use Rattle.machine.specs.Choice.{when◌then◌else◌}
use Rattle.lists.specs.Parts.{overlay}

-- ---- numbers

-- past every refusal's number
abbrev pub answer_base : ℕ
answer_base = 16

unfoldable pub ended_number : Completion → ℕ
ended_number c = answer_base + answer_number c.answer

-- ---- reports

-- a report with xs at its start, if they fit; else the report as it is
unfoldable pub told : List ℕ → List ℕ → List ℕ
told report xs = when leb (length xs) (length report) then overlay report 0 xs else report

-- a total as a word of two's complement; 0 where there is none
unfoldable pub word_or0 : Option ℤ → ℕ
word_or0 None = 0
word_or0 (Some total) = of_z w64 total

-- the total of found or of posted, as a word; 0 where the answer has none
unfoldable pub total_word : Answer → ℕ
total_word a = word_or0 (answer_total a)

-- a report with three words at its start, with the first two where it has two places only
unfoldable pub told_three : List ℕ → ℕ → ℕ → ℕ → List ℕ
told_three report x y z = when leb 3 (length report) then told report (x ∷ y ∷ z ∷ []) else told report (x ∷ y ∷ [])

-- an operation's end: its steps, its answer's total, and the check that answered it
unfoldable pub ended_report : List ℕ → Completion → List ℕ
ended_report report c = told_three report c.steps (total_word c.answer) c.check
