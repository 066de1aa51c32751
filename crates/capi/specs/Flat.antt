-- What each flat function leaves and returns, from what the call of `table` that it stands for leaves and answers.
-- Rests on the number and the report of an answer, specs/Returned of crate numbers.
use Rattle.std.specs.Prelude.{ℕ, List, ℤ}
use Rattle.rows.specs.Rows.{Shown, listing_words}
use Rattle.rebates.specs.Rebates.{Rebated, rebates_words}
use Rattle.export.specs.Export.{export_words}
use Rattle.turns.specs.Turns.{step_words}
use Rattle.runs.specs.Runs.{run_words}
use Rattle.numbers.specs.Returned.{stepped_number, ran_number, counted_number, stepped_report, ran_report, counted_report}

-- the words, and an answer's number
unfoldable pub flat : {A : Type 0} → (A → ℕ) → List ℕ × A → List ℕ × ℕ
flat number x = (x.0, number x.1)

-- what was lent, the words of a step or a run or the output of an export, the report, and a number
pub record Left : Type 0 where
  pub lent : List ℕ
  pub report : List ℕ
  pub number : ℕ

unfoldable pub reported : {A : Type 0} → (A → ℕ) → (List ℕ → A → List ℕ) → List ℕ → List ℕ × A → Left
reported number report before x = record { lent = x.0; report = report before x.1; number = number x.1 }

-- what a step leaves and returns, over these words and this report, and what up to so many steps do
abbrev pub step_left : List ℕ → List ℕ → ℕ → Left
step_left words report worker = reported stepped_number stepped_report report (step_words words worker)

abbrev pub run_left : List ℕ → List ℕ → ℕ → ℕ → Left
run_left words report worker most = reported ran_number ran_report report (run_words words worker most)

-- what an export leaves and returns, over these words, this output and this report
abbrev pub export_left : List ℕ → List ℕ → List ℕ → Left
export_left words out report = reported counted_number counted_report report (export_words words out)

-- both lists of a listing, the report, and a number
pub record Written : Type 0 where
  pub accounts : List ℕ
  pub totals : List ℤ
  pub report : List ℕ
  pub number : ℕ

unfoldable pub written : List ℕ → Shown → Written
written before x =
    record {
      accounts = x.accounts;
      totals = x.totals;
      report = counted_report before x.listed;
      number = counted_number x.listed;
    }

-- what a listing leaves and returns, over these words, lists and report
abbrev pub list_written : List ℕ → List ℕ → List ℤ → List ℕ → Written
list_written words accounts totals report = written report (listing_words words accounts totals)

-- both lists of the rebates, the report, and a number
pub record WrittenRebates : Type 0 where
  pub accounts : List ℕ
  pub rebates : List ℕ
  pub report : List ℕ
  pub number : ℕ

unfoldable pub written_rebates : List ℕ → Rebated → WrittenRebates
written_rebates before x =
    record {
      accounts = x.accounts;
      rebates = x.rebates;
      report = counted_report before x.listed;
      number = counted_number x.listed;
    }

-- what the rebates leave and return, over these words, lists and report
abbrev pub rebates_written : List ℕ → List ℕ → List ℕ → List ℕ → WrittenRebates
rebates_written words accounts rebates report = written_rebates report (rebates_words words accounts rebates)
