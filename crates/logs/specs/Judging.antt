-- What judging a log answers. 02, No. 9: "It accepts, showing one such order, exactly if some order ..; Otherwise it
-- answers no. An empty log is accepted. Checks: 14, bad log, ..; b and M outside 01's ranges give 1 before it." No. 10:
-- "The checker shall show the first". Rests on specs/Orders, specs/Comparing and specs/Search.
use Rattle.std.specs.Prelude.{ℕ, ◌≡◌, Bool, true, not, List, [], ltb, length, Option, Some, None, Result, Ok, Err}
use Rattle.interface.specs.Limits.{least_workers, in_range}
use Rattle.interface.specs.declared.Refusal.{Refusal}
use Rattle.interface.specs.declared.Verdict.{Verdict}
use Rattle.lists.specs.Parts.{overlay}
use Rattle.machine.specs.Choice.{when◌then◌else◌}
use Rattle.machine.specs.Sequential.{Table}
use Rattle.logs.specs.Log.{Log, is_log, are_log, count_of, log_of, precedes, greatest_operations}
use Rattle.logs.specs.Orders.{served_at, Explains}
use Rattle.logs.specs.Comparing.{NotAfter}
use Rattle.logs.specs.Search.{search}

-- ---- the search over a log

-- the operation at j was answered before the call of that at i
unfoldable pub earlier_in : Log → ℕ → ℕ → Bool
earlier_in log j i = precedes (log.at j) (log.at i)

-- the places of a log
unfoldable pub places_of : Log → ℕ → Bool
places_of log i = ltb i log.count

-- an order, searched for from the empty table
unfoldable pub order_of : ℕ → ℕ → Log → Option (List ℕ)
order_of b M log =
    search Table greatest_operations (served_at b M log) (earlier_in log) log.count (places_of log) []

-- ---- the first order

-- of all orders that explain the log: "The checker shall show the first" (02, No. 10)
pub record First (b M : ℕ) (log : Log) (o : List ℕ) : Type 0 where
  pub explains : Explains b M log o
  pub before_others : (p : List ℕ) → Explains b M log p → NotAfter o p

-- for a good log: the search finds exactly the first order, and none where no order explains the log
pub record SearchFindsFirst (b M : ℕ) (log : Log) : Type 0 where
  pub found_first : (o : List ℕ) → order_of b M log ≡ Some o → First b M log o
  pub first_found : (o : List ℕ) → First b M log o → order_of b M log ≡ Some o
  pub none_explains : order_of b M log ≡ None → (o : List ℕ) → Explains b M log o → ⊥

abbrev pub AllFirst : Type 0
AllFirst = (b M : ℕ) (log : Log) → is_log log ≡ true → SearchFindsFirst b M log

-- ---- verdicts

-- 1, then 14, then 10 where the list for the order is shorter than the log; for a log in words and a list of so many
-- places
unfoldable pub refusal : List ℕ → ℕ → ℕ → ℕ → Option Refusal
refusal l b M places =
    when not (in_range least_workers b M) then Some Refusal.Settings
    else when not (are_log l) then Some Refusal.BadLog
    else when ltb places (count_of l) then Some Refusal.Narrow
    else None

-- the list for the order, and the verdict, by what was found
unfoldable pub verdict_on : List ℕ → Option (List ℕ) → List ℕ × Result Verdict Refusal
verdict_on before None = (before, Ok Verdict.No)
verdict_on before (Some o) = (overlay before 0 o, Ok Verdict.Accepted)

-- a refusal leaves the list as it was
unfoldable pub refused_or : List ℕ → Option Refusal → List ℕ × Result Verdict Refusal → List ℕ × Result Verdict Refusal
refused_or before None judged = judged
refused_or before (Some r) judged = (before, Err r)

-- what judging leaves of the list for the order, and its verdict
unfoldable pub check_log_words : List ℕ → ℕ → ℕ → List ℕ → List ℕ × Result Verdict Refusal
check_log_words l b M before =
    refused_or before (refusal l b M (length before)) (verdict_on before (order_of b M (log_of l)))

-- The same told without the search: a log is accepted with the first of all orders that explain it written at the start
-- of the list, or none does; else the list is as it was.
abbrev pub Judged : List ℕ → ℕ → ℕ → List ℕ → List ℕ → Result Verdict Refusal → Type 0
Judged l b M before after (Err r) = (refusal l b M (length before) ≡ Some r) × (after ≡ before)
Judged l b M before after (Ok Verdict.Accepted) =
    (refusal l b M (length before) ≡ None)
    × ((o : List ℕ) × (First b M (log_of l) o × (after ≡ overlay before 0 o)))
Judged l b M before after (Ok Verdict.No) =
    (refusal l b M (length before) ≡ None)
    × (((o : List ℕ) → Explains b M (log_of l) o → ⊥) × (after ≡ before))

-- for any words: judging does that, and nothing else is that
pub record AllJudged : Type 0 where
  pub judged :
      (l : List ℕ) (b M : ℕ) (before after : List ℕ) (v : Result Verdict Refusal)
      → (after, v) ≡ check_log_words l b M before → Judged l b M before after v
  pub only :
      (l : List ℕ) (b M : ℕ) (before after : List ℕ) (v : Result Verdict Refusal) → Judged l b M before after v
      → (after, v) ≡ check_log_words l b M before
