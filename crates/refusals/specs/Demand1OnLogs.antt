-- Demand 1 for the judgement of a log, over any words for it and any list for the order, and the same for the C
-- function. Rests on the contract of the judgement.
use Rattle.std.specs.Prelude.{ℕ, ◌≡◌, not, List, [], ◌∷◌, ltb, length, Ok, Err}
use Rattle.interface.specs.Limits.{least_workers}
use Rattle.interface.specs.declared.Refusal.{Refusal}
use Rattle.interface.specs.declared.Verdict.{Verdict}
use Rattle.logs.specs.Log.{are_log, count_of}
use Rattle.logs.specs.Judging.{check_log_words}
use Rattle.numbers.specs.Returned.{verdict_number}
use Rattle.capi.specs.Flat.{flat}
use Rattle.refusals.specs.Checks.{Check, check1}
use Rattle.refusals.specs.Demand1.{RefusedBy, RefusedInC, KeptPast}

-- "14, bad log"
abbrev pub check14 : List ℕ → Check
check14 l = (not (are_log l), Refusal.BadLog)

-- the list for the order is shorter than the log
abbrev pub log_check10 : List ℕ → List ℕ → Check
log_check10 l order = (ltb (length order) (count_of l), Refusal.Narrow)

-- "b and M outside 01's ranges give 1 before it"; workers take no part
unfoldable pub log_checks : List ℕ → ℕ → ℕ → List ℕ → List Check
log_checks l b M order = check1 least_workers b M ∷ check14 l ∷ log_check10 l order ∷ []

pub record Demand1OnLogs : Type 0 where
  pub judged :
      (l : List ℕ) (b M : ℕ) (order : List ℕ)
      → RefusedBy Err (log_checks l b M order) order (check_log_words l b M order)
  -- nothing is written past the places of the log
  pub past :
      (l : List ℕ) (b M : ℕ) (order : List ℕ) → (check_log_words l b M order).1 ≡ Ok Verdict.Accepted
      → KeptPast (count_of l) order (check_log_words l b M order).0
  -- the C function: the same checks
  pub judged_in_c :
      (l : List ℕ) (b M : ℕ) (order : List ℕ)
      → RefusedInC (log_checks l b M order) order (flat verdict_number (check_log_words l b M order))
