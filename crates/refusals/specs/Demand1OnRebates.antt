-- Demand 1 for the rebates on a table's totals, over any words and lists, and the same for the C function. Rests on the
-- listing's checks and on the definitions that the two contracts equal.
use Rattle.std.specs.Prelude.{ℕ, ◌≡◌, ◌||◌, List, [], ◌∷◌, ltb, length, replicate, Result, Ok, Err}
use Rattle.interface.specs.Numbers.{number_of}
use Rattle.interface.specs.declared.Refusal.{Refusal}
use Rattle.layout.specs.Shape.{shape_of}
use Rattle.rows.specs.Rows.{rows}
use Rattle.rebates.specs.Rebates.{Rebated, rebates_words}
use Rattle.capi.specs.Flat.{WrittenRebates, rebates_written}
use Rattle.refusals.specs.Checks.{Check, check8}
use Rattle.refusals.specs.Demand1.{RefusedBy, RefusedInC, KeptPast}

-- "narrow: listing: accounts or totals list shorter than the count", with a list of rebates in the totals' place
abbrev pub rebates_check10 : List ℕ → List ℕ → List ℕ → Check
rebates_check10 l accounts rebates =
    let count : ℕ = length (rows l (shape_of l)) in
    (ltb (length accounts) count || ltb (length rebates) count, Refusal.Narrow)

-- "The listing checks 8, 10", and so do the rebates
unfoldable pub rebates_checks : List ℕ → List ℕ → List ℕ → List Check
rebates_checks l accounts rebates = check8 l ∷ rebates_check10 l accounts rebates ∷ []

-- both lists afterwards, and the answer
unfoldable pub rebate_lists_of : Rebated → (List ℕ × List ℕ) × Result ℕ Refusal
rebate_lists_of x = ((x.accounts, x.rebates), x.listed)

-- both lists and the report afterwards, and the number
unfoldable pub written_rebates_of : WrittenRebates → (List ℕ × List ℕ × List ℕ) × ℕ
written_rebates_of x = ((x.accounts, x.rebates, x.report), x.number)

-- past the count both lists are as they were, where a count is answered
abbrev pub RebatesPastCount : List ℕ → List ℕ → Rebated → Type 0
RebatesPastCount accounts rebates x =
    (k : ℕ) → x.listed ≡ Ok k → KeptPast k accounts x.accounts × KeptPast k rebates x.rebates

pub record Demand1OnRebates : Type 0 where
  pub rebates :
      (l accounts rebates : List ℕ)
      → RefusedBy Err (rebates_checks l accounts rebates) (accounts, rebates)
      (rebate_lists_of (rebates_words l accounts rebates))
  -- "and nothing past the count"
  pub count : (l accounts rebates : List ℕ) → RebatesPastCount accounts rebates (rebates_words l accounts rebates)
  -- 8 "always on memory of zeros"
  pub zeros :
      (k : ℕ) (accounts rebates : List ℕ)
      → rebates_words (replicate k 0) accounts rebates
      ≡ record { accounts = accounts; rebates = rebates; listed = Err Refusal.Strange }
  -- the C function: the same checks, and the report is kept too
  pub rebates_in_c :
      (l accounts rebates report : List ℕ)
      → RefusedInC (rebates_checks l accounts rebates) (accounts, rebates, report)
      (written_rebates_of (rebates_written l accounts rebates report))
  pub zeros_in_c :
      (k : ℕ) (accounts rebates report : List ℕ)
      → rebates_written (replicate k 0) accounts rebates report
      ≡ record { accounts = accounts; rebates = rebates; report = report; number = number_of Refusal.Strange }
