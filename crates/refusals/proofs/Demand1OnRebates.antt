-- Demand 1 for the rebates on a table's totals. Rests on the laws of checks, on those of the listing, and on the definitions that the two
-- contracts equal.
use Prim.Native.Nat.{ℕ, ◌≤◌}
use native.Mathlib.Omega.{arith}
use mathlib.Core.Path.{◌≡◌, refl, sym, ◌∙◌}
use mathlib.Core.Bool.{◌||◌}
use mathlib.Core.List.{List}
use lib.Dec.{ltb}
use lib.ListN.{length, replicate, length-map}
use lib.IntN.{ℤ}
use borrow.Author.Tests.{ltb-false}
use Rattle.interface.specs.declared.Refusal.{Refusal}
use Rattle.machine.proofs.laws.Base.{if_elim, if_true}
use Rattle.layout.specs.Shape.{strange, shape_of}
use Rattle.layout.proofs.Checks.{or_parts, zeros_strange}
use Rattle.sorting.specs.RowLists.{accounts_with}
use Rattle.rows.specs.Rows.{rows}
use Rattle.rebates.specs.Rebates.{rebates_with, rebated, rebates_words}
use Rattle.numbers.specs.Returned.{counted_number, counted_report}
use Rattle.capi.specs.Flat.{written_rebates}
use Rattle.refusals.specs.Demand1.{RefusedBy}
use Rattle.refusals.specs.Demand1OnRebates.{rebates_checks, rebate_lists_of, written_rebates_of, RebatesPastCount, Demand1OnRebates}
use Rattle.refusals.proofs.Checking.{passed, check_part}
use Rattle.refusals.proofs.Demand1.{count_never, laid}
use Rattle.refusals.proofs.Demand1ForC.{in_c, listed_known}
use Rattle.std.specs.Prelude.{Ok, Err}

module _ (l accounts rebates : List ℕ) where
  rebates-checks :
      RefusedBy Err (rebates_checks l accounts rebates) (accounts, rebates) (rebate_lists_of (rebates_words l accounts rebates))
  unfolding rebates_checks rebates_words rebated rebate_lists_of
  rebates-checks = check_part rebate_lists_of (strange l) _ _ refl (check_part rebate_lists_of _ _ _ refl (passed count_never))

  refused_past :
      (r : Refusal) → RebatesPastCount accounts rebates (record { accounts = accounts; rebates = rebates; listed = Err r })
  refused_past r k e = absurd (count_never r (sym e))

  module _ (r : List (ℕ × ℤ)) where
    written_past :
        length r ≤ length accounts → length r ≤ length rebates
        → RebatesPastCount accounts rebates
        (record { accounts = accounts_with accounts 0 r; rebates = rebates_with rebates 0 r; listed = Ok (length r) })
    written_past a t k e =
        let count : length r ≡ k = cc in
        (laid accounts _ k (length-map r _ ∙ count) (omega arith), laid rebates _ k (length-map r _ ∙ count) (omega arith))

    rebated_past : RebatesPastCount accounts rebates (rebated accounts rebates r)
    unfolding rebated
    rebated_past =
        if_elim (RebatesPastCount accounts rebates) (ltb (length accounts) (length r) || ltb (length rebates) (length r)) _ _
        (λ _. refused_past Refusal.Narrow)
        (λ e.
        let fit = or_parts (ltb (length accounts) (length r)) _ e in
        written_past (ltb-false _ _ fit.0) (ltb-false _ _ fit.1))

  rebates_past : RebatesPastCount accounts rebates (rebates_words l accounts rebates)
  unfolding rebates_words
  rebates_past =
      if_elim (RebatesPastCount accounts rebates) (strange l) _ _ (λ _. refused_past Refusal.Strange)
      (λ _. rebated_past (rows l (shape_of l)))

zeros :
    (k : ℕ) (accounts rebates : List ℕ)
    → rebates_words (replicate k 0) accounts rebates
    ≡ record { accounts = accounts; rebates = rebates; listed = Err Refusal.Strange }
unfolding rebates_words
zeros k accounts rebates = if_true _ _ (zeros_strange k)

-- Demand 1 for the rebates.
pub demand1_on_rebates : Demand1OnRebates
unfolding rebate_lists_of written_rebates written_rebates_of counted_number counted_report
demand1_on_rebates =
    record {
      rebates = rebates-checks;
      count = rebates_past;
      zeros = zeros;
      rebates_in_c = λ l accounts rebates report.
          in_c counted_number (λ r. refl) (listed_known _) (λ r e h i. ((h i).0, (h i).1, counted_report report (e i)))
          (rebates-checks l accounts rebates);
      zeros_in_c = λ k accounts rebates report. rw (zeros k accounts rebates);
    }
