-- Demand 1 for the judgement of a log. Rests on its contract and on the laws of the search over a log.
use Prim.Native.Nat.{ℕ}
use native.Mathlib.Omega.{arith}
use mathlib.Core.Path.{◌≡◌, refl, sym, ap, ◌∙◌, subst}
use mathlib.Core.List.{List}
use Rattle.std.specs.Prelude.{Some, None, Result, Ok, Err}
use lib.ListN.{length}
use borrow.Author.Tests.{ltb-false}
use Rattle.interface.specs.declared.Refusal.{Refusal}
use Rattle.interface.specs.declared.Verdict.{Verdict}
use Rattle.machine.proofs.laws.Base.{none_some}
use Rattle.logs.specs.Log.{count_of, log_of}
use Rattle.logs.specs.Judging.{refusal, check_log_words, Judged}
use Rattle.logs.proofs.Explained.{explained_length}
use Rattle.logs.proofs.Judgements.{passes, is-log, all_judged}
use Rattle.numbers.specs.Returned.{verdict_number}
use Rattle.capi.specs.Flat.{flat}
use Rattle.refusals.specs.Checks.{refusal_by}
use Rattle.refusals.specs.Demand1.{RefusedBy, RefusalNumber, KeptPast}
use Rattle.refusals.specs.Demand1OnLogs.{log_checks, Demand1OnLogs}
use Rattle.refusals.proofs.Demand1.{laid}
use Rattle.refusals.proofs.Demand1ForC.{in_c}

same_checks : (l : List ℕ) (b M : ℕ) (order : List ℕ) → refusal_by (log_checks l b M order) ≡ refusal l b M (length order)
unfolding refusal_by log_checks refusal
same_checks l b M order = refl

accepted_never : (r : Refusal) → Ok Verdict.Accepted ≡ Err r → ⊥
accepted_never r e = let z : ◌≡◌ {A = ℕ} 0 1 = cc in omega arith

no_never : (r : Refusal) → Ok Verdict.No ≡ Err r → ⊥
no_never r e = let z : ◌≡◌ {A = ℕ} 0 1 = cc in omega arith

verdict_known : (v : Result Verdict Refusal) → RefusalNumber (verdict_number v) → (r : Refusal) × (v ≡ Err r)
unfolding verdict_number
verdict_known (Ok Verdict.Accepted) k = absurd (k.0 refl)
verdict_known (Ok Verdict.No) k = absurd (let h = k.1 in omega arith)
verdict_known (Err r) k = (r, refl)

module _ (l : List ℕ) (b M : ℕ) (order : List ℕ) where
  abbrev after : List ℕ
  after = (check_log_words l b M order).0

  -- no check comes out true, and the verdict is no refusal
  unrefused : (v : Result Verdict Refusal) → ((r : Refusal) → v ≡ Err r → ⊥) → refusal l b M (length order) ≡ None
      → RefusedBy Err (log_checks l b M order) order (after, v)
  unrefused v never e =
      record {
        bad = λ r f. absurd (none_some e (sym (same_checks l b M order) ∙ f));
        other = λ _ k. never k.0 k.1;
        kept = λ k. absurd (never k.0 k.1);
      }

  by_verdict : (v : Result Verdict Refusal) → Judged l b M order after v → RefusedBy Err (log_checks l b M order) order (after, v)
  by_verdict (Ok Verdict.Accepted) h = unrefused (Ok Verdict.Accepted) accepted_never h.0
  by_verdict (Ok Verdict.No) h = unrefused (Ok Verdict.No) no_never h.0
  by_verdict (Err s) h =
      record {
        bad = λ r e. let q : Some s ≡ Some r = sym h.0 ∙ sym (same_checks l b M order) ∙ e in cc;
        other = λ e _. none_some (sym (same_checks l b M order) ∙ e) h.0;
        kept = λ _. h.1;
      }

  judged : RefusedBy Err (log_checks l b M order) order (check_log_words l b M order)
  judged = by_verdict (check_log_words l b M order).1 (all_judged.judged l b M order _ _ refl)

  past : (check_log_words l b M order).1 ≡ Ok Verdict.Accepted → KeptPast (count_of l) order after
  unfolding log_of
  past e =
      let h = all_judged.judged l b M order after (Ok Verdict.Accepted) (ap (λ (v : Result Verdict Refusal). (after, v)) (sym e)) in
      let o = h.1.0 in
      let room = ltb-false (length order) (count_of l) (passes l b M (length order) h.0).1 in
      subst (KeptPast (count_of l) order) (sym h.1.1.1)
      (laid order o (count_of l) (explained_length b M (log_of l) (is-log l b M order h.0) o h.1.1.0.explains) room)

-- Demand 1 for the judgement of a log.
pub demand1_on_logs : Demand1OnLogs
unfolding verdict_number flat
demand1_on_logs =
    record {
      judged = judged;
      past = past;
      judged_in_c = λ l b M order.
          in_c verdict_number (λ r. refl) (verdict_known (check_log_words l b M order).1) (λ r e f. f) (judged l b M order);
    }
