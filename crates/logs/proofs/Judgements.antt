-- What judging answers, by the search, is what is told without it: the first order or none, or the refusal. Rests on Explained.
use Prim.Native.Nat.{ℕ, ◌%◌, ◌≤◌, ◌<◌}
use native.Mathlib.Omega.{arith}
use mathlib.Core.Path.{◌≡◌, refl, sym, ap, ◌∙◌, subst}
use mathlib.Core.Bool.{Bool, true, false, not}
use mathlib.Core.List.{List}
use Rattle.std.specs.Prelude.{Option, Some, None, Result, Ok, Err}
use lib.Dec.{ltb, eqb}
use lib.ListN.{length}
use borrow.Author.Tests.{eqb-true, leb-true}
use Rattle.interface.specs.Limits.{least_workers, in_range}
use Rattle.interface.specs.declared.Refusal.{Refusal}
use Rattle.interface.specs.declared.Verdict.{Verdict}
use Rattle.machine.specs.Choice.{when◌then◌else◌}
use Rattle.machine.proofs.laws.Base.{none_some, is_false, and_parts}
use Rattle.logs.specs.Log.{are_log, count_of, is_log, log_of, operation_words, greatest_operations}
use Rattle.logs.specs.Judging.{order_of, refusal, verdict_on, refused_or, check_log_words, Judged, AllJudged}
use Rattle.logs.proofs.Explained.{all_first}

-- ---- words that are a log

module _ (l : List ℕ) where
  log_parts : are_log l ≡ true → (eqb (length l % operation_words) 0 ≡ true) × (is_log (log_of l) ≡ true)
  unfolding are_log
  log_parts = and_parts (eqb (length l % operation_words) 0) (is_log (log_of l))

  -- they make whole operations, 12 at most
  pub whole : are_log l ≡ true → length l % operation_words ≡ 0
  whole good = eqb-true (length l % operation_words) 0 (log_parts good).0

  pub few : are_log l ≡ true → count_of l ≤ greatest_operations
  unfolding is_log log_of
  few good = leb-true (count_of l) greatest_operations (and_parts _ _ (and_parts _ _ (log_parts good).1).0).0

  pub no_log : greatest_operations < count_of l → are_log l ≡ false
  no_log many = is_false (are_log l) (λ good. let most = few good in omega arith)

-- ---- verdicts

module _ (l : List ℕ) (b M : ℕ) where
  -- a log that passes the checks is one, and its places have room
  pub passes : (places : ℕ) → refusal l b M places ≡ None → (are_log l ≡ true) × (ltb places (count_of l) ≡ false)
  unfolding refusal when◌then◌else◌
  passes places = go (in_range least_workers b M) (are_log l) (ltb places (count_of l))
    where
      go :
          (r a w : Bool)
          → (when not r then Some Refusal.Settings else when not a then Some Refusal.BadLog else when w then Some Refusal.Narrow else None)
          ≡ None → (a ≡ true) × (w ≡ false)
      go false a w e = absurd (none_some e refl)
      go true false w e = absurd (none_some e refl)
      go true true true e = absurd (none_some e refl)
      go true true false e = (refl, refl)

  module _ (before : List ℕ) where
    pub is-log : refusal l b M (length before) ≡ None → is_log (log_of l) ≡ true
    is-log e = (log_parts l (passes (length before) e).0).1

    abbrev Done : List ℕ × Result Verdict Refusal → Type 0
    Done x = Judged l b M before x.0 x.1

    judged : Done (check_log_words l b M before)
    unfolding check_log_words refused_or verdict_on
    judged = by (refusal l b M (length before)) refl
      where
        on : refusal l b M (length before) ≡ None → (f : Option (List ℕ)) → order_of b M (log_of l) ≡ f → Done (verdict_on before f)
        on e None f = (e, ((all_first b M (log_of l) (is-log e)).none_explains f, refl))
        on e (Some o) f = (e, (o, ((all_first b M (log_of l) (is-log e)).found_first o f, refl)))

        by : (r : Option Refusal) → refusal l b M (length before) ≡ r → Done (refused_or before r (verdict_on before (order_of b M (log_of l))))
        by None e = on e (order_of b M (log_of l)) refl
        by (Some r) e = (e, refl)

    -- the answer to a log that is not refused, and to one that is
    pub unrefused : refusal l b M (length before) ≡ None → check_log_words l b M before ≡ verdict_on before (order_of b M (log_of l))
    unfolding check_log_words refused_or
    unrefused e = rw e

    pub refused : (r : Refusal) → refusal l b M (length before) ≡ Some r → check_log_words l b M before ≡ (before, Err r)
    unfolding check_log_words refused_or
    refused r e = rw e

    only : (after : List ℕ) (v : Result Verdict Refusal) → Judged l b M before after v → (after, v) ≡ check_log_words l b M before
    unfolding verdict_on
    only after (Err r) h = sym (refused r h.0 ∙ ap (λ (x : List ℕ). (x, Err r)) (sym h.1))
    only after (Ok Verdict.Accepted) h =
        let o = h.1.0 in
        let found = (all_first b M (log_of l) (is-log h.0)).first_found o h.1.1.0 in
        sym (unrefused h.0 ∙ ap (verdict_on before) found ∙ ap (λ (x : List ℕ). (x, Ok Verdict.Accepted)) (sym h.1.1.1))
    only after (Ok Verdict.No) h =
        sym (unrefused h.0 ∙ ap (verdict_on before) (none_found (order_of b M (log_of l)) refl)
        ∙ ap (λ (x : List ℕ). (x, Ok Verdict.No)) (sym h.1.1))
      where
        none_found : (f : Option (List ℕ)) → order_of b M (log_of l) ≡ f → f ≡ None
        none_found None e = refl
        none_found (Some o) e = absurd (h.1.0 o ((all_first b M (log_of l) (is-log h.0)).found_first o e).explains)

pub all_judged : AllJudged
all_judged =
    record {
      judged = λ l b M before after v e. subst (λ (x : List ℕ × Result Verdict Refusal). Judged l b M before x.0 x.1) (sym e) (judged l b M before);
      only = only;
    }
