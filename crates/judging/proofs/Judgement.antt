-- The search in words from empty balances, with its cuts, is the plain search over the log from the empty table; so its verdict is the
-- one promised. Rests on the laws of the search, crate logs, and on the meaning of balances, crate replay.
use Prim.Native.Nat.{ℕ, ◌/◌, ◌≤◌, ◌<◌}
use native.Mathlib.Omega.{arith}
use mathlib.Core.Path.{refl, ◌≡◌, sym, ap, ◌∙◌}
use mathlib.Core.Bool.{Bool, true, false, not}
use mathlib.Core.List.{List, []}
use Rattle.std.specs.Prelude.{Option, Some, None, Result, Ok, Err}
use lib.ListN.{length, replicate}
use borrow.Author.Tests.{ltb-true, lt-ltb, le-ltb}
use Rattle.interface.specs.Limits.{least_workers, in_range, built}
use Rattle.interface.specs.declared.Settings.{Settings}
use Rattle.interface.specs.declared.Refusal.{Refusal}
use Rattle.interface.specs.declared.Verdict.{Verdict}
use Rattle.interface.proofs.Laws.{wrong_settings as outside_range, right_settings}
use Rattle.machine.specs.Choice.{when◌then◌else◌}
use Rattle.machine.specs.Sequential.{Table}
use Rattle.machine.proofs.laws.Base.{if_true, if_false}
use Rattle.logs.specs.Log.{are_log, count_of, log_of}
use Rattle.logs.specs.Orders.{served_at}
use Rattle.logs.specs.Same.{same_numbers}
use Rattle.logs.specs.Judging.{earlier_in, places_of, order_of, refusal, verdict_on, check_log_words}
use Rattle.logs.proofs.Cuts.{search_laws}
use Rattle.logs.proofs.Related.{search_related}
use Rattle.logs.proofs.Explained.{places_count}
use Rattle.logs.proofs.Judgements.{whole, few, unrefused, refused}
use Rattle.replay.specs.Replay.{replayed, still_at}
use Rattle.replay.proofs.PlainTable.{Means, empty_means, replay_means, still_keeps}
use Rattle.searching.specs.Searching.{is_left, search_in, written_in, is_found}
use Rattle.logs.proofs.SameLaws.{same-numbers}
use Rattle.judging.specs.Places.{all_left}
use Rattle.judging.proofs.AllLeft.{all-left}

abbrev zeros : List ℕ
zeros = replicate 24 0

-- ---- settings

module _ (b M : ℕ) where
  pub settings_in : (s : Settings) → built least_workers b M ≡ Ok s → in_range least_workers b M ≡ true
  settings_in s e = go (in_range least_workers b M) refl
    where
      go : (t : Bool) → in_range least_workers b M ≡ t → t ≡ true
      go true h = refl
      go false h = let w = outside_range least_workers b M h in let z : ◌≡◌ {A = ℕ} 0 1 = cc in absurd (omega arith)

  pub settings_out : (r : Refusal) → built least_workers b M ≡ Err r → in_range least_workers b M ≡ false
  settings_out r e = go (in_range least_workers b M) refl
    where
      go : (t : Bool) → in_range least_workers b M ≡ t → t ≡ false
      go true h = let w = right_settings least_workers b M h in let z : ◌≡◌ {A = ℕ} 0 1 = cc in absurd (omega arith)
      go false h = refl

  -- and they are refused as settings
  pub settings_why : (r : Refusal) → built least_workers b M ≡ Err r → Refusal.Settings ≡ r
  settings_why r e =
      let q : ◌≡◌ {A = Result Settings Refusal} (Err Refusal.Settings) (Err r) =
      sym (outside_range least_workers b M (settings_out r e)) ∙ e in
      cc

-- ---- good logs

pub short : (l : List ℕ) → are_log l ≡ true → length l ≤ 96
unfolding count_of
short l good =
    let w = whole l good in
    let c : length l / 8 ≤ 12 = few l good in
    omega arith

-- ---- the search

module _ (l : List ℕ) (b M : ℕ) where
  judged_by_search : count_of l ≤ 12
      → search_in l b M (count_of l) zeros 0 (is_left (all_left (count_of l))) zeros ≡ order_of b M (log_of l)
  unfolding order_of log_of places_of
  judged_by_search few =
      let places = places_of (log_of l) in
      let cut = ((search_laws (List ℕ) 12 (replayed l b M) (earlier_in (log_of l))).cuts (still_at l) same_numbers
      (λ i t t' s e. still_keeps l b M i t t' s e) same-numbers).as_plain places zeros zeros in
      let plain = search_related (List ℕ) Table 12 (replayed l b M) (served_at b M (log_of l)) (earlier_in (log_of l)) (Means l M) places
      (λ t t' i r e. replay_means l b M few t t' i r (ltb-true i (count_of l) e)) (count_of l) places (λ i e. e) zeros [] (empty_means l M) in
      ap (λ (left : ℕ → Bool). search_in l b M (count_of l) zeros 0 left zeros) (all-left (count_of l))
      ∙ (rw (places_count (log_of l) few) at cut) ∙ plain

  -- ---- verdicts

  module _ (places : ℕ) where
    pub wrong_settings : in_range least_workers b M ≡ false → refusal l b M places ≡ Some Refusal.Settings
    unfolding refusal
    wrong_settings e = if_true _ _ (ap not e)

    module _ (range : in_range least_workers b M ≡ true) where
      pub bad_log : are_log l ≡ false → refusal l b M places ≡ Some Refusal.BadLog
      unfolding refusal
      bad_log e = if_false _ _ (ap not range) ∙ if_true _ _ (ap not e)

      module _ (good : are_log l ≡ true) where
        pub too_narrow : places < count_of l → refusal l b M places ≡ Some Refusal.Narrow
        unfolding refusal
        too_narrow e = if_false _ _ (ap not range) ∙ if_false _ _ (ap not good) ∙ if_true _ _ (lt-ltb _ _ e)

        no_refusal : count_of l ≤ places → refusal l b M places ≡ None
        unfolding refusal
        no_refusal room = if_false _ _ (ap not range) ∙ if_false _ _ (ap not good) ∙ if_false _ _ (le-ltb _ _ room)

  module _ (before : List ℕ) where
    pub refused_as : (r : Refusal) → refusal l b M (length before) ≡ Some r → (before, Err r) ≡ check_log_words l b M before
    refused_as r e = sym (refused l b M before r e)

    module _ (range : in_range least_workers b M ≡ true) (good : are_log l ≡ true) (room : count_of l ≤ length before) (left after : List ℕ)
        (all : left ≡ all_left (count_of l)) where
      abbrev found : Option (List ℕ)
      found = search_in l b M (count_of l) zeros 0 (is_left left) zeros

      by_search : check_log_words l b M before ≡ verdict_on before found
      by_search =
          unrefused l b M before (no_refusal (length before) range good room)
          ∙ ap (verdict_on before) (sym (rw all (judged_by_search (few l good))))

      by_order : (f : Option (List ℕ)) → (written_in before f, when is_found f then Ok Verdict.Accepted else Ok Verdict.No) ≡ verdict_on before f
      unfolding written_in is_found when◌then◌else◌ verdict_on
      by_order None = refl
      by_order (Some o) = refl

      pub answered : after ≡ written_in before found → (r : Bool) → r ≡ is_found found
          → (after, when r then Ok Verdict.Accepted else Ok Verdict.No) ≡ check_log_words l b M before
      answered w r e = rw (w, e) (by_order found ∙ sym by_search)
