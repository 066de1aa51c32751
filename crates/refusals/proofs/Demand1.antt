-- Demand 1 for the library's calls: each is refused by the first of its checks that comes out true, and then all is as it was.
-- Rests on the laws of checks and on the definitions that the calls' contracts equal.
use Prim.Native.Nat.{ℕ, zero, suc, ◌+◌, ◌≤◌}
use native.Mathlib.Nat.{zero-add}
use native.Mathlib.Omega.{arith}
use mathlib.Core.Path.{◌≡◌, refl, ap, sym, ◌∙◌}
use mathlib.Core.Bool.{Bool, true, false, not, ◌||◌}
use mathlib.Core.List.{List, [], ◌∷◌}
use Rattle.std.specs.Prelude.{Option, Some, None, Result, Ok, Err, ⊤}
use lib.Dec.{ltb, leb, eqb}
use lib.ListN.{length, drop, replicate, length-map}
use lib.IntN.{ℤ}
use lib.Seq.{drop-append_seam}
use borrow.Author.Tests.{ltb-false, leb-true, leb-false, lt-ltb, le-ltb, ne_eqb}
use Rattle.interface.specs.Limits.{in_range, built, greatest_ticket}
use Rattle.interface.specs.Numbers.{kind_none, kind_insert, kind_delete, kind_lookup, kind_post, greatest_kind}
use Rattle.interface.specs.declared.Settings.{Settings}
use Rattle.interface.specs.declared.Refusal.{Refusal}
use Rattle.interface.specs.declared.Answer.{Answer}
use Rattle.interface.specs.declared.Stepped.{Stepped}
use Rattle.interface.specs.declared.Ran.{Ran}
use Rattle.interface.proofs.Laws.{wrong_settings, right_settings}
use Rattle.machine.specs.Choice.{when◌then◌else◌}
use Rattle.machine.specs.Plan.{Phase, announce, read_directory, flip_toggle, read_state, read_toggle, swap_state, check_state, copy_directory, swap_directory, read_slot, resize_for}
use Rattle.machine.proofs.laws.Base.{if_elim, if_true}
use Rattle.fields.specs.Fields.{worker_kind, worker_ticket}
use Rattle.fields.specs.Regions.{worker_at}
use Rattle.lists.specs.Parts.{overlay}
use Rattle.lists.proofs.PartLaws.{length_overlay}
use Rattle.layout.specs.Shape.{word, strange, shape_of}
use Rattle.layout.proofs.Checks.{or_parts, zeros_strange}
use Rattle.sorting.specs.RowLists.{accounts_with, totals_with}
use Rattle.calls.specs.Calls.{call_in, call_words, ended_at}
use Rattle.lookups.specs.Lookups.{lookup_at}
use Rattle.updates.specs.Updates.{check_at, update_at, operation_at}
use Rattle.turns.specs.Turns.{step_in, step_words}
use Rattle.runs.specs.Runs.{last_of, or_else, run_in, run_words}
use Rattle.opening.specs.Opening.{needed_for, opened_words, open_words}
use Rattle.rows.specs.Rows.{rows, shown, listing_words}
use Rattle.refusals.specs.Checks.{own_word, check6, check7, needed_checks, opening_checks, call_checks, step_checks, listing_checks}
use Rattle.refusals.specs.Demand1.{RefusedBy, lists_of, KeptPast, PastCount, AllStrange, Demand1}
use Rattle.refusals.proofs.Checking.{passed, stopped, going_on, check_then, check_part}

-- a choice, the other way round
if_not : {A : Type 0} (k j : ℕ) (x y : A) → when leb k j then x else y ≡ when ltb j k then y else x
unfolding when◌then◌else◌
if_not k j x y = go (leb k j) refl
  where
    go : (t : Bool) → leb k j ≡ t → when leb k j then x else y ≡ when ltb j k then y else x
    go true e = rw (e, le-ltb j k (leb-true k j e))
    go false e = rw (e, lt-ltb j k (leb-false k j e))

-- ---- answers that are no refusal

words_never : {k : ℕ} (r : Refusal) → Ok k ≡ Err r → ⊥
words_never r e = let z : ◌≡◌ {A = ℕ} 0 1 = cc in omega arith

-- what an opening answers, and a call
abbrev done : Result ⊤ Refusal
done = Ok tt

done_never : (r : Refusal) → done ≡ Err r → ⊥
done_never r e = let z : ◌≡◌ {A = ℕ} 0 1 = cc in omega arith

moved_never : {r : Refusal} → Stepped.Moved ≡ Stepped.Refused r → ⊥
moved_never e = let z : ◌≡◌ {A = ℕ} 0 1 = cc in omega arith

ended_never : (l : List ℕ) (p k c : ℕ) (a : Answer) {r : Refusal} → (ended_at l p k c a).1 ≡ Stepped.Refused r → ⊥
unfolding ended_at
ended_never l p k c a e = let z : ◌≡◌ {A = ℕ} 0 1 = cc in omega arith

pub count_never : {k : ℕ} (r : Refusal) → Ok k ≡ Err r → ⊥
count_never r e = let z : ◌≡◌ {A = ℕ} 0 1 = cc in omega arith

-- ---- settings and openings

module _ (n b M : ℕ) where
  built_is :
      {A : Type 0} (f : Result Settings Refusal → A)
      → f (built n b M)
      ≡ when not (in_range n b M) then f (Err Refusal.Settings)
      else f (Ok (record { workers = n; capacity = b; depth = M }))
  unfolding when◌then◌else◌
  built_is f = go (in_range n b M) refl
    where
      go :
          (t : Bool) → in_range n b M ≡ t
          → f (built n b M)
          ≡ when not t then f (Err Refusal.Settings)
          else f (Ok (record { workers = n; capacity = b; depth = M }))
      go true e = ap f (right_settings n b M e)
      go false e = ap f (wrong_settings n b M e)

  pub needed-checks : RefusedBy Err (needed_checks n b M) (tt {0}) (tt, needed_for (built n b M))
  unfolding needed_checks needed_for
  needed-checks = rw (built_is {A = Unit {0} × Result ℕ Refusal} (λ x. (tt, needed_for x))) (check_then (passed words_never) _)

  pub opening-checks : (l : List ℕ) → RefusedBy Err (opening_checks l n b M) l (open_words l n b M)
  unfolding opening_checks open_words opened_words
  opening-checks l = rw (built_is (opened_words l), if_not) (check_then (check_then (passed done_never) _) _)

-- ---- a call

-- the checks of the kind and of the worker's updates, kind by kind
kind_checks :
    (l m n : List ℕ) (w kind : ℕ)
    → RefusedBy Err (check6 kind ∷ check7 l w kind ∷ []) l
    (when ltb kind kind_insert || ltb greatest_kind kind then (l, Err Refusal.Kind)
    else when eqb kind kind_lookup then (m, done)
    else when leb greatest_ticket (own_word l w worker_ticket) then (l, Err Refusal.Spent)
    else (n, done))
unfolding when◌then◌else◌
kind_checks l m n w zero = stopped
kind_checks l m n w (suc zero) = going_on (check_then (passed done_never) _)
kind_checks l m n w (suc (suc zero)) = going_on (check_then (passed done_never) _)
kind_checks l m n w (suc (suc (suc zero))) = going_on (going_on (passed done_never))
kind_checks l m n w (suc (suc (suc (suc zero)))) = going_on (check_then (passed done_never) _)
kind_checks l m n w (suc (suc (suc (suc (suc k))))) =
    let kind : ℕ = suc (suc (suc (suc (suc k)))) in
    rw (
      le-ltb kind kind_insert (omega arith),
      lt-ltb greatest_kind kind (omega arith),
      ne_eqb kind kind_insert (λ e. omega arith),
      ne_eqb kind kind_delete (λ e. omega arith),
      ne_eqb kind kind_lookup (λ e. omega arith),
      ne_eqb kind kind_post (λ e. omega arith),
    ) stopped

pub call-checks :
    (l : List ℕ) (w kind a : ℕ) (v : ℤ) → RefusedBy Err (call_checks l w kind) l (call_words l w kind a v)
unfolding call_checks call_words call_in
call-checks l w kind a v = check_then (check_then (check_then (kind_checks l _ _ w kind) _) _) _

-- ---- a step

lookup_never : (l : List ℕ) (s : Settings) (p k : ℕ) {r : Refusal} → (lookup_at l s p k).1 ≡ Stepped.Refused r → ⊥
unfolding lookup_at
lookup_never l s p zero e = moved_never e
lookup_never l s p (suc k) e = ended_never l p (suc k) _ _ e

check_never : (l : List ℕ) (p k c : ℕ) (o : Option Answer) {r : Refusal} → (check_at l p k c o).1 ≡ Stepped.Refused r → ⊥
unfolding check_at
check_never l p k c None e = moved_never e
check_never l p k c (Some a) e = ended_never l p k c a e

update_never : (l : List ℕ) (s : Settings) (p w k : ℕ) (f : Phase) {r : Refusal} → (update_at l s p w k f).1 ≡ Stepped.Refused r → ⊥
unfolding update_at
update_never l s p w k announce e = moved_never e
update_never l s p w k read_directory e = moved_never e
update_never l s p w k flip_toggle e = moved_never e
update_never l s p w k read_state e = moved_never e
update_never l s p w k read_toggle e = moved_never e
update_never l s p w k (read_slot j) e = moved_never e
update_never l s p w k swap_state e = moved_never e
update_never l s p w k check_state e = check_never l p k _ _ e
update_never l s p w k copy_directory e = moved_never e
update_never l s p w k (resize_for j) e = moved_never e
update_never l s p w k swap_directory e = moved_never e

-- a step of an operation is not refused
pub operation_never : (l : List ℕ) (s : Settings) (p w k : ℕ) (r : Refusal) → (operation_at l s p w k).1 ≡ Stepped.Refused r → ⊥
unfolding operation_at
operation_never l s p w k r =
    if_elim (λ (x : List ℕ × Stepped). x.1 ≡ Stepped.Refused r → ⊥) (eqb (word l (p + worker_kind)) kind_lookup) _ _
    (λ _. lookup_never _ s p k) (λ _. update_never _ s p w k _)

pub step-checks : (l : List ℕ) (w : ℕ) → RefusedBy Stepped.Refused (step_checks l w) l (step_words l w)
unfolding step_checks step_words step_in
step-checks l w = check_then (check_then (check_then (passed (operation_never l _ _ w _)) _) _) _

-- ---- a run

module _ (r : Refusal) where
  abbrev Runs : List ℕ × Result Ran Refusal → Type 0
  Runs x = x.1 ≡ Err r → ⊥

  moved_runs : (l : List ℕ) (k : ℕ) → Runs (l, Ok (Ran.Moved k))
  moved_runs l k e = let z : ◌≡◌ {A = ℕ} 0 1 = cc in omega arith

  else_runs : (l : List ℕ) (k : ℕ) (x : Stepped) (later : List ℕ × Result Ran Refusal) → Runs later → Runs (or_else l (last_of k x) later)
  unfolding or_else last_of
  else_runs l k Stepped.Moved later h e = h e
  else_runs l k (Stepped.Answered c) later h e = let z : ◌≡◌ {A = ℕ} 0 1 = cc in omega arith
  else_runs l k (Stepped.Refused o) later h e = moved_runs l k e

  -- a run that has begun is not refused
  run_never : (f : ℕ) (l : List ℕ) (s : Settings) (w k : ℕ) → Runs (run_in l s w k f)
  unfolding run_in
  run_never zero l s w k = moved_runs l k
  run_never (suc f) l s w k =
      if_elim Runs (eqb (word l (worker_at s.workers w + worker_kind)) kind_none) _ _ (λ _. moved_runs l k)
      (λ _. else_runs _ k _ _ (run_never f _ s w (suc k)))

pub run_checks : (l : List ℕ) (w most : ℕ) → RefusedBy Err (step_checks l w) l (run_words l w most)
unfolding step_checks run_words
run_checks l w most = check_then (check_then (check_then (passed (λ r. run_never r _ l _ w 0)) _) _) _

-- ---- the listing

-- so many items laid at the start of a list
pub laid : {A : Type 0} (l xs : List A) (k : ℕ) → length xs ≡ k → k ≤ length l → KeptPast k l (overlay l 0 xs)
unfolding overlay
laid l xs k e h = record {
  room = h;
  long = length_overlay l 0 xs (rw (e, zero-add) h);
  past = rw (zero-add, ← e) (drop-append_seam xs (drop (length xs) l));
}

module _ (l accounts : List ℕ) (totals : List ℤ) where
  pub listing-checks :
      RefusedBy Err (listing_checks l accounts totals) (accounts, totals) (lists_of (listing_words l accounts totals))
  unfolding listing_checks listing_words shown lists_of
  listing-checks = check_part lists_of (strange l) _ _ refl (check_part lists_of _ _ _ refl (passed count_never))

  refused_past : (r : Refusal) → PastCount accounts totals (record { accounts = accounts; totals = totals; listed = Err r })
  refused_past r k e = absurd (count_never r (sym e))

  module _ (r : List (ℕ × ℤ)) where
    written_past :
        length r ≤ length accounts → length r ≤ length totals
        → PastCount accounts totals
        (record { accounts = accounts_with accounts 0 r; totals = totals_with totals 0 r; listed = Ok (length r) })
    written_past a t k e =
        let count : length r ≡ k = cc in
        (laid accounts _ k (length-map r _ ∙ count) (omega arith), laid totals _ k (length-map r _ ∙ count) (omega arith))

    shown_past : PastCount accounts totals (shown accounts totals r)
    unfolding shown
    shown_past =
        if_elim (PastCount accounts totals) (ltb (length accounts) (length r) || ltb (length totals) (length r)) _ _
        (λ _. refused_past Refusal.Narrow)
        (λ e.
        let fit = or_parts (ltb (length accounts) (length r)) _ e in
        written_past (ltb-false _ _ fit.0) (ltb-false _ _ fit.1))

  pub listing_past : PastCount accounts totals (listing_words l accounts totals)
  unfolding listing_words
  listing_past =
      if_elim (PastCount accounts totals) (strange l) _ _ (λ _. refused_past Refusal.Strange) (λ _. shown_past (rows l (shape_of l)))

-- ---- 8

strange_all : (l : List ℕ) → strange l ≡ true → AllStrange l
unfolding call_words step_words run_words listing_words
strange_all l e =
    record {
      call = λ w kind a v. if_true _ _ e;
      step = λ w. if_true _ _ e;
      run = λ w most. if_true _ _ e;
      listing = λ accounts totals. if_true _ _ e;
    }

-- Demand 1.
pub demand1 : Demand1
demand1 =
    record {
      needed = needed-checks;
      opening = λ l n b M. opening-checks n b M l;
      call = call-checks;
      step = step-checks;
      run = run_checks;
      listing = listing-checks;
      count = listing_past;
      zeros = λ k. strange_all (replicate k 0) (zeros_strange k);
    }
