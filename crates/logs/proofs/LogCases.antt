-- Small logs with the orders that the search finds for them, each proved by computing it. Rests on the definitions, and for the first of
-- two orders on Explained.
use Prim.Native.Nat.{ℕ, ◌+◌, ◌<◌}
use native.Mathlib.Omega.{arith}
use native.Mathlib.Decide.{ℕ_discrete}
use mathlib.Core.Path.{◌≡◌, refl}
use mathlib.Core.Logic.{◌≢◌, inl, inr, ⊎_elim, by_cases}
use mathlib.Core.Bool.{true}
use mathlib.Core.List.{List, [], ◌∷◌}
use Rattle.std.specs.Prelude.{Some, None}
use lib.IntN.{ℤ, pos}
use lib.ListN.{length, get_or}
use Rattle.interface.specs.Numbers.{kind_insert, kind_lookup, answer_number, answer_total}
use Rattle.interface.specs.declared.Answer.TheVariants.{Added, Found, Crowded}
use Rattle.interface.specs.declared.Answer.TheVariants as Answer
use Rattle.machine.specs.Computing.{computing}
use Rattle.report.specs.Report.{answer_base}
use Rattle.logs.specs.Log.{Logged, Log, all, is_operation, apart, precedes, in_turn, is_log}
use Rattle.logs.specs.Orders.{equal_z, same_total, gives, after_giving, served_if, served_at, EachOnce, Explains}
use Rattle.logs.specs.Search.{starting, or_else, ready, begun, opened, tries, search}
use Rattle.logs.specs.Judging.{earlier_in, places_of, order_of, First}
use Rattle.logs.proofs.Explained.{all_first}

-- A marker: a declaration that says `unfolding judging` computes the search over a log.
unfoldable pub judging : Unit {0}
unfolding computing answer_total all is_operation apart precedes in_turn is_log equal_z same_total gives after_giving served_if served_at starting
    or_else ready begun opened tries search earlier_in places_of order_of
judging = tt

-- ---- logs written down: worker, account, total, answer, and the positions of call and answer

abbrev insert : ℕ → ℕ → ℤ → ℕ → ℕ → ℕ → Logged
insert w a v r call end =
    record { worker = w; kind = kind_insert; account = a; total = v; answer = r; answer_total = pos 0; call = call; end = end }

-- the total is the answer's
abbrev lookup : ℕ → ℕ → ℕ → ℤ → ℕ → ℕ → Logged
lookup w a r v call end =
    record { worker = w; kind = kind_lookup; account = a; total = pos 0; answer = r; answer_total = v; call = call; end = end }

abbrev logged : List Logged → Log
logged l = record { count = length l; at = λ i. get_or l i (lookup 0 0 0 (pos 0) 0 0) }

abbrev added : ℕ
added = answer_base + answer_number Added

abbrev found : ℕ
found = answer_base + answer_number (Found (pos 0))

abbrev missing : ℕ
missing = answer_base + answer_number Answer.None

abbrev crowded : ℕ
crowded = answer_base + answer_number Crowded

-- ---- with b 4, M 2

pub empty_log : order_of 4 2 (logged []) ≡ Some []
unfolding judging
empty_log = refl

-- a lookup finds the total of an insert that it overlaps
pub found_meanwhile : order_of 4 2 (logged (insert 0 7 (pos 50) added 0 2 ∷ lookup 1 7 found (pos 50) 1 3 ∷ [])) ≡ Some (0 ∷ 1 ∷ [])
unfolding judging
found_meanwhile = refl

-- also listed the other way round
pub found_first : order_of 4 2 (logged (lookup 1 7 found (pos 50) 1 3 ∷ insert 0 7 (pos 50) added 0 2 ∷ [])) ≡ Some (1 ∷ 0 ∷ [])
unfolding judging
found_first = refl

-- a lookup that found another total
pub wrong_total : order_of 4 2 (logged (insert 0 7 (pos 50) added 0 2 ∷ lookup 1 7 found (pos 51) 1 3 ∷ [])) ≡ None
unfolding judging
wrong_total = refl

-- a lookup that found it, answered before the insert's call
pub found_too_early : order_of 4 2 (logged (insert 0 7 (pos 50) added 2 3 ∷ lookup 1 7 found (pos 50) 0 1 ∷ [])) ≡ None
unfolding judging
found_too_early = refl

-- a lookup that missed it, called after the insert was answered
pub missed_too_late : order_of 4 2 (logged (insert 0 7 (pos 50) added 0 1 ∷ lookup 1 7 missing (pos 0) 2 3 ∷ [])) ≡ None
unfolding judging
missed_too_late = refl

pub added_twice : order_of 4 2 (logged (insert 0 7 (pos 50) added 0 2 ∷ insert 1 7 (pos 60) added 1 3 ∷ [])) ≡ None
unfolding judging
added_twice = refl

-- ---- with b 2, M 0: the insert that was answered crowded comes after both others

pub crowded_last :
    order_of 2 0
    (logged (insert 0 1 (pos 10) crowded 0 3 ∷ insert 1 2 (pos 20) added 1 4 ∷ insert 2 3 (pos 30) added 2 5 ∷ []))
    ≡ Some (1 ∷ 2 ∷ 0 ∷ [])
unfolding judging
crowded_last = refl

-- ---- the first of two: lookups that overlap, both of which find nothing

abbrev two_lookups : Log
two_lookups = logged (lookup 0 7 missing (pos 0) 0 2 ∷ lookup 1 7 missing (pos 0) 1 3 ∷ [])

pub first_of_two : order_of 4 2 two_lookups ≡ Some (0 ∷ 1 ∷ [])
unfolding judging
first_of_two = refl

each_once : (i j : ℕ) → i < 2 → j < 2 → i ≢ j → EachOnce 2 (i ∷ j ∷ [])
each_once i j l k d =
    record {
      distinct = (⊎_elim d (λ m. m), ((λ m. m), tt));
      places = λ x. ⊎_elim (λ e. omega arith) (⊎_elim (λ e. omega arith) (λ m. absurd m));
      all_places = λ x m. by_cases (ℕ_discrete x i) inl (λ e. inr (inl (omega arith)));
    }

-- the other order explains the log too, and is not the first
pub other_explains : Explains 4 2 two_lookups (1 ∷ 0 ∷ [])
unfolding judging
other_explains =
    record {
      once = each_once 1 0 (omega arith) (omega arith) (λ e. omega arith);
      in_time = ((λ j. ⊎_elim (λ e. rw e refl) (λ m. absurd m)), ((λ j m. absurd m), tt));
      answers = ([], (refl, ([], (refl, tt))));
    }

pub other_not_first : First 4 2 two_lookups (1 ∷ 0 ∷ []) → ⊥
unfolding judging
other_not_first x =
    let good : is_log two_lookups ≡ true = refl in
    let e = (all_first 4 2 two_lookups good).first_found (1 ∷ 0 ∷ []) x in
    let z : ◌≡◌ {A = ℕ} 1 0 = cc in
    omega arith
