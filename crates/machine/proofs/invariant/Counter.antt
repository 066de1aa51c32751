-- The program counter of an update: the steps of specs/Plan, each with its pass and its round; what comes after what, and at which
-- position. Rests on specs/Plan, and on Base for the laws of tests.
use Prim.Native.Nat.{ℕ, zero, suc, ◌+◌, ◌*◌, ◌≤◌, ◌<◌, min}
use native.Mathlib.Nat.{zero-add}
use native.Mathlib.Omega.{arith}
use mathlib.Core.Path.{◌≡◌, refl, sym, ap, ◌∙◌}
use mathlib.Core.List.{List, [], ◌∷◌, ◌++◌}
use lib.Dec.{ltb}
use lib.ListN.{length, get_or, get_or-append, get_or-eq_default}
use lib.Seq.{get_or-append-add, get_or_at}
use borrow.Author.Tests.{lt-ltb, le-ltb}
use Rattle.machine.specs.Choice.{when◌then◌else◌}
use Rattle.machine.specs.Plan.{Phase, read_directory, flip_toggle, read_state, read_toggle, swap_state, check_state, copy_directory, swap_directory, read_slot, resize_for, each, bucket_round, bucket_pass, check, directory_round, directory_pass, pass, plan, phase, check_number}
use Rattle.machine.proofs.laws.Base.{if_true, if_false}
use Rattle.machine.specs.History.{Tariff, first_check, second_check, third_check, fourth_check}
use Rattle.machine.proofs.laws.PlanParts.{length_pass}
use Rattle.machine.proofs.laws.PlanChecks.{from_first, from_second, from_third, from_fourth}
use Rattle.machine.specs.Counter.{Two, one, two, BStep, read_s, read_t, swap, slot_b, DStep, copy_d, swap_d, slot_d, state, PC, idle, announce, look₁, look₂, over, read_d, flip, check_d, check_s, in_b, in_d, in_pass, each_counter, bucket_counters, check_counters, directory_counters, pass_counters, counters, counter}

abbrev pub phase_of : PC → Phase
phase_of idle = check_state
phase_of announce = Phase.announce
phase_of look₁ = check_state
phase_of look₂ = check_state
phase_of over = check_state
phase_of (read_d p) = read_directory
phase_of (flip p) = flip_toggle
phase_of (in_b p r read_s) = read_state
phase_of (in_b p r read_t) = read_toggle
phase_of (in_b p r (slot_b i)) = read_slot i
phase_of (in_b p r swap) = swap_state
phase_of (check_d p c) = read_directory
phase_of (check_s p c) = check_state
phase_of (in_d p r copy_d) = copy_directory
phase_of (in_d p r (slot_d i)) = read_slot i
phase_of (in_d p r (state i)) = resize_for i
phase_of (in_d p r swap_d) = swap_directory

-- the step after a round, and after a check that gives no answer
abbrev pub after_b : Two → Two → PC
after_b p one = in_b p two read_s
after_b p two = check_d p one

abbrev pub after_d : Two → Two → PC
after_d p one = in_d p two copy_d
after_d p two = check_d p two

abbrev pub after_c : Two → Two → PC
after_c p one = in_d p one copy_d
after_c one two = read_d two
after_c two two = over

-- the step after, for n workers
abbrev pub after_step : ℕ → PC → PC
after_step n idle = idle
after_step n announce = read_d one
after_step n look₁ = look₂
after_step n look₂ = idle
after_step n over = over
after_step n (read_d p) = flip p
after_step n (flip p) = in_b p one read_s
after_step n (in_b p r read_s) = in_b p r read_t
after_step n (in_b p r read_t) = in_b p r (slot_b 0)
after_step n (in_b p r (slot_b i)) = when ltb (suc i) n then in_b p r (slot_b (suc i)) else in_b p r swap
after_step n (in_b p r swap) = after_b p r
after_step n (check_d p c) = check_s p c
after_step n (check_s p c) = after_c p c
after_step n (in_d p r copy_d) = in_d p r (slot_d 0)
after_step n (in_d p r (slot_d i)) = when ltb (suc i) n then in_d p r (slot_d (suc i)) else in_d p r (state 0)
after_step n (in_d p r (state i)) = when ltb (suc i) n then in_d p r (state (suc i)) else in_d p r swap_d
after_step n (in_d p r swap_d) = after_d p r

-- ---- what is said of a step by its counter

-- the update is announced and not yet answered
abbrev pub UnderWay : PC → Type 0
UnderWay = in_pass ⊥ (λ p. Unit {0}) (λ p c. Unit {0}) (λ p r x. Unit {0}) (λ p r x. Unit {0})

-- by cases: idle, announce, the two steps of a lookup, past the plan, or in a pass
abbrev pub by_counter {ℓ} : (P : PC → Type ℓ) → P idle → P announce → P look₁ → P look₂ → P over → ((pc : PC) → UnderWay pc → P pc)
    → (pc : PC) → P pc
by_counter P i a l m o u idle = i
by_counter P i a l m o u announce = a
by_counter P i a l m o u look₁ = l
by_counter P i a l m o u look₂ = m
by_counter P i a l m o u over = o
by_counter P i a l m o u (read_d p) = u (read_d p) tt
by_counter P i a l m o u (flip p) = u (flip p) tt
by_counter P i a l m o u (check_d p x) = u (check_d p x) tt
by_counter P i a l m o u (check_s p x) = u (check_s p x) tt
by_counter P i a l m o u (in_b p r x) = u (in_b p r x) tt
by_counter P i a l m o u (in_d p r x) = u (in_d p r x) tt

-- a step of an update
abbrev pub Proper : PC → Type 0
Proper = by_counter (λ x. Type 0) ⊥ (Unit {0}) ⊥ ⊥ (Unit {0}) (λ x u. Unit {0})

-- a step of a round for a worker is for one of n
abbrev InRangeB : ℕ → BStep → Type 0
InRangeB n read_s = Unit {0}
InRangeB n read_t = Unit {0}
InRangeB n swap = Unit {0}
InRangeB n (slot_b i) = i < n

abbrev InRangeD : ℕ → DStep → Type 0
InRangeD n copy_d = Unit {0}
InRangeD n swap_d = Unit {0}
InRangeD n (slot_d i) = i < n
InRangeD n (state i) = i < n

abbrev pub StepInRange : ℕ → PC → Type 0
StepInRange n = in_pass (Unit {0}) (λ p. Unit {0}) (λ p c. Unit {0}) (λ p r. InRangeB n) (λ p r. InRangeD n)

-- ---- the plan

-- k in the second of two
abbrev second : Two → ℕ → ℕ
second one k = 0
second two k = k

-- how many steps of the plan come before this one
abbrev position : ℕ → PC → ℕ
position n idle = 0
position n announce = 0
position n look₁ = 0
position n look₂ = 0
position n over = 12 * n + 33
position n (read_d p) = second p (6 * n + 16) + 1
position n (flip p) = second p (6 * n + 16) + 2
position n (in_b p r read_s) = second p (6 * n + 16) + second r (n + 3) + 3
position n (in_b p r read_t) = second p (6 * n + 16) + second r (n + 3) + 4
position n (in_b p r (slot_b i)) = second p (6 * n + 16) + second r (n + 3) + 5 + i
position n (in_b p r swap) = second p (6 * n + 16) + second r (n + 3) + 5 + n
position n (check_d p c) = second p (6 * n + 16) + second c (4 * n + 6) + 2 * n + 9
position n (check_s p c) = second p (6 * n + 16) + second c (4 * n + 6) + 2 * n + 10
position n (in_d p r copy_d) = second p (6 * n + 16) + second r (2 * n + 2) + 2 * n + 11
position n (in_d p r (slot_d i)) = second p (6 * n + 16) + second r (2 * n + 2) + 2 * n + 12 + i
position n (in_d p r (state i)) = second p (6 * n + 16) + second r (2 * n + 2) + 3 * n + 12 + i
position n (in_d p r swap_d) = second p (6 * n + 16) + second r (2 * n + 2) + 4 * n + 12

-- ---- each step follows the one before

module _ (n : ℕ) where
  abbrev Here : PC → Type 0
  Here x = StepInRange n x × Proper x

  -- y is next to x in the plan; with no worker the loops are empty, and it need not be the step after x
  record NextStep (x y : PC) : Type 0 where
    at_position : position n y ≡ suc (position n x)
    next : 1 ≤ n → y ≡ after_step n x

  next_step : (x : PC) → position n (after_step n x) ≡ suc (position n x) → NextStep x (after_step n x)
  next_step x e = record { at_position = e; next = λ h. refl }

  -- the steps of the list follow x one by one, and z is the last; beside them, their phases
  data Sequence : PC → List PC → List Phase → PC → Type 0 where
    stop : {x : PC} → Sequence x [] [] x
    go : {x y z : PC} {l : List PC} {q : List Phase} → Here y → NextStep x y → Sequence y l q z → Sequence x (y ∷ l) (phase_of y ∷ q) z

  infixl 65 ◌⨾◌
  ◌⨾◌ : {x y z : PC} {l m : List PC} {q s : List Phase} → Sequence x l q y → Sequence y m s z → Sequence x (l ++ m) (q ++ s) z
  ◌⨾◌ stop t = t
  ◌⨾◌ (go h s r) t = go h s (r ⨾ t)

  -- a step for each worker, and then y
  record Loop (f : ℕ → PC) (y : PC) : Type 0 where
    here : (i : ℕ) → i < n → Here (f i)
    at_position : (i : ℕ) → position n (f i) ≡ position n (f 0) + i
    next : (i : ℕ) → after_step n (f i) ≡ when ltb (suc i) n then f (suc i) else y
    past : position n y ≡ position n (f 0) + n

  -- the step before step i of a loop that x leads to
  abbrev before : PC → (ℕ → PC) → ℕ → PC
  before x f zero = x
  before x f (suc i) = f i

  module _ {x y : PC} {f : ℕ → PC} (loop : Loop f y) (start : NextStep x (f 0)) where
    loop_inner : (i : ℕ) → i < n → NextStep (before x f i) (f i)
    loop_inner zero h = start
    loop_inner (suc i) h =
        record {
          at_position = omega (arith, loop.at_position i, loop.at_position (suc i));
          next = λ q. sym (loop.next i ∙ if_true _ _ (lt-ltb (suc i) n h));
        }

    loop_run : (m : ℕ) → m ≤ n → Sequence x (each_counter f m) (each (λ i. phase_of (f i)) m) (before x f m)
    unfolding each_counter each
    loop_run zero h = stop
    loop_run (suc m) h = loop_run m (omega arith) ⨾ go (loop.here m h) (loop_inner m h) stop

    loop_past : (m : ℕ) → m ≡ n → NextStep (before x f m) y
    loop_past zero e = record { at_position = omega arith; next = λ q. absurd (omega arith) }
    loop_past (suc m) e =
        record {
          at_position = omega (arith, loop.at_position m);
          next =
              λ q. sym (loop.next m ∙ if_false _ _ (le-ltb (suc m) n (omega arith)));
        }

  bucket_run : (p r : Two) {x : PC} → NextStep x (in_b p r read_s) → Sequence x (bucket_counters n p r) (bucket_round n) (in_b p r swap)
  unfolding bucket_counters bucket_round
  bucket_run p r s =
      go (tt, tt) s (go (tt, tt) (next_step (in_b p r read_s) (omega arith)) (loop_run slots start n (omega arith)))
      ⨾ go (tt, tt) (loop_past slots start n refl) stop
    where
      slots : Loop (λ i. in_b p r (slot_b i)) (in_b p r swap)
      slots = record { here = λ i h. (h, tt); at_position = λ i. omega arith; next = λ i. refl; past = omega arith }

      start : NextStep (in_b p r read_t) (in_b p r (slot_b 0))
      start = next_step (in_b p r read_t) (omega arith)

  check_run : (p c : Two) {x : PC} → NextStep x (check_d p c) → Sequence x (check_counters p c) check (check_s p c)
  unfolding check_counters check
  check_run p c s = go (tt, tt) s (go (tt, tt) (next_step (check_d p c) (omega arith)) stop)

  directory_run :
      (p r : Two) {x : PC} → NextStep x (in_d p r copy_d) → Sequence x (directory_counters n p r) (directory_round n) (in_d p r swap_d)
  unfolding directory_counters directory_round
  directory_run p r s =
      go (tt, tt) s (loop_run slots start n (omega arith)) ⨾ loop_run states between n (omega arith)
      ⨾ go (tt, tt) (loop_past states between n refl) stop
    where
      slots : Loop (λ i. in_d p r (slot_d i)) (in_d p r (state 0))
      slots = record { here = λ i h. (h, tt); at_position = λ i. omega arith; next = λ i. refl; past = omega arith }

      states : Loop (λ i. in_d p r (state i)) (in_d p r swap_d)
      states = record { here = λ i h. (h, tt); at_position = λ i. omega arith; next = λ i. refl; past = omega arith }

      start : NextStep (in_d p r copy_d) (in_d p r (slot_d 0))
      start = next_step (in_d p r copy_d) (omega arith)

      between : NextStep (before (in_d p r copy_d) (λ i. in_d p r (slot_d i)) n) (in_d p r (state 0))
      between = loop_past slots start n refl

  pass_run : (p : Two) {x : PC} → NextStep x (read_d p) → Sequence x (pass_counters n p) (pass n) (check_s p two)
  unfolding pass_counters pass bucket_pass directory_pass
  pass_run p s =
      go (tt, tt) s (go (tt, tt) (next_step (read_d p) (omega arith)) (bucket_run p one (next_step (flip p) (omega arith))))
      ⨾ bucket_run p two (next_step (in_b p one swap) (omega arith))
      ⨾ check_run p one (next_step (in_b p two swap) (omega arith))
      ⨾ (directory_run p one (next_step (check_s p one) (omega arith)) ⨾ directory_run p two (next_step (in_d p one swap_d) (omega arith)))
      ⨾ check_run p two (next_step (in_d p two swap_d) (omega arith))

  plan_run : Sequence announce (pass_counters n one ++ pass_counters n two) (pass n ++ pass n) (check_s two two)
  plan_run = pass_run one (next_step announce (omega arith)) ⨾ pass_run two (next_step (check_s one two) (omega arith))

  -- the step at position i of the plan: x, before y
  record PlanStep (i : ℕ) (f : Phase) (x y : PC) : Type 0 where
    phased : f ≡ phase_of x
    here : Here x
    next : 1 ≤ n → y ≡ after_step n x
    at_position : position n x ≡ i

  -- a run to the plan's end
  run_at : {x : PC} {l : List PC} {q : List Phase} → Sequence x l q (check_s two two) → Here x → (k : ℕ) →
      PlanStep (position n x + min k (suc (length l))) (get_or (phase_of x ∷ q) k check_state) (get_or (x ∷ l) k over) (get_or l k over)
  run_at stop h zero = record { phased = refl; here = h; next = λ q. refl; at_position = omega arith }
  run_at stop h (suc k) = record { phased = refl; here = (tt, tt); next = λ q. refl; at_position = omega arith }
  run_at (go g s r) h zero = record { phased = refl; here = h; next = s.next; at_position = omega arith }
  run_at (go g s r) h (suc k) =
      let t = run_at r g k in record { phased = t.phased; here = t.here; next = t.next; at_position = omega arith }

  run_length :
      {x z : PC} {l : List PC} {q : List Phase} → Sequence x l q z → (position n x + length l ≡ position n z) × (length q ≡ length l)
  run_length stop = omega arith
  run_length (go g s r) = omega (arith, run_length r)

-- ---- the counter

counters_length : (n : ℕ) → length (counters n) ≡ 12 * n + 33
unfolding counters
counters_length n = omega (arith, run_length n (plan_run n))

pub plan_length : (n : ℕ) → length (plan n) ≡ 12 * n + 33
unfolding plan
plan_length n = omega (arith, run_length n (plan_run n))

counter_at : (n k : ℕ) → PlanStep n (min k (12 * n + 33)) (phase n k) (counter n k) (counter n (suc k))
unfolding phase plan counter counters
counter_at n k = rw (sym (counters_length n)) (rw zero-add at (run_at n (plan_run n) (tt, tt) k))

pub counter_phase : (n k : ℕ) → phase n k ≡ phase_of (counter n k)
counter_phase n k = (counter_at n k).phased

pub counter_start : (n : ℕ) → counter n 0 ≡ announce
unfolding counter counters
counter_start n = refl

pub counter_after : (n k : ℕ) → 1 ≤ n → counter n (suc k) ≡ after_step n (counter n k)
counter_after n k h = (counter_at n k).next h

pub counter_in_range : (n k : ℕ) → StepInRange n (counter n k)
counter_in_range n k = (counter_at n k).here.0

pub counter_proper : (n k : ℕ) → Proper (counter n k)
counter_proper n k = (counter_at n k).here.1

pub counter_end : (n k : ℕ) → 12 * n + 33 ≤ k → counter n k ≡ over
unfolding counter
counter_end n k h = get_or-eq_default (counters n) over (omega (arith, counters_length n))

-- a check's number in the plan, and the own steps of an update that it answers
pub counter_check : (n k : ℕ) (p c : Two) → counter n k ≡ check_s p c → Tariff n (check_number n k) (suc k)
counter_check n k p c e = by p c (counter_at n k).at_position (ap (position n) e)
  where
    by : (p c : Two) → position n (counter n k) ≡ min k (12 * n + 33) → position n (counter n k) ≡ position n (check_s p c)
        → Tariff n (check_number n k) (suc k)
    by one one g h = first_check (from_first n k (omega arith) (omega arith)) (omega arith)
    by one two g h = second_check (from_second n k (omega arith) (omega arith)) (omega arith)
    by two one g h = third_check (from_third n k (omega arith) (omega arith)) (omega arith)
    by two two g h = fourth_check (from_fourth n k (omega arith)) (omega arith)

-- ---- the second pass is the first again

length_counters : (n : ℕ) → length (pass_counters n one) ≡ 6 * n + 16
length_counters n = omega (arith, run_length n (pass_run n one (next_step n announce (omega arith))))

pub phase_again : (n k : ℕ) → k < 6 * n + 16 → phase n (suc (6 * n + 16 + k)) ≡ phase n (suc k)
unfolding phase plan
phase_again n k l =
    ap (λ i. get_or (pass n ++ pass n) (i + k) check_state) (sym (length_pass n))
    ∙ get_or-append-add (pass n) (pass n) k check_state
    ∙ sym (get_or-append (pass n) (pass n) check_state k (omega (arith, length_pass n)))

pub counter_second : (n k : ℕ) → k ≡ 6 * n + 16 → counter n (suc k) ≡ read_d two
unfolding counter counters pass_counters
counter_second n k e = get_or_at (pass_counters n one) (read_d two) _ over k (length_counters n ∙ sym e)
