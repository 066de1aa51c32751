-- Systems for which the statement of demand 3 is proved to fail: one that refuses everything, one that answers an update twice, one
-- that tells no check, one whose refused opening empties the table. Rests on the statement alone; a list of entries tells each of them
-- apart, by computing.
use Prim.Native.Nat.{ℕ, zero, suc, ◌<◌}
use native.Mathlib.Omega.{arith}
use mathlib.Core.Path.{◌≡◌, refl}
use mathlib.Core.Logic.{inl}
use mathlib.Core.Bool.{false}
use mathlib.Core.List.{List, [], ◌∷◌, ◌++◌}
use Rattle.std.specs.Prelude.{Option, Some, None, Ok, Err}
use lib.IntN.{pos}
use lib.ListN.{get_or, replicate}
use Rattle.interface.specs.Numbers.{kind_insert}
use Rattle.interface.specs.declared.Settings.{Settings}
use Rattle.interface.specs.declared.Answer.TheVariants.{Added}
use Rattle.interface.specs.declared.Refusal.{Refusal}
use Rattle.interface.specs.declared.Stepped.{Stepped}
use Rattle.interface.specs.declared.Completion.{Completion}
use Rattle.machine.specs.Computing.{computing}
use Rattle.machine.specs.Sequential.{update, insert}
use Rattle.machine.specs.Records.{Machine, opened}
use Rattle.machine.specs.Steps.{step}
use Rattle.machine.specs.Calls.{settings, call, lists, listing, listing_of}
use Rattle.machine.specs.Systems.{System, Entry, calling, stepping, showing, reopening, machines, opened_by, next, OpensNothing, calls_to}
use Rattle.machine.specs.Systems.{asked, steps_by, ends_by}
use Rattle.machine.specs.History.{idle_reply, call_reply, step_refusal, refusal_in, entry_at, state_at, under_way, updates_made, table_after}
use Rattle.machine.specs.History.{Tariff, first_check, second_check, third_check, fourth_check, is_call, table_at, Linearizable, AlwaysLinearizable}
use Rattle.machine.proofs.laws.Base.{no_both}

-- one worker, buckets of 2, depth 0, and so many words lent
abbrev small : Settings
small = settings 1 2 0

abbrev lent : ℕ
lent = 8_192

-- an insert, and so many steps of its worker
abbrev inserting : ℕ → List Entry
inserting k = calling 0 kind_insert 5 (pos 7) ∷ replicate k (stepping 0)

-- a list whose openings, if it has any, are refused in every state
abbrev OpenNothing : System → List Entry → Type 0
OpenNothing x [] = Unit {0}
OpenNothing x (e ∷ es) = ((m : x.State) → OpensNothing x m e) × OpenNothing x es

opens_nothing : (x : System) (es : List Entry) → OpenNothing x es → (m : x.State) (i : ℕ) → OpensNothing x m (entry_at es i)
unfolding entry_at
opens_nothing x [] h m i = tt
opens_nothing x (e ∷ es) h m zero = h.0 m
opens_nothing x (e ∷ es) h m (suc i) = opens_nothing x es h.1 m i

steps_open_nothing : (x : System) (k : ℕ) (es : List Entry) → OpenNothing x es → OpenNothing x (replicate k (stepping 0) ++ es)
steps_open_nothing x zero es h = h
steps_open_nothing x (suc k) es h = (λ m. tt, steps_open_nothing x k es h)

-- ---- one that refuses everything

abbrev refusing : System
refusing = record {
  State = Machine;
  opening = (machines small lent).opening;
  call = λ m j kind a v. (m, Err Refusal.Busy);
  step = λ m j. (m, Stepped.Refused Refusal.Idle);
  listing = listing;
}

pub refusing_fails : AlwaysLinearizable small refusing opened → ⊥
unfolding computing under_way updates_made call_reply idle_reply entry_at
refusing_fails h =
    let l = h (inserting 0) (λ i. opens_nothing refusing (inserting 0) ((λ m. tt), tt) _ i) in
    let wrong : Err Refusal.Busy ≡ Ok tt = l.calls 0 0 kind_insert 5 (pos 7) (omega arith) refl in
    let z : ◌≡◌ {A = ℕ} 0 1 = cc in omega arith

-- ---- one that answers an update twice

-- the machine, and the answer that its last step gave
abbrev Repeating : Type 0
Repeating = Machine × Option Completion

-- a step after that, refused for want of an operation, is answered once more, as one step later
abbrev repeated : Option Completion → Machine × Stepped → Repeating × Stepped
repeated last (m, Stepped.Moved) = ((m, None), Stepped.Moved)
repeated last (m, Stepped.Answered c) = ((m, Some c), Stepped.Answered c)
repeated None (m, Stepped.Refused r) = ((m, None), Stepped.Refused r)
repeated (Some c) (m, Stepped.Refused r) =
    ((m, None), Stepped.Answered (record { answer = c.answer; steps = suc c.steps; check = c.check }))

abbrev answering_twice : System
answering_twice = record {
  State = Repeating;
  opening = λ x n b M. let r = (machines small lent).opening x.0 n b M in ((r.0, None), r.1);
  call = λ x j kind a v. let r = call small x.0 j kind a v in ((r.0, None), r.1);
  step = λ x j. repeated x.1 (step small x.0 j);
  listing = λ x. listing x.0;
}

-- the insert is answered at its step 13, and again at the next
pub answering_twice_fails : AlwaysLinearizable small answering_twice (opened, None) → ⊥
unfolding computing state_at next entry_at calls_to ends_by under_way step_refusal refusal_in
answering_twice_fails h =
    let es : List Entry = inserting 14 in
    let l = h es (λ i. opens_nothing answering_twice es (λ m. tt, steps_open_nothing answering_twice 14 [] tt)
    (state_at small answering_twice (opened, None) [] es i) i) in
    let wrong : None ≡ Some Refusal.Idle = l.steps 14 0 (omega arith) refl in
    let z : ◌≡◌ {A = ℕ} 0 1 = cc in omega arith

-- ---- one that tells no check

abbrev untold : Machine × Stepped → Machine × Stepped
untold (m, Stepped.Moved) = (m, Stepped.Moved)
untold (m, Stepped.Answered c) = (m, Stepped.Answered (record { answer = c.answer; steps = c.steps; check = 0 }))
untold (m, Stepped.Refused r) = (m, Stepped.Refused r)

abbrev telling_no_check : System
telling_no_check = record {
  State = Machine;
  opening = (machines small lent).opening;
  call = call small;
  step = λ m j. untold (step small m j);
  listing = listing;
}

steps_call_nobody : (x : System) (m : x.State) (k i j : ℕ) → calls_to x m (get_or (replicate k (stepping 0)) i (showing 0 0)) j ≡ false
unfolding calls_to
steps_call_nobody x m zero i j = refl
steps_call_nobody x m (suc k) zero j = refl
steps_call_nobody x m (suc k) (suc i) j = steps_call_nobody x m k i j

no_such_check : (n k : ℕ) → Tariff n 0 k → ⊥
no_such_check n k (first_check e f) = omega arith
no_such_check n k (second_check e f) = omega arith
no_such_check n k (third_check e f) = omega arith
no_such_check n k (fourth_check e f) = omega arith

-- the insert is answered at its step 13, as by check 0
pub telling_no_check_fails : AlwaysLinearizable small telling_no_check opened → ⊥
unfolding computing state_at next entry_at calls_to asked
telling_no_check_fails h =
    let es : List Entry = inserting 13 in
    let l = h es (λ i. opens_nothing telling_no_check es (λ m. tt, steps_open_nothing telling_no_check 13 [] tt) _ i) in
    no_such_check 1 13
    (l.told_steps 0 13 0 (update (insert 5 (pos 7))) (record { answer = Added; steps = 13; check = 0 })
    (record {
      called = record { in_list = omega arith; accepted = refl; operation = refl };
      later = omega arith;
      in_list = omega arith;
      entry = refl;
      answered = refl;
      latest = latest;
    }))
  where
    latest : (k : ℕ) → 0 < k → k < 13 → is_call small telling_no_check opened [] (inserting 13) k 0 ≡ false
    latest zero a b = absurd (omega arith)
    latest (suc k) a b = steps_call_nobody telling_no_check (state_at small telling_no_check opened [] (inserting 13) (suc k)) 13 k 0

-- ---- one whose refused opening empties the table

abbrev emptying : System
emptying = record {
  State = Machine;
  opening = λ m n b M. (opened, ((machines small lent).opening m n b M).1);
  call = call small;
  step = step small;
  listing = listing;
}

-- an insert, answered, and an opening that is refused
abbrev inserted : List Entry
inserted = inserting 13 ++ reopening 9 9 9 ∷ []

-- no operation's moment is at the opening, so that the plain table is the same before and after it; the listing is not
pub emptying_fails : AlwaysLinearizable small emptying opened → ⊥
unfolding computing state_at next opened_by entry_at steps_by table_at table_after
emptying_fails h = go (l.moments 14) refl
  where
    refusal : (m : Machine) → OpensNothing emptying m (reopening 9 9 9)
    refusal m = (Refusal.Settings, refl)

    l : Linearizable small emptying opened [] inserted
    l = h inserted
        (λ i. opens_nothing emptying inserted (λ m. tt, steps_open_nothing emptying 13 (reopening 9 9 9 ∷ []) (refusal, tt)) _ i)

    go : (cs : List ℕ) → l.moments 14 ≡ cs → ⊥
    go (c ∷ cs) e = no_both (l.at_steps 14 c (rw e (inl refl))).1.1 refl
    go [] e =
        let before : lists ((5, pos 7) ∷ []) ≡ listing_of (table_at small inserted [] l.moments 14) 1 1 =
        l.listings 14 1 1 (omega arith) in
        let after : lists [] ≡ listing_of (table_after small inserted (table_at small inserted [] l.moments 14) (l.moments 14)) 1 1 =
        l.listings 15 1 1 (omega arith) in
        let same : lists [] ≡ listing_of (table_at small inserted [] l.moments 14) 1 1 = rw e at after in
        let z : ◌≡◌ {A = ℕ} 0 1 = cc in omega arith
