-- The steps and the check that an operation's end tells, and by which step it comes. Rests on a worker's calls, on the invariant, and on
-- that of a machine with one worker.
use Prim.Native.Nat.{ℕ, zero, suc, ◌+◌, ◌*◌, ◌≤◌, ◌<◌}
use native.Mathlib.Omega.{arith}
use native.Mathlib.Decide.{ℕ_discrete}
use mathlib.Core.Path.{◌≡◌, refl, sym, ap, ◌∙◌, subst}
use mathlib.Core.Logic.{◌⊎◌, inl, inr, by_cases}
use mathlib.Core.Bool.{true}
use mathlib.Core.List.{List}
use Rattle.std.specs.Prelude.{Option, Some, None}
use lib.ListN.{length}
use borrow.Author.Tests.{eq-eqb, eqb-true}
use Rattle.interface.specs.Limits.{in_range}
use Rattle.interface.proofs.Laws.{range_of}
use Rattle.interface.specs.declared.Settings.{Settings}
use Rattle.interface.specs.declared.Answer.{Answer}
use Rattle.interface.specs.declared.Stepped.{Stepped}
use Rattle.interface.specs.declared.Completion.{Completion}
use Rattle.machine.specs.Sequential.{Table, Operation, update, lookup, Update}
use Rattle.machine.specs.Records.{Cells, Machine}
use Rattle.machine.specs.Steps.{directory_reading, lookup_access, access, perform, check_of, step_reply, done, step}
use Rattle.machine.specs.Calls.{opening}
use Rattle.machine.specs.Systems.{machines, Entry, calling, stepping, showing, reopening, OpensNothing, next, moves, steps_by}
use Rattle.machine.specs.History.{Tariff, first_check, second_check, third_check, fourth_check, StepsTold, entry_at, state_at, is_step, OpeningsRefused}
use Rattle.machine.specs.History.{steps_between, IsOperation, Ended}
use Rattle.machine.proofs.laws.Base.{no_both, and_true, and_parts}
use Rattle.machine.proofs.Openings.{opening_refused, step_made}
use Rattle.machine.specs.Counter.{Two, check_s}
use Rattle.machine.specs.Tasks.{Task, tasks_of}
use Rattle.machine.proofs.invariant.Counter.{Proper, counter_proper, counter_check}
use Rattle.machine.proofs.invariant.Transitions.{Transition, finds, answers}
use Rattle.machine.proofs.invariant.StepTransitions.{effect_of, step_transition}
use Rattle.machine.proofs.invariant.Tasks.{Good, call_good, step_good, counter_for, not_over, update_under_way, lookup_under_way}
use Rattle.machine.proofs.invariant.Alone.{Solo, idle_solo, solo_call, solo_step, solo_under_way}
use Rattle.machine.proofs.list.Advance.{answer_in, accepted_step}
use Rattle.machine.proofs.list.WorkerHistory.{last_call, From, OperationStatus, unanswered, answered_at, operation_status, ended_last, count_step, count_le}

-- ---- one step

steps_in : Stepped → ℕ
steps_in Stepped.Moved = 0
steps_in (Stepped.Answered c) = c.steps
steps_in (Stepped.Refused r) = 0

check_in : Stepped → ℕ
check_in Stepped.Moved = 0
check_in (Stepped.Answered c) = c.check
check_in (Stepped.Refused r) = 0

-- an update is answered at a check
at_check :
    {s : Settings} {w : ℕ} {c : Cells} {k : Task} {c' : Cells} {k' : Task} {a : Answer} → Transition s w c k c' k' (Some a) → Proper k.pc
    → (p : Two) × ((x : Two) × (k.pc ≡ check_s p x))
at_check (finds e) h = absurd (subst Proper e h)
at_check (answers p x a e q) h = (p, (x, e))

-- ---- along a list

module _ (s : Settings) (range : in_range s.workers s.capacity s.depth ≡ true) (lent : ℕ) (m : Machine) (t : Table)
    (es : List Entry) (refused : OpeningsRefused s (machines s lent) m t es) (good : Good s m)
    (idle : (j : ℕ) → (m.workers j).operation ≡ None) where
  abbrev at : ℕ → Machine
  at i = state_at s (machines s lent) m t es i

  abbrev entry : ℕ → Entry
  entry i = entry_at es i

  next_good : (x : Machine) (e : Entry) → OpensNothing (machines s lent) x e → Good s x → Good s (next (machines s lent) x e)
  unfolding next
  next_good x (calling j kind a v) h g = call_good s range x j kind a v g
  next_good x (stepping j) h g = step_good s range x j g
  next_good x (showing a b) h g = g
  next_good x (reopening n b M) h g = rw (opening_refused x (opening n b M lent) h.1) g

  pub good-at : (i : ℕ) → Good s (at i)
  unfolding state_at
  good-at zero = good
  good-at (suc i) = next_good (at i) (entry i) (refused i) (good-at i)

  next_solo : s.workers ≡ 1 → (x : Machine) (e : Entry) → OpensNothing (machines s lent) x e → Good s x → Solo s x
      → Solo s (next (machines s lent) x e)
  unfolding next
  next_solo n x (calling j kind a v) h g l = solo_call s range n x j kind a v l
  next_solo n x (stepping j) h g l = solo_step s range n x j l
  next_solo n x (showing a b) h g l = l
  next_solo n x (reopening _ b M) h g l = rw (opening_refused x (opening _ b M lent) h.1) l

  solo_at : s.workers ≡ 1 → (i : ℕ) → Solo s (at i)
  unfolding state_at
  solo_at n zero = idle_solo s range n m good idle
  solo_at n (suc i) = next_solo n (at i) (entry i) (refused i) (good-at i) (solo_at n i)

  -- ---- what the step that ends an operation tells

  module _ (c i j : ℕ) (o : Operation) (r : Completion) (e : Ended s (machines s lent) m t es c i j o r) where
    pub last : (((at i).workers j).operation ≡ Some o) × (last_call s lent m t es i j ≡ c) × From s lent m t es c i j o
    last = ended_last s lent m t es refused idle c i j o r e

    pub known : j < s.workers
    known = (accepted_step s (at i) j (ap moves e.answered)).worker

    -- the answer of the step's effect, the worker's steps, and the check
    record Told : Type 0 where
      answer : (effect_of s (at i) j o).answer ≡ Some r.answer
      steps : r.steps ≡ suc ((at i).workers j).steps
      check : r.check ≡ check_of s ((at i).workers j) o

    told : Told
    unfolding done step_reply steps_in check_in
    told = go (effect_of s (at i) j o).answer refl
        (sym e.answered ∙ ap (λ (x : Machine × Stepped). x.1) (step_made s (at i) j known last.0))
      where
        go : (a : Option Answer) → (effect_of s (at i) j o).answer ≡ a
            → Stepped.Answered r ≡ step_reply (suc ((at i).workers j).steps) (check_of s ((at i).workers j) o) a → Told
        go None q f = absurd (let z : ◌≡◌ {A = ℕ} 0 1 = cc in omega arith)
        go (Some a) q f = record { answer = q ∙ sym (ap answer_in f); steps = ap steps_in f; check = ap check_in f }

    -- the steps are the operation's own
    pub steps_at : r.steps ≡ suc (steps_between s (machines s lent) m t es j c i)
    steps_at = told.steps ∙ ap suc last.2.steps

    ended_step : is_step s (machines s lent) m t es i j ≡ true
    unfolding steps_by
    ended_step = ap (λ (x : Entry). steps_by (machines s lent) (at i) x j) e.entry ∙ and_true (eq-eqb j j refl) (ap moves e.answered)

  -- ---- by which step an operation is answered

  -- a step of worker j at an index, and then
  step_worker : (i j : ℕ) → is_step s (machines s lent) m t es i j ≡ true → j < s.workers
  unfolding steps_by
  step_worker i j = go (entry i)
    where
      go : (e : Entry) → steps_by (machines s lent) (at i) e j ≡ true → j < s.workers
      go (stepping k) h = let z = and_parts _ _ h in rw (← eqb-true k j z.0) (accepted_step s (at i) k z.1).worker
      go (calling k kind a v) h = absurd (no_both h refl)
      go (showing x y) h = absurd (no_both h refl)
      go (reopening n b M) h = absurd (no_both h refl)

  -- an update that makes no more than so many steps without an answer has it with the next
  update_within :
      (most c i j : ℕ) (u : Update) → ((k : ℕ) → ((at k).workers j).operation ≡ Some (update u) → ((at k).workers j).steps ≤ most)
      → IsOperation s (machines s lent) m t es c j (update u) → c < i → i < length es → is_step s (machines s lent) m t es i j ≡ true
      → steps_between s (machines s lent) m t es j c i ≡ most
      → (k : ℕ) × (k ≤ i) × ((r : Completion) × Ended s (machines s lent) m t es c k j (update u) r)
  update_within most c i j u few h l b st n =
      go (operation_status s lent m t es refused idle c j (update u) h (suc i) (omega arith) b)
    where
      go :
          OperationStatus s lent m t es refused idle c (suc i) j (update u) → (k : ℕ) × (k ≤ i)
          × ((r : Completion) × Ended s (machines s lent) m t es c k j (update u) r)
      go (answered_at k r p e q z) = (k, omega arith, (r, e))
      go (unanswered q v) = absurd (omega (arith, few (suc i) q, v.steps, count_step s lent m t es j c i l st))

  pub update_bound :
      (c i j : ℕ) (u : Update) → IsOperation s (machines s lent) m t es c j (update u) → c < i → i < length es
      → is_step s (machines s lent) m t es i j ≡ true
      → steps_between s (machines s lent) m t es j c i ≡ 12 * s.workers + 32
      → (k : ℕ) × (k ≤ i) × ((r : Completion) × Ended s (machines s lent) m t es c k j (update u) r)
  update_bound c i j u h l b st n = update_within (12 * s.workers + 32) c i j u
      (λ k q. let few = update_under_way s range (at k) j u (step_worker i j st) (good-at k) q in omega arith) h l b st n

  pub alone_bound :
      s.workers ≡ 1 → (c i j : ℕ) (u : Update) → IsOperation s (machines s lent) m t es c j (update u) → c < i → i < length es
      → is_step s (machines s lent) m t es i j ≡ true
      → steps_between s (machines s lent) m t es j c i ≡ 22
      → (k : ℕ) × (k ≤ i) × ((r : Completion) × Ended s (machines s lent) m t es c k j (update u) r)
  alone_bound z c i j u h l b st n = update_within 22 c i j u
      (λ k q. let few = solo_under_way s range z (at k) j u (step_worker i j st) (solo_at z k) q in omega arith) h l b st n

  -- a lookup's first step gives no answer
  first_step : (x : Machine) (j a : ℕ) → j < s.workers → (x.workers j).operation ≡ Some (lookup a) → (x.workers j).steps ≡ 0
      → (step s x j).1 ≡ Stepped.Moved
  unfolding done step_reply access lookup_access directory_reading perform
  first_step x j a l e z = ap (λ (r : Machine × Stepped). r.1) (step_made s x j l e) ∙ rw z refl

  pub lookup_bound :
      (c i j a : ℕ) → IsOperation s (machines s lent) m t es c j (lookup a) → c < i → i < length es
      → is_step s (machines s lent) m t es i j ≡ true
      → steps_between s (machines s lent) m t es j c i ≡ 1
      → (r : Completion) × Ended s (machines s lent) m t es c i j (lookup a) r
  lookup_bound c i j a h l b st n = go (operation_status s lent m t es refused idle c j (lookup a) h (suc i) (omega arith) b)
    where
      early : (k : ℕ) (r : Completion) → k < i → Ended s (machines s lent) m t es c k j (lookup a) r → ⊥
      early k r p e =
          let q = ended_last s lent m t es refused idle c k j (lookup a) r e in
          let n' : ((at k).workers j).steps ≡ 0 =
          omega (
            arith,
            q.2.steps,
            count_step s lent m t es j c k e.later (ended_step c k j (lookup a) r e),
            count_le s lent m t es j c (suc k) i p,
          ) in
          let w : Stepped.Moved ≡ Stepped.Answered r = sym (first_step (at k) j a (known c k j (lookup a) r e) q.0 n') ∙ e.answered in
          let y : ◌≡◌ {A = ℕ} 0 1 = cc in omega arith

      same : (k : ℕ) (r : Completion) → Ended s (machines s lent) m t es c k j (lookup a) r → k < suc i → Dec (k ≡ i)
          → (r : Completion) × Ended s (machines s lent) m t es c i j (lookup a) r
      same k r e p (yes q) = (r, subst (λ (x : ℕ). Ended s (machines s lent) m t es c x j (lookup a) r) q e)
      same k r e p (no d) = absurd (early k r (omega arith) e)

      go :
          OperationStatus s lent m t es refused idle c (suc i) j (lookup a)
          → (r : Completion) × Ended s (machines s lent) m t es c i j (lookup a) r
      go (answered_at k r p e q z) = same k r e p (ℕ_discrete k i)
      go (unanswered q v) =
          let few = lookup_under_way s range (at (suc i)) j a (step_worker i j st) (good-at (suc i)) q in
          absurd (omega (arith, few, v.steps, count_step s lent m t es j c i l st))

  -- ---- exactly so many steps, by the check

  module _ (c i j : ℕ) (u : Update) (r : Completion) (e : Ended s (machines s lent) m t es c i j (update u) r) where
    answering : (p : Two) × ((x : Two) × ((tasks_of s (at i) j).pc ≡ check_s p x))
    answering =
        let limits = range_of s.workers s.capacity s.depth range in
        let l = (last c i j (update u) r e).0 in
        at_check
        (subst (Transition s j (at i).cells (tasks_of s (at i) j) _ _) (told c i j (update u) r e).answer
        (step_transition s (at i) j (update u) limits.least-workers l (not_over s (at i) j (known c i j (update u) r e) (good-at i))))
        (subst Proper (sym (counter_for s (at i) j l)) (counter_proper s.workers ((at i).workers j).steps))

    update_tariff : Tariff s.workers r.check r.steps
    unfolding check_of
    update_tariff =
        let k = told c i j (update u) r e in
        let a = answering in
        let z = sym (counter_for s (at i) j (last c i j (update u) r e).0) ∙ a.1.1 in
        rw (k.check, k.steps) (counter_check s.workers ((at i).workers j).steps a.0 a.1.0 z)

    pub alone_told : s.workers ≡ 1 → (r.steps ≡ 13) ⊎ (r.steps ≡ 23)
    alone_told z = by update_tariff
      where
        few : ((at i).workers j).steps < 23
        few = solo_under_way s range z (at i) j u (known c i j (update u) r e) (solo_at z i) (last c i j (update u) r e).0

        by : Tariff s.workers r.check r.steps → (r.steps ≡ 13) ⊎ (r.steps ≡ 23)
        by (first_check _ f) = inl (omega arith)
        by (second_check _ f) = inr (omega arith)
        by (third_check _ f) = absurd (omega (arith, few, (told c i j (update u) r e).steps))
        by (fourth_check _ f) = absurd (omega (arith, few, (told c i j (update u) r e).steps))

  lookup_told : (c i j a : ℕ) (r : Completion) → Ended s (machines s lent) m t es c i j (lookup a) r → (r.check ≡ 0) × (r.steps ≡ 2)
  unfolding check_of
  lookup_told c i j a r e = (
    k.check,
    by_cases (ℕ_discrete ((at i).workers j).steps 0) (λ z. absurd (not_first z)) (λ d. omega (arith, k.steps, few)),
  )
    where
      k : Told c i j (lookup a) r e
      k = told c i j (lookup a) r e

      few : ((at i).workers j).steps < 2
      few = lookup_under_way s range (at i) j a (known c i j (lookup a) r e) (good-at i) (last c i j (lookup a) r e).0

      not_first : ((at i).workers j).steps ≡ 0 → ⊥
      not_first z =
          let w : Stepped.Moved ≡ Stepped.Answered r =
          sym (first_step (at i) j a (known c i j (lookup a) r e) (last c i j (lookup a) r e).0 z) ∙ e.answered in
          let y : ◌≡◌ {A = ℕ} 0 1 = cc in omega arith

  pub steps_told : (c i j : ℕ) (o : Operation) (r : Completion) → Ended s (machines s lent) m t es c i j o r → StepsTold s o r
  steps_told c i j (update u) r e = update_tariff c i j u r e
  steps_told c i j (lookup a) r e = lookup_told c i j a r e
