-- One worker along a list of entries: the call that its operation came from, and its own steps since. Rests on accepted calls and steps.
use Prim.Native.Nat.{ℕ, zero, suc, ◌≤◌, ◌<◌}
use native.Mathlib.Omega.{arith}
use native.Mathlib.Decide.{ℕ_discrete, dec_lt}
use mathlib.Core.Path.{◌≡◌, refl, sym, ap, ◌∙◌, subst}
use mathlib.Core.Logic.{◌≢◌, by_cases}
use mathlib.Core.Bool.{Bool, true, false}
use mathlib.Core.List.{List}
use Rattle.std.specs.Prelude.{Option, Some, None, Result, Ok, Err, ⊤}
use lib.Dec.{ltb, eqb}
use lib.IntN.{ℤ}
use lib.ListN.{length, get_or-eq_default}
use borrow.Author.Tests.{eq-eqb, ne_eqb, lt-ltb, le-ltb}
use Rattle.interface.specs.declared.Settings.{Settings}
use Rattle.interface.specs.declared.Answer.{Answer}
use Rattle.interface.specs.declared.Stepped.{Stepped}
use Rattle.interface.specs.declared.Completion.{Completion}
use Rattle.machine.specs.Choice.{when◌then◌else◌, ◌and◌}
use Rattle.machine.specs.Sequential.{Table, Operation}
use Rattle.machine.specs.Records.{Cells, Worker, Machine}
use Rattle.machine.specs.Steps.{Effect, step, check_of, done, counted, step_reply}
use Rattle.machine.specs.Calls.{opening, call, begun}
use Rattle.machine.specs.Systems.{machines, Entry, calling, stepping, showing, reopening, OpensNothing, next, asked, accepts, moves}
use Rattle.machine.specs.Systems.{calls_to, steps_by}
use Rattle.machine.specs.History.{entry_at, state_at, is_call, is_step, OpeningsRefused, steps_between, IsOperation, Ended}
use Rattle.machine.proofs.laws.Base.{no_both, if_elim, if_true, if_false, and_true, and_left_false, and_right_false, assign_at, assign_other, neither_less, none_some}
use Rattle.machine.proofs.Openings.{opening_refused, call_refused, step_refused}
use Rattle.machine.proofs.invariant.StepTransitions.{effect_of}
use Rattle.machine.proofs.list.Advance.{StepParts, accepted_step, accepted_call, answer_in, answer_to, begun_other}
use Rattle.interface.specs.declared.Refusal.{Refusal}

-- ---- one entry

-- What an entry leaves of worker j, w before it and w' after it.
pub data WorkerChange (s : Settings) (lent : ℕ) (m : Machine) (e : Entry) (j : ℕ) (w' : Worker) : Type 0 where
  -- an accepted call to it
  begins :
      calls_to (machines s lent) m e j ≡ true → (m.workers j).operation ≡ None → w'.operation ≡ asked e → w'.steps ≡ 0
      → answer_to s m e j ≡ None
      → WorkerChange s lent m e j w'
  -- an accepted step of it without an answer
  moves_on :
      calls_to (machines s lent) m e j ≡ false → steps_by (machines s lent) m e j ≡ true → w'.operation ≡ (m.workers j).operation
      → w'.steps ≡ suc (m.workers j).steps
      → answer_to s m e j ≡ None → WorkerChange s lent m e j w'
  -- an accepted step of it that ends its operation
  ends :
      (a : Answer) (o : Operation) → e ≡ stepping j
      → (step s m j).1 ≡ Stepped.Answered (record { answer = a; steps = suc (m.workers j).steps; check = check_of s (m.workers j) o })
      → calls_to (machines s lent) m e j ≡ false → steps_by (machines s lent) m e j ≡ true → w'.operation ≡ None → answer_to s m e j ≡ Some a
      → WorkerChange s lent m e j w'
  -- anything else
  no_change :
      calls_to (machines s lent) m e j ≡ false → steps_by (machines s lent) m e j ≡ false → w' ≡ m.workers j → answer_to s m e j ≡ None
      → WorkerChange s lent m e j w'

-- a step that is made, of worker j: its worker and its reply afterwards
done_worker : (m : Machine) (j c : ℕ) (f : Effect Cells) → (done m j c f).0.workers j ≡ counted (m.workers j) f.reads f.answer
unfolding done
done_worker m j c f = assign_at m.workers j _ j refl

done_other : (m : Machine) (j i c : ℕ) (f : Effect Cells) → i ≢ j → (done m j c f).0.workers i ≡ m.workers i
unfolding done
done_other m j i c f d = assign_other m.workers j _ i d

done_reply : (m : Machine) (j c : ℕ) (f : Effect Cells) → (done m j c f).1 ≡ step_reply (suc (m.workers j).steps) c f.answer
unfolding done
done_reply m j c f = refl

module _ (s : Settings) (lent : ℕ) (m : Machine) (j : ℕ) where
  -- a step of worker j itself
  own_step : moves (step s m j).1 ≡ true → WorkerChange s lent m (stepping j) j ((step s m j).0.workers j)
  unfolding calls_to steps_by counted step_reply
  own_step h = by (effect_of s m j c.operation).answer refl
    where
      c : StepParts s m j
      c = accepted_step s m j h

      given : steps_by (machines s lent) m (stepping j) j ≡ true
      given = and_true (eq-eqb j j refl) h

      after : (a : Option Answer) → (effect_of s m j c.operation).answer ≡ a
          → (step s m j).0.workers j ≡ counted (m.workers j) (effect_of s m j c.operation).reads a
      after a e =
          ap (λ (r : Machine × Stepped). r.0.workers j) c.is ∙ done_worker m j _ _
          ∙ ap (counted (m.workers j) (effect_of s m j c.operation).reads) e

      reply : (a : Option Answer) → (effect_of s m j c.operation).answer ≡ a
          → (step s m j).1 ≡ step_reply (suc (m.workers j).steps) (check_of s (m.workers j) c.operation) a
      reply a e = ap (λ (r : Machine × Stepped). r.1) c.is ∙ done_reply m j _ _ ∙ ap (step_reply (suc (m.workers j).steps) _) e

      by : (a : Option Answer) → (effect_of s m j c.operation).answer ≡ a → WorkerChange s lent m (stepping j) j ((step s m j).0.workers j)
      by None e = moves_on refl given (ap (λ (w : Worker). w.operation) (after None e)) (ap (λ (w : Worker). w.steps) (after None e))
          (if_true _ _ (eq-eqb j j refl) ∙ ap answer_in (reply None e))
      by (Some a) e = ends a c.operation refl (reply (Some a) e) refl given (ap (λ (w : Worker). w.operation) (after (Some a) e))
          (if_true _ _ (eq-eqb j j refl) ∙ ap answer_in (reply (Some a) e))

  -- a step of another worker, or one that is refused
  other_step : (i : ℕ) → j ≢ i → WorkerChange s lent m (stepping i) j ((step s m i).0.workers j)
  unfolding calls_to steps_by
  other_step i d = no_change refl (and_left_false _ (ne_eqb i j (λ e. d (sym e)))) (by (step s m i).1 refl) (if_false _ _ (ne_eqb j i d))
    where
      made : moves (step s m i).1 ≡ true → (step s m i).0.workers j ≡ m.workers j
      made h = ap (λ (r : Machine × Stepped). r.0.workers j) (accepted_step s m i h).is ∙ done_other m i j _ _ d

      by : (r : Stepped) → (step s m i).1 ≡ r → (step s m i).0.workers j ≡ m.workers j
      by Stepped.Moved e = made (ap moves e)
      by (Stepped.Answered a) e = made (ap moves e)
      by (Stepped.Refused r) e = ap (λ (x : Machine). x.workers j) (step_refused s m i e)

  stepping_change : (i : ℕ) → WorkerChange s lent m (stepping i) j ((step s m i).0.workers j)
  unfolding calls_to steps_by
  stepping_change i = by_cases (ℕ_discrete j i)
      (λ e. subst (λ (i : ℕ). WorkerChange s lent m (stepping i) j ((step s m i).0.workers j)) e (by (step s m j).1 refl)) (other_step i)
    where
      by : (r : Stepped) → (step s m j).1 ≡ r → WorkerChange s lent m (stepping j) j ((step s m j).0.workers j)
      by Stepped.Moved e = own_step (ap moves e)
      by (Stepped.Answered a) e = own_step (ap moves e)
      by (Stepped.Refused r) e = no_change refl (ap (λ (x : Bool). eqb j j and x) (ap moves e) ∙ and_right_false _)
          (ap (λ (x : Machine). x.workers j) (step_refused s m j e)) (if_true _ _ (eq-eqb j j refl) ∙ ap answer_in e)

  calling_change : (i kind a : ℕ) (v : ℤ) → WorkerChange s lent m (calling i kind a v) j ((call s m i kind a v).0.workers j)
  unfolding calls_to steps_by asked begun
  calling_change i kind a v = by (call s m i kind a v).1 refl (ℕ_discrete j i)
    where
      untouched : calls_to (machines s lent) m (calling i kind a v) j ≡ false → (call s m i kind a v).0.workers j ≡ m.workers j
          → WorkerChange s lent m (calling i kind a v) j ((call s m i kind a v).0.workers j)
      untouched f e = no_change f refl e refl

      by :
          (r : Result ⊤ Refusal) → (call s m i kind a v).1 ≡ r → Dec (j ≡ i) → WorkerChange s lent m (calling i kind a v) j
          ((call s m i kind a v).0.workers j)
      by (Err r) e d = untouched (ap (λ (x : Result ⊤ Refusal). eqb i j and accepts x) e ∙ and_right_false _)
          (ap (λ (x : Machine). x.workers j) (call_refused s m i kind a v e))
      by (Ok _) e (no d) =
          let c = accepted_call s m i kind a v (ap accepts e) in
          untouched (and_left_false _ (ne_eqb i j (λ x. d (sym x)))) (ap (λ (r : Machine × Result ⊤ Refusal). r.0.workers j) c.is
          ∙ begun_other m i j _ d)
      by (Ok _) e (yes d) =
          let c = accepted_call s m i kind a v (ap accepts e) in
          let w = ap (λ (r : Machine × Result ⊤ Refusal). r.0.workers j) c.is ∙ assign_at m.workers i _ j d in
          begins (and_true (eq-eqb i j (sym d)) (ap accepts e)) (ap (λ (k : ℕ). (m.workers k).operation) d ∙ c.idle)
          (ap (λ (x : Worker). x.operation) w ∙ sym c.asks) (ap (λ (x : Worker). x.steps) w) refl

  pub worker_change : (e : Entry) → OpensNothing (machines s lent) m e → WorkerChange s lent m e j ((next (machines s lent) m e).workers j)
  unfolding next calls_to steps_by
  worker_change (calling i kind a v) h = calling_change i kind a v
  worker_change (stepping i) h = stepping_change i
  worker_change (showing x y) h = no_change refl refl refl refl
  worker_change (reopening n b M) h =
      no_change refl refl (ap (λ (x : Machine). x.workers j) (opening_refused m (opening n b M lent) h.1)) refl

-- ---- a list of entries

module _ (s : Settings) (lent : ℕ) (m : Machine) (t : Table) (es : List Entry) where
  abbrev at : ℕ → Machine
  at i = state_at s (machines s lent) m t es i

  abbrev entry : ℕ → Entry
  entry i = entry_at es i

  abbrev worker : ℕ → ℕ → Worker
  worker i j = (at i).workers j

  -- past the end nothing happens
  pub step_within : (i j : ℕ) → is_step s (machines s lent) m t es i j ≡ true → i < length es
  unfolding steps_by entry_at
  step_within i j h = by_cases (dec_lt i (length es)) (λ l. l)
      (λ l.
      absurd (no_both h
      (ap (λ (e : Entry). steps_by (machines s lent) (at i) e j) (get_or-eq_default es (showing 0 0) (omega arith)))))

  -- the index of worker j's last accepted call before index i
  pub last_call : ℕ → ℕ → ℕ
  last_call zero j = 0
  last_call (suc i) j = when is_call s (machines s lent) m t es i j then i else last_call i j

  pub last_here : (i j : ℕ) → is_call s (machines s lent) m t es i j ≡ true → last_call (suc i) j ≡ i
  unfolding last_call
  last_here i j h = if_true _ _ h

  pub last_before : (i j : ℕ) → is_call s (machines s lent) m t es i j ≡ false → last_call (suc i) j ≡ last_call i j
  unfolding last_call
  last_before i j h = if_false _ _ h

  -- ---- counting a worker's steps

  abbrev count : ℕ → ℕ → ℕ → ℕ
  count j c i = steps_between s (machines s lent) m t es j c i

  pub count_step : (j c i : ℕ) → c < i → is_step s (machines s lent) m t es i j ≡ true → count j c (suc i) ≡ suc (count j c i)
  unfolding steps_between
  count_step j c i l h = if_true _ _ (and_true (lt-ltb c i l) h)

  count_rest : (j c i : ℕ) → is_step s (machines s lent) m t es i j ≡ false → count j c (suc i) ≡ count j c i
  unfolding steps_between
  count_rest j c i h = if_false _ _ (ap (λ (x : Bool). ltb c i and x) h ∙ and_right_false _)

  count_none : (j c i : ℕ) → i ≤ suc c → count j c i ≡ 0
  unfolding steps_between
  count_none j c zero l = refl
  count_none j c (suc i) l = if_false _ _ (and_left_false _ (le-ltb c i (omega arith))) ∙ count_none j c i (omega arith)

  count_up : (j c i : ℕ) → count j c i ≤ count j c (suc i)
  unfolding steps_between
  count_up j c i =
      if_elim (λ (x : ℕ). count j c i ≤ x) (ltb c i and is_step s (machines s lent) m t es i j) _ _ (λ h. omega arith) (λ h. omega arith)

  pub count_le : (j c i k : ℕ) → i ≤ k → count j c i ≤ count j c k
  count_le j c i zero l = omega (arith, count_none j c i (omega arith))
  count_le j c i (suc k) l =
      by_cases (ℕ_discrete i (suc k)) (λ e. rw e (omega arith)) (λ e. omega (arith, count_le j c i k (omega arith), count_up j c k))

  -- ---- the operation under way

  -- worker j's operation o, under way before index i, came from the call at index c
  pub record From (c i j : ℕ) (o : Operation) : Type 0 where
    pub called : IsOperation s (machines s lent) m t es c j o
    pub before : c < i
    pub latest : (k : ℕ) → c < k → k < i → is_call s (machines s lent) m t es k j ≡ false
    pub steps : (worker i j).steps ≡ count j c i

  from_call :
      (i j : ℕ) (o : Operation) → i < length es → is_call s (machines s lent) m t es i j ≡ true → asked (entry i) ≡ Some o
      → (worker (suc i) j).steps ≡ 0
      → From i (suc i) j o
  from_call i j o l c q z = record {
    called = record { in_list = l; accepted = c; operation = q };
    before = omega arith;
    latest = λ k a b. absurd (omega arith);
    steps = z ∙ sym (count_none j i (suc i) (omega arith));
  }

  from_next :
      (c i j : ℕ) (o : Operation) → is_call s (machines s lent) m t es i j ≡ false → (worker (suc i) j).steps ≡ count j c (suc i)
      → From c i j o
      → From c (suc i) j o
  from_next c i j o f q u = record {
    called = u.called;
    before = omega (arith, u.before);
    latest = λ k a b. by_cases (ℕ_discrete k i) (λ x. rw x f) (λ x. u.latest k a (omega arith));
    steps = q;
  }

  module _ (refused : OpeningsRefused s (machines s lent) m t es) (idle : (j : ℕ) → (m.workers j).operation ≡ None) where
    pub at_next : (i j : ℕ) → WorkerChange s lent (at i) (entry i) j (worker (suc i) j)
    unfolding state_at
    at_next i j = worker_change s lent (at i) j (entry i) (refused i)

    -- an operation under way came from its worker's last call
    pub under-way : (i j : ℕ) (o : Operation) → i ≤ length es → (worker i j).operation ≡ Some o → From (last_call i j) i j o
    unfolding state_at
    under-way zero j o l e = absurd (none_some (idle j) e)
    under-way (suc i) j o l e = go (under-way i j o (omega arith)) (at_next i j)
      where
        same :
            is_call s (machines s lent) m t es i j ≡ false → (worker (suc i) j).steps ≡ count j (last_call i j) (suc i)
            → From (last_call i j) i j o
            → From (last_call (suc i) j) (suc i) j o
        same f q u = subst (λ (c : ℕ). From c (suc i) j o) (sym (last_before i j f)) (from_next (last_call i j) i j o f q u)

        go : ((worker i j).operation ≡ Some o → From (last_call i j) i j o) → WorkerChange s lent (at i) (entry i) j (worker (suc i) j)
            → From (last_call (suc i) j) (suc i) j o
        go h (begins c b q z a) =
            subst (λ (c : ℕ). From c (suc i) j o) (sym (last_here i j c)) (from_call i j o (omega arith) c (sym q ∙ e) z)
        go h (moves_on c st q z a) = let u = h (sym q ∙ e) in same c (z ∙ ap suc u.steps ∙ sym (count_step j _ i u.before st)) u
        go h (ends x v a r c st q z) = absurd (none_some q e)
        go h (no_change c st q a) =
            let u = h (ap (λ (w : Worker). w.operation) (sym q) ∙ e) in
            same c (ap (λ (w : Worker). w.steps) q ∙ u.steps ∙ sym (count_rest j _ i st)) u

    -- ---- an operation until it is answered

    -- before index i the operation o of the call at index c is under way, or it has been answered
    pub data OperationStatus (c i j : ℕ) (o : Operation) : Type 0 where
      unanswered : (worker i j).operation ≡ Some o → From c i j o → OperationStatus c i j o
      answered_at :
          (k : ℕ) (r : Completion) → k < i → Ended s (machines s lent) m t es c k j o r → r.steps ≡ suc (count j c k)
          → (worker (suc k) j).operation ≡ None
          → OperationStatus c i j o

    operation_status_here : (c j : ℕ) (o : Operation) → IsOperation s (machines s lent) m t es c j o → OperationStatus c (suc c) j o
    operation_status_here c j o h = go (at_next c j)
      where
        go : WorkerChange s lent (at c) (entry c) j (worker (suc c) j) → OperationStatus c (suc c) j o
        go (begins f b q z a) = unanswered (q ∙ h.operation) (from_call c j o h.in_list h.accepted h.operation z)
        go (moves_on f st q z a) = absurd (no_both h.accepted f)
        go (ends x v a r f st q z) = absurd (no_both h.accepted f)
        go (no_change f st q a) = absurd (no_both h.accepted f)

    operation_status_next : (c i j : ℕ) (o : Operation) → i < length es → OperationStatus c i j o → OperationStatus c (suc i) j o
    operation_status_next c i j o l (answered_at k r b e q z) = answered_at k r (omega arith) e q z
    operation_status_next c i j o l (unanswered e u) = go (at_next i j)
      where
        go : WorkerChange s lent (at i) (entry i) j (worker (suc i) j) → OperationStatus c (suc i) j o
        go (begins f b q z a) = absurd (none_some b e)
        go (moves_on f st q z a) =
            unanswered (q ∙ e) (from_next c i j o f (z ∙ ap suc u.steps ∙ sym (count_step j c i u.before st)) u)
        go (no_change f st q a) = unanswered (ap (λ (w : Worker). w.operation) q ∙ e)
            (from_next c i j o f (ap (λ (w : Worker). w.steps) q ∙ u.steps ∙ sym (count_rest j c i st)) u)
        go (ends a v x r f st q z) =
            answered_at i (record { answer = a; steps = suc (worker i j).steps; check = check_of s (worker i j) v }) (omega arith)
            (record { called = u.called; later = u.before; in_list = l; entry = x; answered = r; latest = u.latest })
            (ap suc u.steps) q

    pub operation_status :
        (c j : ℕ) (o : Operation) → IsOperation s (machines s lent) m t es c j o → (i : ℕ) → c < i → i ≤ length es → OperationStatus c i j o
    operation_status c j o h zero l b = absurd (omega arith)
    operation_status c j o h (suc i) l b = by_cases (ℕ_discrete c i)
        (λ e. subst (λ (k : ℕ). OperationStatus c (suc k) j o) e (operation_status_here c j o h))
        (λ d. operation_status_next c i j o (omega arith) (operation_status c j o h i (omega arith) (omega arith)))

    -- a worker without operation stays so until it is called
    pub stays_idle :
        (k i j : ℕ) → k ≤ i → (worker k j).operation ≡ None
        → ((p : ℕ) → k ≤ p → p < i → is_call s (machines s lent) m t es p j ≡ false)
        → (worker i j).operation ≡ None
    stays_idle k zero j l e h = subst (λ (p : ℕ). (worker p j).operation ≡ None) (omega arith) e
    stays_idle k (suc i) j l e h = by_cases (ℕ_discrete k (suc i)) (λ x. subst (λ (p : ℕ). (worker p j).operation ≡ None) x e)
        (λ d. next_idle (h i (omega arith) (omega arith)) (stays_idle k i j (omega arith) e (λ p a b. h p a (omega arith))) (at_next i j))
      where
        next_idle :
            is_call s (machines s lent) m t es i j ≡ false → (worker i j).operation ≡ None
            → WorkerChange s lent (at i) (entry i) j (worker (suc i) j)
            → (worker (suc i) j).operation ≡ None
        next_idle f q (begins c b x z a) = absurd (no_both c f)
        next_idle f q (moves_on c st x z a) = x ∙ q
        next_idle f q (ends a v x r c st z y) = z
        next_idle f q (no_change c st x a) = ap (λ (w : Worker). w.operation) x ∙ q

    -- the two calls that an operation under way came from are one
    from_one : (c d i j : ℕ) (o p : Operation) → From c i j o → From d i j p → c ≡ d
    from_one c d i j o p u v = neither_less c d
        (λ l. no_both v.called.accepted (u.latest d l v.before)) (λ l. no_both u.called.accepted (v.latest c l u.before))

    -- what ended at index i was its worker's operation under way, from its last call
    pub ended_last : (c i j : ℕ) (o : Operation) (r : Completion) → Ended s (machines s lent) m t es c i j o r
        → ((worker i j).operation ≡ Some o) × (last_call i j ≡ c) × From c i j o
    ended_last c i j o r e = go (operation_status c j o e.called i e.later (omega (arith, e.in_list)))
      where
        accepted : StepParts s (at i) j
        accepted = accepted_step s (at i) j (ap moves e.answered)

        go : OperationStatus c i j o → ((worker i j).operation ≡ Some o) × (last_call i j ≡ c) × From c i j o
        go (unanswered q u) = (q, from_one (last_call i j) c i j o o (under-way i j o (omega (arith, e.in_list)) q) u, u)
        go (answered_at k x b f q z) =
            absurd (none_some (stays_idle (suc k) i j b z (λ p l h. e.latest p (omega (arith, f.later)) h)) accepted.under-way)
