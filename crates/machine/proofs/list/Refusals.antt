-- What a list says of refusals: a worker is busy, and has made so many updates, exactly as the machine keeps it, so that each call and
-- each step is refused for its reason alone; and an operation ends once. Rests on one worker along a list.
use Prim.Native.Nat.{ℕ, zero, suc, ◌<◌}
use native.Mathlib.Omega.{arith}
use native.Mathlib.Decide.{ℕ_discrete, dec_lt}
use mathlib.Core.Path.{◌≡◌, refl, sym, ap, ◌∙◌}
use mathlib.Core.Logic.{by_cases}
use mathlib.Core.Bool.{Bool, true, false}
use mathlib.Core.List.{List}
use Rattle.std.specs.Prelude.{Option, Some, None, Result, Ok, Err, ⊤}
use lib.Dec.{leb, ltb, eqb}
use lib.IntN.{ℤ}
use borrow.Author.Tests.{eq-eqb, ne_eqb, le-leb, lt-leb}
use Rattle.interface.specs.Limits.{greatest_ticket}
use Rattle.interface.specs.declared.Settings.{Settings}
use Rattle.interface.specs.declared.Answer.{Answer}
use Rattle.interface.specs.declared.Stepped.{Stepped}
use Rattle.interface.specs.declared.Completion.{Completion}
use Rattle.machine.specs.Choice.{when◌then◌else◌, ◌and◌}
use Rattle.machine.specs.Sequential.{Table, Operation, update, lookup}
use Rattle.machine.specs.Records.{Reads, Worker, Machine}
use Rattle.machine.specs.Steps.{access, perform, counted, check_of, step_reply, done, step_of, step}
use Rattle.machine.specs.Calls.{opening, operation_of, spent, ticket_for, begun, call_of, call}
use Rattle.machine.specs.Systems.{machines, Entry, calling, stepping, showing, reopening, OpensNothing, next, asked, accepts}
use Rattle.machine.specs.Systems.{is_answer, calls_to, ends_by, is_update}
use Rattle.machine.specs.History.{idle_reply, call_reply, step_refusal, refusal_in, entry_at, state_at, is_call, is_end, OpeningsRefused}
use Rattle.machine.specs.History.{under_way, updates_made, Ended}
use Rattle.machine.proofs.laws.Base.{no_both, none_some, if_elim, if_true, if_false, if_ap, and_true, and_parts, and_left_false, and_right_false, assign_at, assign_elim, neither_less}
use Rattle.machine.proofs.Openings.{opening_refused, call_stranger, call_busy, idle_call, call_refused, step_stranger, step_idle, step_made}
use Rattle.machine.proofs.list.Advance.{accepted_call, answer_in, answer_to, begun_other}
use Rattle.machine.proofs.list.WorkerHistory.{WorkerChange, begins, moves_on, ends, no_change, at_next, stays_idle, ended_last}
use Rattle.interface.specs.declared.Refusal.{Refusal}

-- ---- replies, by what the machine keeps of the worker

abbrev busy : Option Operation → Bool
busy None = false
busy (Some o) = true

module _ (s : Settings) (m : Machine) (j : ℕ) where
  call-reply :
      (kind a : ℕ) (v : ℤ)
      → (call s m j kind a v).1 ≡ call_reply s j (busy (m.workers j).operation) (m.workers j).last (operation_of kind a v)
  unfolding call_reply idle_reply call_of spent when◌then◌else◌
  call-reply kind a v = by_cases (dec_lt j s.workers) (λ l. by l (m.workers j).operation refl)
      (λ l. rw (call_stranger s m j kind a v (omega arith), le-leb s.workers j (omega arith)) refl)
    where
      free : (o : Option Operation) → (call_of m j None o).1 ≡ idle_reply (m.workers j).last o
      free None = refl
      free (Some (lookup a)) = refl
      free (Some (update u)) = if_ap (λ (x : Machine × Result ⊤ Refusal). x.1) (leb greatest_ticket (m.workers j).last) _ _

      by : j < s.workers → (o : Option Operation) → (m.workers j).operation ≡ o
          → (call s m j kind a v).1 ≡ call_reply s j (busy (m.workers j).operation) (m.workers j).last (operation_of kind a v)
      by l (Some o) e = rw (call_busy s m j kind a v l e, e, lt-leb s.workers j l) refl
      by l None e = rw (idle_call s m j kind a v l e refl, e, lt-leb s.workers j l) (free (operation_of kind a v))

  step-reply : refusal_in (step s m j).1 ≡ step_refusal s j (busy (m.workers j).operation)
  unfolding step_refusal refusal_in step_reply done when◌then◌else◌
  step-reply = by_cases (dec_lt j s.workers) (λ l. by l (m.workers j).operation refl)
      (λ l. rw (step_stranger s m j (omega arith), le-leb s.workers j (omega arith)) refl)
    where
      made : (k c : ℕ) (a : Option Answer) → refusal_in (step_reply k c a) ≡ None
      made k c None = refl
      made k c (Some a) = refl

      by : j < s.workers → (o : Option Operation) → (m.workers j).operation ≡ o
          → refusal_in (step s m j).1 ≡ step_refusal s j (busy (m.workers j).operation)
      by l None e = rw (step_idle s m j l e, e, lt-leb s.workers j l) refl
      by l (Some o) e =
          let none_given : step_refusal s j (busy (m.workers j).operation) ≡ None = rw (e, lt-leb s.workers j l) refl in
          ap (λ (r : Machine × Stepped). refusal_in r.1) (step_made s m j l e)
          ∙ made (suc (m.workers j).steps) (check_of s (m.workers j) o) (perform (access s j (m.workers j) o) m.cells).answer
          ∙ sym none_given

-- ---- one entry

-- whether an entry answers worker j is whether it gives it an answer
module _ (s : Settings) (lent : ℕ) (m : Machine) (j : ℕ) where
  ends_none : (e : Entry) → answer_to s m e j ≡ None → ends_by (machines s lent) m e j ≡ false
  unfolding ends_by
  ends_none (calling i kind a v) h = refl
  ends_none (showing x y) h = refl
  ends_none (reopening n b M) h = refl
  ends_none (stepping i) h = by_cases (ℕ_discrete j i)
      (λ e. ap (λ (x : Bool). eqb i j and x) (by (step s m i).1 (sym (if_true _ _ (eq-eqb j i e)) ∙ h)) ∙ and_right_false _)
      (λ d. and_left_false _ (ne_eqb i j (λ e. d (sym e))))
    where
      by : (r : Stepped) → answer_in r ≡ None → is_answer r ≡ false
      by Stepped.Moved e = refl
      by (Stepped.Answered c) e = absurd (none_some e refl)
      by (Stepped.Refused r) e = refl

  ends_some : {c : Completion} (e : Entry) → e ≡ stepping j → (step s m j).1 ≡ Stepped.Answered c → ends_by (machines s lent) m e j ≡ true
  unfolding ends_by
  ends_some e q h = rw q (and_true (eq-eqb j j refl) (ap is_answer h))

  -- ---- tickets

  counted_last : (w : Worker) (r : Reads) (a : Option Answer) → (counted w r a).last ≡ w.last
  unfolding counted
  counted_last w r None = refl
  counted_last w r (Some a) = refl

  -- a step takes no ticket
  step_last : (i : ℕ) → ((step s m i).0.workers j).last ≡ (m.workers j).last
  unfolding step step_of done
  step_last i = if_elim Kept (ltb i s.workers) _ _ (λ l. by (m.workers i).operation) (λ l. refl)
    where
      Kept : Machine × Stepped → Type 0
      Kept x = (x.0.workers j).last ≡ (m.workers j).last

      by : (o : Option Operation) → Kept (step_of s m i o)
      by None = refl
      by (Some o) = assign_elim (λ (w : Worker). w.last ≡ (m.workers j).last) m.workers i _ j
          (λ e. counted_last _ _ _ ∙ ap (λ (k : ℕ). (m.workers k).last) (sym e)) (λ d. refl)

  -- an accepted update takes one
  abbrev takes : Entry → Bool
  takes e = calls_to (machines s lent) m e j and is_update (asked e)

  TicketAfter : Entry → Machine → Type 0
  TicketAfter e m' = (m'.workers j).last ≡ (when takes e then suc (m.workers j).last else (m.workers j).last)

  untouched :
      (e : Entry) (m' : Machine) → calls_to (machines s lent) m e j ≡ false → (m'.workers j).last ≡ (m.workers j).last
      → TicketAfter e m'
  unfolding TicketAfter
  untouched e m' f h = h ∙ sym (if_false _ _ (and_left_false _ f))

  call_last : (i kind a : ℕ) (v : ℤ) → TicketAfter (calling i kind a v) (call s m i kind a v).0
  unfolding calls_to asked begun ticket_for TicketAfter
  call_last i kind a v = by (call s m i kind a v).1 refl (ℕ_discrete j i)
    where
      e : Entry
      e = calling i kind a v

      by : (r : Result ⊤ Refusal) → (call s m i kind a v).1 ≡ r → Dec (j ≡ i) → TicketAfter e (call s m i kind a v).0
      by (Err r) q d = untouched e (call s m i kind a v).0
          (ap (λ (x : Result ⊤ Refusal). eqb i j and accepts x) q ∙ and_right_false (eqb i j))
          (ap (λ (x : Machine). (x.workers j).last) (call_refused s m i kind a v q))
      by (Ok _) q (no d) =
          let c = accepted_call s m i kind a v (ap accepts q) in
          untouched e (call s m i kind a v).0 (and_left_false (accepts (call s m i kind a v).1) (ne_eqb i j (λ x. d (sym x))))
          (ap (λ (r : Machine × Result ⊤ Refusal). (r.0.workers j).last) c.is ∙ ap (λ (w : Worker). w.last) (begun_other m i j c.operation d))
      by (Ok _) q (yes d) =
          let c = accepted_call s m i kind a v (ap accepts q) in
          ap (λ (r : Machine × Result ⊤ Refusal). (r.0.workers j).last) c.is
          ∙ ap (λ (w : Worker). w.last) (assign_at m.workers i _ j d)
          ∙ taken c.operation c.asks (and_true (eq-eqb i j (sym d)) (ap accepts q)) d
        where
          taken : (o : Operation) → operation_of kind a v ≡ Some o → calls_to (machines s lent) m e j ≡ true → j ≡ i
              → ticket_for (m.workers i) o ≡ (when takes e then suc (m.workers j).last else (m.workers j).last)
          taken (update u) f g k = ap (λ (x : ℕ). suc (m.workers x).last) (sym k) ∙ sym (if_true _ _ (and_true g (ap is_update f)))
          taken (lookup c) f g k = ap (λ (x : ℕ). (m.workers x).last) (sym k)
              ∙ sym (if_false _ _ (ap (λ (x : Bool). calls_to (machines s lent) m e j and x) (ap is_update f) ∙ and_right_false _))

  next_last : (e : Entry) → OpensNothing (machines s lent) m e → TicketAfter e (next (machines s lent) m e)
  unfolding next calls_to
  next_last (calling i kind a v) h = call_last i kind a v
  next_last (stepping i) h = untouched (stepping i) _ refl (step_last i)
  next_last (showing x y) h = untouched (showing x y) _ refl refl
  next_last (reopening n b M) h =
      untouched (reopening n b M) _ refl (ap (λ (x : Machine). (x.workers j).last) (opening_refused m (opening n b M lent) h.1))

  -- an accepted call asks for an operation
  asks : (e : Entry) → calls_to (machines s lent) m e j ≡ true → busy (asked e) ≡ true
  unfolding calls_to asked
  asks (calling i kind a v) h = ap busy (accepted_call s m i kind a v (and_parts _ _ h).1).asks
  asks (stepping i) h = absurd (no_both h refl)
  asks (showing x y) h = absurd (no_both h refl)
  asks (reopening n b M) h = absurd (no_both h refl)

-- ---- a list of entries

module _ (s : Settings) (lent : ℕ) (m : Machine) (t : Table) (es : List Entry) (refused : OpeningsRefused s (machines s lent) m t es)
    (idle : (j : ℕ) → (m.workers j).operation ≡ None) where
  abbrev worker : ℕ → ℕ → Worker
  worker i j = (state_at s (machines s lent) m t es i).workers j

  abbrev Change : ℕ → ℕ → Type 0
  Change i j = WorkerChange s lent (state_at s (machines s lent) m t es i) (entry_at es i) j (worker (suc i) j)

  -- a worker is busy exactly while its last accepted call has no answer
  busy_is : (i j : ℕ) → under_way s (machines s lent) m t es i j ≡ busy (worker i j).operation
  unfolding under_way state_at
  busy_is zero j = sym (ap busy (idle j))
  busy_is (suc i) j = by (busy_is i j) (at_next s lent m t es refused idle i j)
    where
      kept : under_way s (machines s lent) m t es i j ≡ busy (worker i j).operation → is_call s (machines s lent) m t es i j ≡ false
          → is_end s (machines s lent) m t es i j ≡ false → (worker (suc i) j).operation ≡ (worker i j).operation
          → under_way s (machines s lent) m t es (suc i) j ≡ busy (worker (suc i) j).operation
      kept h c e q = if_false _ _ c ∙ if_false _ _ e ∙ h ∙ sym (ap busy q)

      by : under_way s (machines s lent) m t es i j ≡ busy (worker i j).operation → Change i j
          → under_way s (machines s lent) m t es (suc i) j ≡ busy (worker (suc i) j).operation
      by h (begins c b q z a) = if_true _ _ c ∙ sym (ap busy q ∙ asks s lent _ j (entry_at es i) c)
      by h (moves_on c st q z a) = kept h c (ends_none s lent _ j (entry_at es i) a) q
      by h (ends a v x r c st q z) = if_false _ _ c ∙ if_true _ _ (ends_some s lent _ j (entry_at es i) x r) ∙ sym (ap busy q)
      by h (no_change c st q a) = kept h c (ends_none s lent _ j (entry_at es i) a) (ap (λ (w : Worker). w.operation) q)

  -- its last ticket is the number of updates that it has made
  made_is : ((j : ℕ) → (m.workers j).last ≡ 0) → (i j : ℕ) → updates_made s (machines s lent) m t es i j ≡ (worker i j).last
  unfolding updates_made state_at TicketAfter
  made_is unused zero j = sym (unused j)
  made_is unused (suc i) j =
      sym (next_last s lent _ j (entry_at es i) (refused i)
      ∙ ap (λ (k : ℕ). when takes s lent (state_at s (machines s lent) m t es i) j (entry_at es i) then suc k else k)
      (sym (made_is unused i j)))

  pub calls_at :
      ((j : ℕ) → (m.workers j).last ≡ 0) → (i j kind a : ℕ) (v : ℤ)
      → (call s (state_at s (machines s lent) m t es i) j kind a v).1
      ≡ call_reply s j (under_way s (machines s lent) m t es i j) (updates_made s (machines s lent) m t es i j) (operation_of kind a v)
  calls_at unused i j kind a v = rw (busy_is i j, made_is unused i j) (call-reply s _ j kind a v)

  pub stepped_at :
      (i j : ℕ) → refusal_in (step s (state_at s (machines s lent) m t es i) j).1 ≡ step_refusal s j (under_way s (machines s lent) m t es i j)
  stepped_at i j = rw (busy_is i j) (step-reply s _ j)

  -- ---- an operation ends once

  pub ends_once_at :
      (c i k j : ℕ) (o : Operation) (q r : Completion) → Ended s (machines s lent) m t es c i j o q
      → Ended s (machines s lent) m t es c k j o r
      → i ≡ k
  ends_once_at c i k j o q r e f = neither_less i k (λ l. earlier i k q r e f l) (λ l. earlier k i r q f e l)
    where
      earlier :
          (i k : ℕ) (q r : Completion) → Ended s (machines s lent) m t es c i j o q
          → Ended s (machines s lent) m t es c k j o r
          → i < k → ⊥
      earlier i k q r e f l = none_some
          (stays_idle s lent m t es refused idle (suc i) k j l (left (at_next s lent m t es refused idle i j))
          (λ p a b. f.latest p (omega (arith, e.later)) b))
          (ended_last s lent m t es refused idle c k j o r f).0
        where
          given : answer_to s (state_at s (machines s lent) m t es i) (entry_at es i) j ≡ Some q.answer
          given =
              ap (λ (x : Entry). answer_to s (state_at s (machines s lent) m t es i) x j) e.entry
              ∙ if_true _ _ (eq-eqb j j refl) ∙ ap answer_in e.answered

          left : Change i j → (worker (suc i) j).operation ≡ None
          left (begins c b x z a) = absurd (none_some a given)
          left (moves_on c st x z a) = absurd (none_some a given)
          left (ends a v x y c st z w) = z
          left (no_change c st x a) = absurd (none_some a given)
