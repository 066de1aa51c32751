-- Every entry of a list, from a good machine: who takes effect there, and how the machine and the plain table go on.
-- Rests on the invariant of the machine and on the explanation of one step.
use Prim.Native.Nat.{ℕ, ◌<◌}
use native.Mathlib.Omega.{arith}
use native.Mathlib.Decide.{ℕ_discrete, dec_lt}
use mathlib.Core.Path.{◌≡◌, refl, sym, ap, ◌∙◌, subst}
use mathlib.Core.Logic.{◌≢◌, by_cases}
use mathlib.Core.Bool.{true}
use mathlib.Core.List.{[]}
use Rattle.std.specs.Prelude.{Option, Some, None, Result, Ok, Err, ⊤}
use lib.Dec.{eqb}
use lib.IntN.{ℤ}
use borrow.Author.Tests.{eq-eqb}
use Rattle.interface.specs.Limits.{in_range}
use Rattle.interface.specs.declared.Settings.{Settings}
use Rattle.interface.specs.declared.Answer.{Answer}
use Rattle.interface.specs.declared.Refusal.{Refusal}
use Rattle.interface.specs.declared.Stepped.{Stepped}
use Rattle.machine.specs.Choice.{when◌then◌else◌}
use Rattle.machine.specs.Sequential.{Table, Operation, update, lookup}
use Rattle.machine.specs.Records.{Cells, Worker, Machine}
use Rattle.machine.specs.Steps.{Effect, step, check_of, done, step_reply}
use Rattle.machine.specs.Calls.{opening, call, call_of, begun, operation_of, spent, ticket_for}
use Rattle.machine.specs.Systems.{machines, Entry, calling, stepping, showing, reopening, OpensNothing, next, accepts, moves}
use Rattle.machine.specs.Systems.{steps_by}
use Rattle.machine.specs.History.{Member}
use Rattle.machine.proofs.laws.Base.{no_both, if_elim, if_same, and_true, assign_at, assign_other}
use Rattle.machine.proofs.Openings.{opening_refused, call_stranger, call_busy, idle_call, call_refused, step_stranger, step_idle, step_made, step_refused}
use Rattle.machine.proofs.invariant.Counter.{counter_start}
use Rattle.machine.specs.Tasks.{counter_of, task_of, tasks_of}
use Rattle.machine.proofs.invariant.StepTransitions.{effect_of}
use Rattle.machine.proofs.invariant.Tasks.{Good}
use Rattle.machine.proofs.moments.Explain.{Parts, status_at, status, outcome, serve_all, answers_of, Explained, reply_to}
use Rattle.machine.proofs.moments.StepExplained.{step_explained}

abbrev pub answer_in : Stepped → Option Answer
answer_in Stepped.Moved = None
answer_in (Stepped.Answered c) = Some c.answer
answer_in (Stepped.Refused r) = None

-- ---- an accepted step, an accepted call

-- what worker j's accepted step is made of
pub record StepParts (s : Settings) (m : Machine) (j : ℕ) : Type 0 where
  pub worker : j < s.workers
  pub operation : Operation
  pub under-way : (m.workers j).operation ≡ Some operation
  pub is : step s m j ≡ done m j (check_of s (m.workers j) operation) (effect_of s m j operation)

module _ (s : Settings) (m : Machine) (j : ℕ) where
  pub accepted_step : moves (step s m j).1 ≡ true → StepParts s m j
  accepted_step h = by_cases (dec_lt j s.workers) (λ l. by l (m.workers j).operation refl)
      (λ l. absurd (not_refused (step_stranger s m j (omega arith))))
    where
      not_refused : {r : Refusal} → step s m j ≡ (m, Stepped.Refused r) → ⊥
      not_refused e = no_both h (ap (λ (x : Machine × Stepped). moves x.1) e)

      by : j < s.workers → (o : Option Operation) → (m.workers j).operation ≡ o → StepParts s m j
      by l None e = absurd (not_refused (step_idle s m j l e))
      by l (Some o) e = record { worker = l; operation = o; under-way = e; is = step_made s m j l e }

-- what an accepted call to worker j is made of
pub record CallParts (s : Settings) (m : Machine) (j kind a : ℕ) (v : ℤ) : Type 0 where
  pub worker : j < s.workers
  pub idle : (m.workers j).operation ≡ None
  pub operation : Operation
  pub asks : operation_of kind a v ≡ Some operation
  pub is : call s m j kind a v ≡ (begun m j operation, Ok tt)

module _ (s : Settings) (m : Machine) (j kind a : ℕ) (v : ℤ) where
  pub accepted_call : accepts (call s m j kind a v).1 ≡ true → CallParts s m j kind a v
  unfolding call_of
  accepted_call h = by_cases (dec_lt j s.workers) (λ l. by l (m.workers j).operation refl)
      (λ l. absurd (not_refused (call_stranger s m j kind a v (omega arith))))
    where
      not_refused : {r : Refusal} → call s m j kind a v ≡ (m, Err r) → ⊥
      not_refused e = no_both h (ap (λ (x : Machine × Result ⊤ Refusal). accepts x.1) e)

      accepted :
          j < s.workers → (m.workers j).operation ≡ None → (p : Option Operation) → operation_of kind a v ≡ p → CallParts s m j kind a v
      accepted l e None f = absurd (not_refused (idle_call s m j kind a v l e f))
      accepted l e (Some p) f =
          if_elim {A = Machine × Result ⊤ Refusal} (λ r. call s m j kind a v ≡ r → CallParts s m j kind a v) (spent (m.workers j) p) _ _
          (λ q g. absurd (not_refused g))
          (λ q g. record { worker = l; idle = e; operation = p; asks = f; is = g })
          (idle_call s m j kind a v l e f)

      by : j < s.workers → (o : Option Operation) → (m.workers j).operation ≡ o → CallParts s m j kind a v
      by l (Some o) e = absurd (not_refused (call_busy s m j kind a v l e))
      by l None e = accepted l e (operation_of kind a v) refl

-- ---- one entry

-- the answer that an entry gives worker j
abbrev pub answer_to : Settings → Machine → Entry → ℕ → Option Answer
answer_to s m (calling i kind a v) j = None
answer_to s m (stepping i) j = when eqb j i then answer_in (step s m i).1 else None
answer_to s m (showing x y) j = None
answer_to s m (reopening n b M) j = None

-- who takes effect at entry e of machine m with the plain table t, and what holds afterwards
abbrev pub ExplainedEntry : Settings → ℕ → Machine → Entry → Table → Type 0
ExplainedEntry s lent m e t =
    Explained s m.cells (next (machines s lent) m e).cells (tasks_of s m) (tasks_of s (next (machines s lent) m e)) (answer_to s m e) t

pub record Advance (s : Settings) (lent : ℕ) (m : Machine) (e : Entry) (t : Table) : Type 0 where
  pub explained : ExplainedEntry s lent m e t
  -- only an accepted step has any effects
  pub moving : (j : ℕ) → Member j explained.effects → (w : ℕ) × (steps_by (machines s lent) m e w ≡ true)

-- ---- the entries one by one

answer_step_reply : (k c : ℕ) (a : Option Answer) → answer_in (step_reply k c a) ≡ a
unfolding step_reply
answer_step_reply k c None = refl
answer_step_reply k c (Some r) = refl

-- the answer of a step that is made
answer_done : (m : Machine) (j c : ℕ) (f : Effect Cells) → answer_in (done m j c f).1 ≡ f.answer
unfolding done
answer_done m j c f = answer_step_reply _ c f.answer

-- an idle worker waits for nothing
pub idle_status : (s : Settings) (m : Machine) (j : ℕ) → (m.workers j).operation ≡ None → status m.cells j (tasks_of s m j) ≡ None
idle_status s m j e =
    ap (λ (o : Option Operation). status_at (counter_of s.workers o (m.workers j).steps) m.cells j (tasks_of s m j)) e

pub begun_other : (m : Machine) (j i : ℕ) (o : Operation) → i ≢ j → (begun m j o).workers i ≡ m.workers i
unfolding begun
begun_other m j i o d = assign_other m.workers j _ i d

module _ (s : Settings) (range : in_range s.workers s.capacity s.depth ≡ true) (lent : ℕ) (m : Machine) (t : Table)
    (good : Good s m) (parts : Parts m.cells t) where
  -- nothing takes effect where every worker is as before
  no_effect :
      (e : Entry) (m' : Machine) → next (machines s lent) m e ≡ m' → m'.cells ≡ m.cells
      → ((j : ℕ) → outcome (answer_to s m e j) m'.cells j (tasks_of s m' j) ≡ status m.cells j (tasks_of s m j)) → Advance s lent m e t
  unfolding serve_all answers_of
  no_effect e m' n q o = record {
    explained = record {
      effects = [];
      distinct = tt;
      waiting = λ j h. absurd h;
      parts = rw (n, q) parts;
      gained = λ j r h. absurd h;
      others = λ j jn h. rw n (o j);
    };
    moving = λ j h. absurd h;
  }

  -- an entry that changes nothing
  refused_entry : (e : Entry) → next (machines s lent) m e ≡ m → ((j : ℕ) → answer_to s m e j ≡ None) → Advance s lent m e t
  refused_entry e n a = no_effect e m n refl (λ j. rw (a j) refl)

  -- a call: the worker was idle, and its operation waits
  begun_status : (p : Operation) (j : ℕ) → status m.cells j (tasks_of s (begun m j p) j) ≡ None
  unfolding begun
  begun_status p j = ap (λ (w : Worker). status m.cells j (task_of s.workers w)) (assign_at m.workers j _ j refl) ∙ by p
    where
      new : Operation → Worker
      new p = record { last = ticket_for (m.workers j) p; operation = Some p; steps = 0; reads = (m.workers j).reads }

      by : (p : Operation) → status m.cells j (task_of s.workers (new p)) ≡ None
      by (lookup a) = refl
      by (update u) = rw (counter_start s.workers) refl

  called_entry : (j kind a : ℕ) (v : ℤ) → CallParts s m j kind a v → Advance s lent m (calling j kind a v) t
  unfolding next begun
  called_entry j kind a v c =
      no_effect (calling j kind a v) (begun m j c.operation) (ap (λ (x : Machine × Result ⊤ Refusal). x.0) c.is) refl
      (λ i. by i (ℕ_discrete i j))
    where
      by : (i : ℕ) → Dec (i ≡ j) → status m.cells i (tasks_of s (begun m j c.operation) i) ≡ status m.cells i (tasks_of s m i)
      by i (yes e) = rw e (begun_status c.operation j ∙ sym (idle_status s m j c.idle))
      by i (no d) = ap (λ (w : Worker). status m.cells i (task_of s.workers w)) (begun_other m j i c.operation d)

  -- a step: as it is explained
  stepped_entry : (w : ℕ) → moves (step s m w).1 ≡ true → Advance s lent m (stepping w) t
  unfolding next steps_by
  stepped_entry w h =
      let c = accepted_step s m w h in
      let x = step_explained s range m w c.operation t good parts c.worker c.under-way in
      let a : answer_in (step s m w).1 ≡ (effect_of s m w c.operation).answer =
      ap (λ (r : Machine × Stepped). answer_in r.1) c.is ∙ answer_done m w _ _ in
      record {
        explained = subst To (sym a) x;
        moving = λ j i. (w, and_true (eq-eqb w w refl) h);
      }
    where
      To : Option Answer → Type 0
      To o = Explained s m.cells (step s m w).0.cells (tasks_of s m) (tasks_of s (step s m w).0) (reply_to w o) t

  pub advance : (e : Entry) → OpensNothing (machines s lent) m e → Advance s lent m e t
  unfolding next
  advance (showing x y) h = refused_entry (showing x y) refl (λ j. refl)
  advance (reopening n b M) h = refused_entry (reopening n b M) (opening_refused m (opening n b M lent) h.1) (λ j. refl)
  advance (calling j kind a v) h = by (call s m j kind a v).1 refl
    where
      by : (r : Result ⊤ Refusal) → (call s m j kind a v).1 ≡ r → Advance s lent m (calling j kind a v) t
      by (Ok _) e = called_entry j kind a v (accepted_call s m j kind a v (ap accepts e))
      by (Err r) e = refused_entry (calling j kind a v) (call_refused s m j kind a v e) (λ i. refl)
  advance (stepping w) h = by (step s m w).1 refl
    where
      by : (r : Stepped) → (step s m w).1 ≡ r → Advance s lent m (stepping w) t
      by Stepped.Moved e = stepped_entry w (ap moves e)
      by (Stepped.Answered c) e = stepped_entry w (ap moves e)
      by (Stepped.Refused r) e = refused_entry (stepping w) (step_refused s m w e) (λ i. rw e (if_same (eqb i w) None))
