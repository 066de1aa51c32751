-- A machine with one worker: nobody else announces, swaps or splits, so that its invariant holds as if its first pass were the second, and
-- the second check answers its update. Rests on the invariant of every reachable machine.
use Prim.Native.Nat.{ℕ, zero, suc, ◌+◌, ◌*◌, ◌<◌}
use native.Mathlib.Omega.{arith}
use mathlib.Core.Path.{◌≡◌, refl, ap, ◌∙◌, subst, subst⁻¹, fun_ext}
use mathlib.Core.Bool.{true}
use Rattle.std.specs.Prelude.{Option, Some, None}
use lib.Dec.{ltb, eqb}
use lib.IntN.{ℤ}
use borrow.Author.Tests.{ltb-true}
use Rattle.interface.specs.declared.Settings.{Settings}
use Rattle.interface.specs.declared.Answer.{Answer}
use Rattle.interface.specs.Limits.{in_range}
use Rattle.machine.specs.Choice.{assign}
use Rattle.machine.specs.Sequential.{Update, Operation, update, lookup}
use Rattle.machine.specs.Records.{announced, Cells, Reads, Worker, Machine}
use Rattle.machine.specs.Plan.{plan, phase}
use Rattle.machine.specs.Steps.{announcing, update_access, access, assign_slot, perform, counted, done, step_of, step}
use Rattle.machine.specs.Calls.{operation_of, spent, ticket_for, begun, call_of, call}
use Rattle.machine.specs.Counter.{two, announce, read_d}
use Rattle.machine.specs.Tasks.{Task, task_of, tasks_of}
use Rattle.machine.proofs.laws.Base.{if_elim₂, if_ap}
use Rattle.machine.proofs.invariant.Counter.{counter_start, counter_second, phase_again}
use Rattle.machine.proofs.invariant.CounterFacts.{HasSlotD}
use Rattle.machine.proofs.invariant.Inv.{Inv}
use Rattle.machine.proofs.invariant.Preservation.{Writing, writing, announced_on}
use Rattle.machine.proofs.invariant.StepTransitions.{effect_of, worker_after}
use Rattle.machine.proofs.invariant.Tasks.{Good, call_good, step_good, update_under_way}
use Rattle.machine.proofs.steps.Flip.{announce_ok}

module _ (s : Settings) where
  -- an operation's own steps, those of an announced update as if they were in the second pass
  abbrev steps_in_second : Option Operation → ℕ → ℕ
  steps_in_second None k = k
  steps_in_second (Some (lookup a)) k = k
  steps_in_second (Some (update u)) zero = zero
  steps_in_second (Some (update u)) (suc k) = suc (6 * s.workers + 16 + k)

  abbrev in_second : Worker → Worker
  in_second w = record { last = w.last; operation = w.operation; steps = steps_in_second w.operation w.steps; reads = w.reads }

  abbrev all_in_second : Machine → Machine
  all_in_second m = record { cells = m.cells; workers = λ j. in_second (m.workers j) }

  -- The invariant holds with every first pass seen as the second. A worker in its second pass would then be past its plan.
  abbrev pub Solo : Machine → Type 0
  Solo m = Good s (all_in_second m)

  -- the machine after worker j's step of operation o
  abbrev stepped : Machine → ℕ → Operation → Machine
  stepped m j o = record { cells = (effect_of s m j o).contents; workers = assign m.workers j (worker_after s m j o) }

  -- ---- calls and steps that are the same in either pass

  module _ (m : Machine) (j : ℕ) where
    abbrev me : Worker
    me = m.workers j

    assigned : (c : Cells) (v v' : Worker) → v' ≡ in_second v
        → record { cells = c; workers = assign (all_in_second m).workers j v' }
        ≡ all_in_second (record { cells = c; workers = assign m.workers j v })
    unfolding assign
    assigned c v v' e =
        ap (λ (f : ℕ → Worker). record { cells = c; workers = f }) (fun_ext (λ i. rw (e, if_ap in_second (eqb i j) v (m.workers i)) refl))

    begun_second : (o : Operation) → begun (all_in_second m) j o ≡ all_in_second (begun m j o)
    unfolding begun ticket_for
    begun_second (update u) = assigned _ _ _ refl
    begun_second (lookup a) = assigned _ _ _ refl

    module _ (next : suc (in_second me).steps ≡ steps_in_second me.operation (suc me.steps)) where
      counted_second : (r : Reads) (a : Option Answer) → counted (in_second me) r a ≡ in_second (counted me r a)
      unfolding counted
      counted_second r None = ap (λ k. record { last = me.last; operation = me.operation; steps = k; reads = r }) next
      counted_second r (Some a) = refl

      step_second :
          (o : Operation) → access s j (in_second me) o ≡ access s j me o → stepped (all_in_second m) j o ≡ all_in_second (stepped m j o)
      step_second o same = rw same (assigned _ _ _ (counted_second _ _))

  -- ---- the announcing step leads to the second pass

  module _
      (alone : s.workers ≡ 1) (m : Machine) (j : ℕ) (jn : j < s.workers) (g : Solo m)
      (u : Update) (e : (m.workers j).operation ≡ Some (update u)) (f : (m.workers j).steps ≡ 0)
    where
      abbrev tasks : ℕ → Task
      tasks = tasks_of s (all_in_second m)

      at_announce : (tasks j).pc ≡ announce
      at_announce = rw (e, f) (counter_start s.workers)

      announce_second : Writing s j tasks (assign_slot m.cells j (announced u (tasks j).ticket)) (read_d two)
      announce_second =
          let w = announce_ok s j jn m.cells tasks g u at_announce e in
          record {
            directory = w.directory;
            tickets = w.tickets;
            bits_applied = w.bits_applied;
            bits_applied_me = w.bits_applied_me;
            me = record { ticket = w.me.ticket; slot = announced_on w.me.slot; read = tt };
            others = w.others;
            no_toggle = w.no_toggle;
            no_slot = w.no_slot;
            view = w.view;
            pair_me = λ p pn. record {
              sees_flip = λ l. absurd l;
              seen = λ l x. absurd (subst (HasSlotD s.workers j) (ap (λ i. (tasks i).pc) (only p pn) ∙ at_announce) x);
              splits_bucket = λ l. absurd l;
            };
            pair = w.pair;
          }
        where
          only : (p : ℕ) → p < s.workers → p ≡ j
          only p pn = omega arith

      announced_second : Solo (stepped m j (update u))
      unfolding access phase plan update_access announcing perform counted assign
      announced_second =
          let w = m.workers j in
          let v : Worker = record { last = w.last; operation = w.operation; steps = 1; reads = w.reads } in
          let at_second : (task_of s.workers (in_second v)).pc ≡ read_d two = rw e (counter_second s.workers _ (omega arith)) in
          rw f
          (subst⁻¹ (Inv s _) (fun_ext (λ i. if_ap (λ x. task_of s.workers (in_second x)) (eqb i j) v (m.workers i)))
          (rw at_second (writing s j jn m.cells tasks _ (read_d two) announce_second)))

-- ---- machines

module _ (s : Settings) (range : in_range s.workers s.capacity s.depth ≡ true) (alone : s.workers ≡ 1) where
  -- where x's machine is good, y's has its first passes seen as second ones
  abbrev Kept : {A : Type 0} → Machine × A → Machine × A → Type 0
  Kept x y = Good s x.0 → Solo s y.0

  -- idle workers are in no pass
  pub idle_solo : (m : Machine) → Good s m → ((j : ℕ) → (m.workers j).operation ≡ None) → Solo s m
  idle_solo m g rest = subst (Inv s m.cells) (fun_ext (λ j. rw (rest j) refl)) g

  pub solo_call : (m : Machine) (j kind a : ℕ) (v : ℤ) → Solo s m → Solo s (call s m j kind a v).0
  unfolding call call_of spent
  solo_call m j kind a v g = if_elim₂ Kept (ltb j s.workers) _ _ _ _
      (λ l. by (m.workers j).operation (operation_of kind a v)) (λ l h. h) (call_good s range (all_in_second s m) j kind a v g)
    where
      by : (o p : Option Operation) → Kept (call_of (all_in_second s m) j o p) (call_of m j o p)
      by (Some o) p = λ h. h
      by None None = λ h. h
      by None (Some (update u)) = if_elim₂ Kept (spent (m.workers j) (update u)) _ _ _ _ (λ f h. h)
          (λ f. subst (Good s) (begun_second s m j (update u)))
      by None (Some (lookup b)) = if_elim₂ Kept (spent (m.workers j) (lookup b)) _ _ _ _ (λ f h. h)
          (λ f. subst (Good s) (begun_second s m j (lookup b)))

  pub solo_step : (m : Machine) (j : ℕ) → Solo s m → Solo s (step s m j).0
  unfolding step step_of done access
  solo_step m j g = if_elim₂ Kept (ltb j s.workers) _ _ _ _
      (λ l. by (ltb-true j s.workers l) (m.workers j).operation (m.workers j).steps refl refl) (λ l h. h)
      (step_good s range (all_in_second s m) j g)
    where
      by : j < s.workers → (o : Option Operation) (k : ℕ) → (m.workers j).operation ≡ o → (m.workers j).steps ≡ k
          → Kept (step_of s (all_in_second s m) j o) (step_of s m j o)
      by jn None k e f h = h
      by jn (Some (lookup a)) k e f h = subst (Good s) (step_second s m j (rw e refl) (lookup a) (rw e refl)) h
      by jn (Some (update u)) zero e f h = announced_second s alone m j jn g u e f
      by jn (Some (update u)) (suc k) e f h =
          let few = rw (e, f) at (update_under_way s range (all_in_second s m) j u jn g e) in
          let again = phase_again s.workers k (omega arith) in
          subst (Good s) (step_second s m j (rw (e, f) (omega arith)) (update u) (rw (e, f, again) refl)) h

  -- an update under way has made fewer than 23 steps, those of the first pass
  pub solo_under_way :
      (m : Machine) (j : ℕ) (u : Update) → j < s.workers → Solo s m → (m.workers j).operation ≡ Some (update u) → (m.workers j).steps < 23
  solo_under_way m j u jn g e = early (m.workers j).steps (rw e at (update_under_way s range (all_in_second s m) j u jn g e))
    where
      early : (k : ℕ) → steps_in_second s (Some (update u)) k < 12 * s.workers + 33 → k < 23
      early zero l = omega arith
      early (suc k) l = omega arith
