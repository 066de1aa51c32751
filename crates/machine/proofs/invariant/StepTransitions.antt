-- Each step of the machine is a transition of its worker's task. Rests on the transitions and the laws of cells.
use Prim.Native.Nat.{ℕ, zero, suc, ◌≤◌}
use mathlib.Core.Path.{◌≡◌, refl, sym, ap, subst⁻¹, fun_ext}
use Rattle.std.specs.Prelude.{Option, Some, None}
use lib.Dec.{eqb}
use Rattle.interface.specs.declared.Settings.{Settings}
use Rattle.interface.specs.declared.Answer.{Answer}
use Rattle.machine.specs.Choice.{assign}
use Rattle.machine.specs.Sequential.{Update, account, Operation, update, lookup}
use Rattle.machine.specs.Records.{Leaf, kept, made, Slot, empty, announced, Cells, Reads, Worker, Machine}
use Rattle.machine.specs.BucketPass.{checked}
use Rattle.machine.specs.DirectoryPass.{leaf_of}
use Rattle.machine.specs.Steps.{Effect, leaving, direct, assign_state, update_access, lookup_access, access, perform, counted, check_of, done, with_copy}
use Rattle.machine.specs.Steps.{announcing, directory_reading, flipping, state_reading, toggle_reading, slot_reading, swapped, state_swapping}
use Rattle.machine.specs.Steps.{state_checking, directory_copying, leaf_reading, resizing, redirected, directory_swapping}
use Rattle.machine.proofs.laws.Base.{if_ap, eq_elim, lt_elim}
use Rattle.machine.proofs.laws.Cells.{assign_state_same, assign_toggle_same, assign_slot_same, direct_same}
use Rattle.machine.specs.Counter.{Two, read_s, read_t, swap, slot_b, copy_d, swap_d, slot_d, state, PC, idle, announce, look₁, look₂, over, read_d, flip, check_d, check_s, in_b, in_d, counter}
use Rattle.machine.proofs.invariant.Counter.{after_b, after_d, phase_of, after_step, StepInRange, Proper, counter_phase, counter_after, counter_in_range, counter_proper}
use Rattle.machine.specs.Tasks.{Task, held, task_of, tasks_of}
use Rattle.machine.proofs.invariant.Inv.{body}
use Rattle.machine.proofs.invariant.Preservation.{goes}
use Rattle.machine.proofs.invariant.Transitions.{Transition, copy_leaf, copy_slot, looks, finds, announces, reads_d, flips, reads_s, reads_t, slots_b, last_b, swaps, misses, checks_d, answers, passes, copies, slots_d, last_d, resizes, last_state, redirects, misses_d}

-- what one step of worker j's operation o does
abbrev pub effect_of : Settings → Machine → ℕ → Operation → Effect Cells
effect_of s m j o = perform (access s j (m.workers j) o) m.cells

-- the worker after it
abbrev pub worker_after : Settings → Machine → ℕ → Operation → Worker
worker_after s m j o = counted (m.workers j) (effect_of s m j o).reads (effect_of s m j o).answer

-- ---- the state step for worker i of a directory round only reads

module _ (s : Settings) (c : Cells) (r : Reads) (i : ℕ) where
  leaf_effect : (t : ℕ) (l : Leaf) → perform (leaf_reading s r i t l) c ≡ leaving c (with_copy r (copy_leaf s c i t r l))
  unfolding perform leaf_reading with_copy
  leaf_effect t (made x b) = refl
  leaf_effect t (kept x) = ap (λ d. leaving d (with_copy r (copy_leaf s c i t r (kept x)))) (assign_state_same c x)

  resize_effect : (x : Slot) → perform (resizing s r i x) c ≡ leaving c (with_copy r (copy_slot s c i r x))
  unfolding perform resizing with_copy
  resize_effect empty = refl
  resize_effect (announced u t) = leaf_effect t (leaf_of r.copy (account u))

-- ---- a worker's step

-- a worker by its parts
abbrev doing : Option Operation → ℕ → ℕ → Reads → Worker
doing q t i r = record { last = t; operation = q; steps = i; reads = r }

module _ (s : Settings) (j : ℕ) (c : Cells) where
  -- effect x is a transition of worker w's task
  abbrev IsTransition : Worker → Effect Cells → Type 0
  IsTransition w x =
      Transition s j c (task_of s.workers w) x.contents (task_of s.workers (counted w x.reads x.answer)) x.answer

  -- the step of worker w for operation o is one, where there is a step to come
  abbrev StepIsTransition : Operation → Worker → Type 0
  StepIsTransition o w = ((task_of s.workers w).pc ≡ over → ⊥) → IsTransition w (perform (access s j w o) c)

  lookup_transition : (a t i : ℕ) (r : Reads) → StepIsTransition (lookup a) (doing (Some (lookup a)) t i r)
  unfolding access lookup_access directory_reading perform counted
  lookup_transition a t zero r early = rw direct_same (looks refl)
  lookup_transition a t (suc zero) r early = rw assign_state_same (finds refl)
  lookup_transition a t (suc (suc i)) r early = absurd (early refl)

  module _ (u : Update) (t i : ℕ) (r : Reads) where
    abbrev me : Worker
    me = doing (Some (update u)) t i r

    abbrev task : Task
    task = task_of s.workers me

    -- the update goes on at counter pc, with cells d and reads q
    abbrev To : Cells → Reads → PC → Type 0
    To d q pc = Transition s j c task d (goes task pc q) None

    -- the worker is at counter pc, a step of an update
    record CounterAt (pc : PC) : Type 0 where
      at : counter s.workers i ≡ pc
      next : counter s.workers (suc i) ≡ after_step s.workers pc
      in-range : StepInRange s.workers pc
      proper : Proper pc
      early : pc ≡ over → ⊥

    -- a step without answer, by the cells that it leaves and the counter that comes next
    step_moves :
        {d' d : Cells} {q : Reads} {pc : PC} → d' ≡ d → counter s.workers (suc i) ≡ pc → To d q pc → IsTransition me (leaving d' q)
    unfolding counted
    step_moves e f x = rw (e, f) x

    check_transition :
        (p x : Two) → CounterAt (check_s p x) → (a : Option Answer) → checked j t (body c (held task)) ≡ a
        → IsTransition me (record { contents = c; reads = r; answer = a })
    unfolding counted
    check_transition p x h None e = step_moves refl h.next (passes p x h.at e)
    check_transition p x h (Some a) e = answers p x a h.at e

    update_transition : (pc : PC) → CounterAt pc → IsTransition me (perform (update_access s j r u t (phase_of pc)) c)
    unfolding perform update_access announcing directory_reading flipping state_reading toggle_reading slot_reading state_swapping swapped
        state_checking directory_copying directory_swapping redirected
    update_transition idle h = absurd h.proper
    update_transition look₁ h = absurd h.proper
    update_transition look₂ h = absurd h.proper
    update_transition over h = absurd (h.early refl)
    update_transition announce h = step_moves refl h.next (announces u h.at refl)
    update_transition (read_d p) h = step_moves (direct_same c) h.next (reads_d p h.at)
    update_transition (flip p) h = step_moves refl h.next (flips p h.at)
    update_transition (in_b p x read_s) h = step_moves (assign_state_same c _) h.next (reads_s p x h.at)
    update_transition (in_b p x read_t) h = step_moves (assign_toggle_same c _) h.next (reads_t p x h.at)
    update_transition (in_b p x (slot_b m)) h =
        step_moves (assign_slot_same c m) h.next (lt_elim (To c _) (suc m) s.workers _ _ (slots_b p x m h.at) (last_b p x m h.at))
    update_transition (in_b p x swap) h =
        step_moves refl h.next
        (eq_elim (λ v. To (assign_state c (held task) v) r (after_b p x)) _ _ _ _
        (λ e. swaps p x h.at (sym e))
        (λ e. rw assign_state_same (misses p x h.at (λ f. e (sym f)))))
    update_transition (check_d p x) h = step_moves (direct_same c) h.next (checks_d p x h.at)
    update_transition (check_s p x) h = rw assign_state_same (check_transition p x h _ refl)
    update_transition (in_d p x copy_d) h = step_moves (direct_same c) h.next (copies p x h.at)
    update_transition (in_d p x (slot_d m)) h =
        step_moves (assign_slot_same c m) h.next (lt_elim (To c _) (suc m) s.workers _ _ (slots_d p x m h.at) (last_d p x m h.at))
    update_transition (in_d p x (state m)) h =
        rw resize_effect
        (step_moves refl h.next
        (lt_elim (To c _) (suc m) s.workers _ _ (resizes p x m h.at) (last_state p x m h.at h.in-range)))
    update_transition (in_d p x swap_d) h =
        step_moves refl h.next
        (eq_elim (λ v. To (direct c v) r (after_d p x)) _ _ _ _
        (λ e. redirects p x h.at (sym e))
        (λ e. rw direct_same (misses_d p x h.at (λ f. e (sym f)))))

  step_is_transition : 1 ≤ s.workers → (o : Operation) (t i : ℕ) (r : Reads) → StepIsTransition o (doing (Some o) t i r)
  unfolding access
  step_is_transition h (lookup a) t i r early = lookup_transition a t i r early
  step_is_transition h (update u) t i r early =
      rw counter_phase
      (update_transition u t i r (counter s.workers i) (record {
        at = refl;
        next = counter_after s.workers i h;
        in-range = counter_in_range s.workers i;
        proper = counter_proper s.workers i;
        early = early;
      }))

pub step_transition :
    (s : Settings) (m : Machine) (j : ℕ) (o : Operation) → 1 ≤ s.workers → (m.workers j).operation ≡ Some o
    → ((tasks_of s m j).pc ≡ over → ⊥)
    → Transition s j m.cells (tasks_of s m j) (effect_of s m j o).contents (task_of s.workers (worker_after s m j o))
    (effect_of s m j o).answer
step_transition s m j o h e =
    let w = m.workers j in
    subst⁻¹ (λ q. StepIsTransition s j m.cells o (doing q w.last w.steps w.reads)) e
    (step_is_transition s j m.cells h o w.last w.steps w.reads)

-- the tasks after it: only worker j's is another
pub tasks_after :
    (s : Settings) (m : Machine) (j : ℕ) (o : Operation)
    → tasks_of s (done m j (check_of s (m.workers j) o) (effect_of s m j o)).0
    ≡ assign (tasks_of s m) j (task_of s.workers (worker_after s m j o))
unfolding done assign
tasks_after s m j o = fun_ext (λ i. if_ap (task_of s.workers) (eqb i j) (worker_after s m j o) (m.workers i))
