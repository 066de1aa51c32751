-- The invariant of every reachable machine: opening has it, calls and steps keep it.
-- Rests on steps as transitions, on the steps of the bucket pass and of the directory pass, and on the two swaps.
use Prim.Native.Nat.{ℕ, zero, suc, ◌+◌, ◌*◌, ◌≤◌, ◌<◌}
use native.Mathlib.Omega.{arith}
use native.Mathlib.Decide.{dec_lt}
use mathlib.Core.Path.{◌≡◌, refl, ap, ◌∙◌, subst, subst⁻¹, fun_ext}
use mathlib.Core.Logic.{inl, by_cases}
use mathlib.Core.Bool.{true}
use Rattle.std.specs.Prelude.{Option, Some, None, Result, ⊤}
use lib.Dec.{ltb, eqb}
use lib.IntN.{ℤ}
use borrow.Author.Tests.{ltb-true}
use Rattle.interface.specs.declared.Settings.{Settings}
use Rattle.interface.specs.declared.Answer.{Answer}
use Rattle.interface.specs.declared.Stepped.{Stepped}
use Rattle.interface.specs.Limits.{in_range}
use Rattle.interface.proofs.Laws.{range_of}
use Rattle.machine.specs.Choice.{assign}
use Rattle.machine.specs.Sequential.{Update, Operation, update, lookup}
use Rattle.machine.specs.Records.{Cells, Machine, new_bucket, first_cells, no_reads, opened}
use Rattle.machine.specs.Steps.{done, step_of, step}
use Rattle.machine.specs.Calls.{operation_of, spent, ticket_for, begun, call_of, call}
use Rattle.machine.proofs.laws.Base.{if_elim, if_ap}
use Rattle.machine.proofs.laws.Copies.{coherent_first}
use Rattle.machine.specs.Counter.{PC, idle, over}
use Rattle.machine.proofs.invariant.Counter.{counter_start, counter_end}
use Rattle.machine.specs.Tasks.{Task, lookup_counter, counter_of, task_of, tasks_of}
use Rattle.machine.proofs.invariant.Inv.{SlotFacts, Inv}
use Rattle.machine.proofs.invariant.Preservation.{goes, Reading, reading, writing}
use Rattle.machine.proofs.invariant.Transitions.{Transition, looks, finds, announces, reads_d, flips, reads_s, reads_t, slots_b, last_b, swaps, misses, checks_d, answers, passes, copies, slots_d, last_d, resizes, last_state, redirects, misses_d}
use Rattle.machine.proofs.invariant.StepTransitions.{step_transition, tasks_after}
use Rattle.machine.proofs.steps.BucketSteps.{called_update, called_lookup, look₁_ok, look₂_ok, read_d_ok, read_s_ok, read_t_ok, slot_b_more, slot_b_last, missed_ok, check_d_ok, answered_ok, unanswered_ok}
use Rattle.machine.proofs.steps.DirectorySteps.{copy_d_ok, slot_d_more, slot_d_last, state_more, state_last, missed_d_ok}
use Rattle.machine.proofs.steps.Flip.{announce_ok, flip_ok}
use Rattle.machine.proofs.steps.SwapBucket.{swap_ok}
use Rattle.machine.proofs.steps.SwapDirectory.{redirect_ok}
use Rattle.interface.specs.declared.Refusal.{Refusal}

-- ---- each transition keeps the invariant

module _ (s : Settings) (w : ℕ) (wn : w < s.workers) (c : Cells) (tasks : ℕ → Task) (i : Inv s c tasks) where
  abbrev k : Task
  k = tasks w

  -- a step that changes only the worker's task, by the worker's counter
  at_counter : {pc : PC} {k' : Task} → k.pc ≡ pc → Reading s w c (goes k pc k.reads) k' → Inv s c (assign tasks w k')
  at_counter {k' = k'} e r = reading s w wn c tasks k' i (subst⁻¹ (λ pc. Reading s w c (goes k pc k.reads) k') e r)

  module _ (small : s.depth ≤ 32) where
    transition_good : {c' : Cells} {k' : Task} {a : Option Answer} → Transition s w c k c' k' a → Inv s c' (assign tasks w k')
    transition_good (looks e) = at_counter e (look₁_ok s w c k i.directory)
    transition_good (finds e) = at_counter e (look₂_ok s w c k)
    transition_good (announces u e q) = writing s w wn c tasks _ _ (announce_ok s w wn c tasks i u e q)
    transition_good (reads_d p e) = at_counter e (read_d_ok s w c k i.directory p)
    transition_good (flips p e) = writing s w wn c tasks _ _ (flip_ok s w wn c tasks i p e)
    transition_good (reads_s p r e) = at_counter e (read_s_ok s w c k p r)
    transition_good (reads_t p r e) = at_counter e (read_t_ok s w c k p r)
    transition_good (slots_b p r m e l) = at_counter e (slot_b_more s w c k p r m)
    transition_good (last_b p r m e l) = at_counter e (slot_b_last s w c k p r m l)
    transition_good (swaps p r e f) = swap_ok s w wn c tasks i p r e f
    transition_good (misses p r e f) = at_counter e (missed_ok s w c k p r f)
    transition_good (checks_d p x e) = at_counter e (check_d_ok s w c k i.directory p x)
    transition_good (answers p x a e q) = at_counter e (answered_ok s w c k i.directory p x a q)
    transition_good (passes p x e q) = at_counter e (unanswered_ok s w c k p x q)
    transition_good (copies p r e) = at_counter e (copy_d_ok s w c k i.directory p r)
    transition_good (slots_d p r m e l) = at_counter e (slot_d_more s w c k p r m)
    transition_good (last_d p r m e l) = at_counter e (slot_d_last s w c k p r m l)
    transition_good (resizes p r m e l) = at_counter e (state_more s w c k small i.directory p r m (omega arith))
    transition_good (last_state p r m e l n) = at_counter e (state_last s w c k small i.directory p r m l n)
    transition_good (redirects p r e f) = redirect_ok s small w wn c tasks i p r e f
    transition_good (misses_d p r e f) = at_counter e (missed_d_ok s w c k p r f)

-- ---- machines

-- the invariant of a machine
abbrev pub Good : Settings → Machine → Type 0
Good s m = Inv s m.cells (tasks_of s m)

module _ (s : Settings) (m : Machine) (j : ℕ) where
  -- a worker's counter, by its operation
  pub counter_for :
      {o : Option Operation} → (m.workers j).operation ≡ o → (tasks_of s m j).pc ≡ counter_of s.workers o (m.workers j).steps
  counter_for e = ap (λ o. counter_of s.workers o (m.workers j).steps) e

  module _ (jn : j < s.workers) (good : Good s m) where
    -- no worker is past its plan
    pub not_over : (tasks_of s m j).pc ≡ over → ⊥
    not_over e = subst (λ pc. SlotFacts s pc m.cells j (tasks_of s m j)) e (good.own j jn).slot

    -- an idle worker's operation begins
    begun_good : (o : Operation) → (m.workers j).operation ≡ None → Good s (begun m j o)
    unfolding begun assign ticket_for
    begun_good o e = subst⁻¹ (Inv s m.cells) (fun_ext (λ i. if_ap (task_of s.workers) (eqb i j) _ (m.workers i))) (by o)
      where
        called : Operation → Task
        called o =
            let w = m.workers j in
            record { pc = counter_of s.workers (Some o) 0; operation = Some o; ticket = ticket_for w o; reads = w.reads }

        from_idle :
            {k' : Task} → Reading s j m.cells (goes (tasks_of s m j) idle (m.workers j).reads) k'
            → Inv s m.cells (assign (tasks_of s m) j k')
        from_idle r = at_counter s j jn m.cells (tasks_of s m) good (counter_for e) r

        by : (o : Operation) → Inv s m.cells (assign (tasks_of s m) j (called o))
        by (update u) = rw counter_start (from_idle (called_update s j m.cells (tasks_of s m j) u))
        by (lookup a) = from_idle (called_lookup s j m.cells (tasks_of s m j) a)

module _ (s : Settings) (range : in_range s.workers s.capacity s.depth ≡ true) where
  pub opened_good : Good s opened
  unfolding opened first_cells new_bucket no_reads
  opened_good = record {
    directory = coherent_first s.depth;
    tickets = omega arith;
    bits_applied = λ x j jn. inl refl;
    own = λ j jn. record { ticket = omega arith; slot = (refl, tt); read = tt };
    view = λ j p jn pn. record { bit = λ h. absurd h; slot = λ h. absurd h; old = inl refl };
    pair = λ j p jn pn. record { sees_flip = λ l. absurd l; seen = λ l. absurd l; splits_bucket = λ l. absurd l };
  }

  pub call_good : (m : Machine) (j kind a : ℕ) (v : ℤ) → Good s m → Good s (call s m j kind a v).0
  unfolding call call_of
  call_good m j kind a v g = if_elim Left (ltb j s.workers) _ _
      (λ l. by (ltb-true j s.workers l) (m.workers j).operation refl (operation_of kind a v)) (λ l. g)
    where
      Left : Machine × Result ⊤ Refusal → Type 0
      Left x = Good s x.0

      by : j < s.workers → (o : Option Operation) → (m.workers j).operation ≡ o → (p : Option Operation) → Left (call_of m j o p)
      by jn (Some o) e p = g
      by jn None e None = g
      by jn None e (Some p) = if_elim Left (spent (m.workers j) p) _ _ (λ f. g) (λ f. begun_good s m j jn g p e)

  pub step_good : (m : Machine) (j : ℕ) → Good s m → Good s (step s m j).0
  unfolding step step_of done
  step_good m j g = if_elim Left (ltb j s.workers) _ _ (λ l. by (ltb-true j s.workers l) (m.workers j).operation refl) (λ l. g)
    where
      Left : Machine × Stepped → Type 0
      Left x = Good s x.0

      by : j < s.workers → (o : Option Operation) → (m.workers j).operation ≡ o → Left (step_of s m j o)
      by jn None e = g
      by jn (Some o) e =
          let limits = range_of s.workers s.capacity s.depth range in
          subst⁻¹ (Inv s _) (tasks_after s m j o)
          (transition_good s j jn m.cells (tasks_of s m) g (omega (arith, limits.greatest-depth))
          (step_transition s m j o limits.least-workers e (not_over s m j jn g)))

  -- an update under way has made fewer than 12n+33 steps, a lookup fewer than 2
  pub update_under_way :
      (m : Machine) (j : ℕ) (u : Update) → j < s.workers → Good s m → (m.workers j).operation ≡ Some (update u)
      → (m.workers j).steps < 12 * s.workers + 33
  update_under_way m j u jn g e = by_cases (dec_lt (m.workers j).steps (12 * s.workers + 33)) (λ l. l)
      (λ l. absurd (not_over s m j jn g (counter_for s m j e ∙ counter_end s.workers (m.workers j).steps (omega arith))))

  pub lookup_under_way :
      (m : Machine) (j a : ℕ) → j < s.workers → Good s m → (m.workers j).operation ≡ Some (lookup a) → (m.workers j).steps < 2
  lookup_under_way m j a jn g e = early (m.workers j).steps (λ f. not_over s m j jn g (counter_for s m j e ∙ f))
    where
      early : (i : ℕ) → (lookup_counter i ≡ over → ⊥) → i < 2
      early zero h = omega arith
      early (suc zero) h = omega arith
      early (suc (suc i)) h = absurd (h refl)
