-- How a step on words that mean a machine begins: which of the step's kinds it is, where the words stand, and which record is meant.
-- Rests on the layout, on the machine's invariant and on its steps as transitions.
use Prim.Native.Nat.{ℕ, suc, ◌+◌, ◌%◌, ◌≤◌, ◌<◌}
use native.Mathlib.Omega.{arith}
use native.Mathlib.Nat.{add-zero, mod-eq_of_lt}
use native.Mathlib.Numerals.{add-one}
use mathlib.Core.Path.{◌≡◌, refl, ap, sym, ◌∙◌, subst}
use mathlib.Core.Logic.{◌≢◌}
use mathlib.Core.Bool.{true}
use mathlib.Core.List.{List}
use Rattle.std.specs.Prelude.{Option, Some, None}
use lib.Dec.{eqb}
use lib.ListN.{length, set, length-set}
use borrow.Author.Tests.{le-leb}
use Rattle.interface.specs.Limits.{in_range}
use Rattle.interface.specs.Numbers.{kind_none, kind_insert, kind_lookup, kind_post}
use Rattle.interface.proofs.Laws.{range_of}
use Rattle.interface.specs.declared.Settings.{Settings}
use Rattle.interface.specs.declared.Answer.{Answer}
use Rattle.interface.specs.declared.Refusal.{Refusal}
use Rattle.interface.specs.declared.Stepped.{Stepped}
use Rattle.machine.specs.Choice.{assign}
use Rattle.machine.specs.Sequential.{Update, Operation, update, lookup, account}
use Rattle.machine.specs.Records.{Slot, empty, announced, Cells, Reads, Worker, Machine}
use Rattle.fields.specs.Fields.{worker_kind, worker_steps, steps_range, worker_size, widest_record}
use Rattle.fields.specs.Regions.{pool_size, words_needed, record', start_of, worker}
use Rattle.machine.specs.Steps.{counted, check_of, step_reply, done, step}
use Rattle.machine.proofs.laws.Base.{if_true, if_eq, if_ne, if_elim, eq_elim}
use Rattle.machine.specs.Counter.{PC, counter}
use Rattle.machine.proofs.invariant.Counter.{phase_of, counter_phase}
use Rattle.machine.specs.Tasks.{Task, about, counter_of, task_of, tasks_of}
use Rattle.machine.proofs.invariant.Tasks.{Good, not_over, update_under_way, lookup_under_way}
use Rattle.machine.proofs.Openings.{step_made, step_idle}
use Rattle.machine.proofs.invariant.StepTransitions.{effect_of, step_transition}
use Rattle.machine.proofs.invariant.Transitions.{Transition}
use Rattle.rules.specs.declared.Descriptor.{Descriptor}
use Rattle.rules.specs.Rules.{descriptor_in}
use Rattle.simulation.specs.Buckets.{update_from, slot_from}
use Rattle.fields.proofs.Regions.{record_inside, record_starts_apart}
use Rattle.layout.specs.Shape.{word}
use Rattle.layout.specs.Addresses.{record_in, record_of, held_by}
use Rattle.turns.specs.Turns.{step_in}
use Rattle.updates.specs.Updates.{operation_at}
use Rattle.lookups.specs.Lookups.{lookup_at}
use Rattle.updates.specs.Updates.{update_at}
use Rattle.simulation.specs.Meaning.{at, operation_in, Directs, Refers, Meaning}
use Rattle.simulation.proofs.frames.Frames.{at_here, at_beside, worker_wide, OwnWords, set_inside}

-- ---- bounds

pub depth_bound : (s : Settings) → in_range s.workers s.capacity s.depth ≡ true → s.depth ≤ 32
depth_bound s range = omega (arith, (range_of s.workers s.capacity s.depth range).greatest-depth)

module _ (s : Settings) where
  -- ---- the records that words name

  module _ (l : List ℕ) (enough : words_needed s ≤ length l) where
    in-pool : (r : ℕ) → r < pool_size s → record_in l (start_of s (record' r)) ≡ start_of s (record' r)
    unfolding record_in
    in-pool r h =
        let q : ℕ = start_of s (record' r) in
        if_true q 0 (le-leb (q + widest_record) (length l) (omega (arith, record_inside s r h)))

    pub held_record : (j r : ℕ) → Refers s l j r → held_by l (start_of s (worker j)) ≡ start_of s (record' r)
    unfolding held_by
    held_record j r h = ap (record_in l) h.names ∙ in-pool r h.in_pool

    pub directed_record : (a r : ℕ) → Directs s l a r → record_of l s a ≡ start_of s (record' r)
    unfolding record_of start_of
    directed_record a r h = ap (record_in l) (ap (word l) (sym (add-zero _)) ∙ h.names) ∙ in-pool r h.in_pool

  -- a worker's record is one
  pub refers_once : (l : List ℕ) (j r q : ℕ) → Refers s l j r → Refers s l j q → r ≡ q
  refers_once l j r q h k = record_starts_apart s r q (sym h.names ∙ k.names)

-- ---- the operation that a descriptor has

module _ (d : Descriptor) where
  pub account-of : account (update_from d) ≡ d.account
  unfolding update_from
  account-of =
      if_elim same (eqb d.kind kind_insert) _ _ (λ e. refl) (λ e. if_elim same (eqb d.kind kind_post) _ _ (λ e. refl) (λ e. refl))
    where
      same : Update → Type 0
      same u = account u ≡ d.account

  -- a slot's has update u with ticket t
  pub record Describes (u : Update) (t : ℕ) : Type 0 where
    pub busy : d.kind ≢ kind_none
    pub update : update_from d ≡ u
    pub account : d.account ≡ account u
    pub ticket : d.ticket ≡ t

  pub slot_describes : (u : Update) (t : ℕ) → slot_from d ≡ announced u t → Describes u t
  unfolding slot_from
  slot_describes u t =
      eq_elim (λ (o : Slot). o ≡ announced u t → Describes u t) d.kind kind_none empty (announced (update_from d) d.ticket)
      (λ e q. let z : ◌≡◌ {A = ℕ} 0 1 = cc in absurd (omega arith))
      (λ h q. let e : update_from d ≡ u = cc in record { busy = h; update = e; account = sym account-of ∙ ap account e; ticket = cc })

  data OperationOf : Option Operation → Type 0 where
    nothing : d.kind ≡ kind_none → OperationOf None
    a_lookup : d.kind ≡ kind_lookup → OperationOf (Some (lookup d.account))
    an_update : d.kind ≢ kind_none → d.kind ≢ kind_lookup → OperationOf (Some (update (update_from d)))

  operation-of : {o : Option Operation} → operation_in d ≡ o → OperationOf o
  unfolding operation_in
  operation-of e =
      subst OperationOf e
      (eq_elim OperationOf d.kind kind_none _ _ nothing (λ h. eq_elim OperationOf d.kind kind_lookup _ _ a_lookup (an_update h)))

  update_of : {u : Update} → OperationOf (Some (update u)) → (d.kind ≢ kind_none) × (d.kind ≢ kind_lookup) × (u ≡ update_from d)
  update_of (an_update h k) = (h, k, refl)

  lookup_of : {c : ℕ} → OperationOf (Some (lookup c)) → (d.kind ≡ kind_lookup) × (c ≡ d.account)
  lookup_of (a_lookup h) = (h, refl)

  none_of : OperationOf None → d.kind ≡ kind_none
  none_of (nothing h) = h

  pub is-update : {u : Update} → operation_in d ≡ Some (update u) → (d.kind ≢ kind_none) × (d.kind ≢ kind_lookup) × (u ≡ update_from d)
  is-update e = update_of (operation-of e)

  pub is_lookup : {c : ℕ} → operation_in d ≡ Some (lookup c) → (d.kind ≡ kind_lookup) × (c ≡ d.account)
  is_lookup e = lookup_of (operation-of e)

  pub is_idle : operation_in d ≡ None → d.kind ≡ kind_none
  is_idle e = none_of (operation-of e)

  pub is_busy : (o : Operation) → operation_in d ≡ Some o → d.kind ≢ kind_none
  is_busy (update u) e = (is-update e).0
  is_busy (lookup c) e = λ h. omega (arith, (is_lookup e).0)

  pub is_about : (o : Operation) → operation_in d ≡ Some o → about (Some o) ≡ d.account
  is_about (update u) e = ap account (is-update e).2 ∙ account-of
  is_about (lookup c) e = (is_lookup e).1

-- ---- the words with one step more counted

abbrev pub raised : Settings → List ℕ → ℕ → ℕ → List ℕ
raised s l w k = set l (start_of s (worker w) + worker_steps) (suc k)

module _ (s : Settings) (l : List ℕ) (enough : words_needed s ≤ length l) (w : ℕ) (wn : w < s.workers) (k : ℕ) where
  pub raised_own : OwnWords s w l (raised s l w k)
  raised_own = set_inside s l enough (worker w) wn worker_steps (suc k) (rw worker_wide (omega arith))

  pub raised_count : at s (raised s l w k) (worker w) worker_steps ≡ suc k
  raised_count = at_here s l enough (worker w) worker_steps (suc k) wn (rw worker_wide (omega arith))

  pub raised_beside : (i : ℕ) → i < worker_size s.workers → i ≢ worker_steps → at s (raised s l w k) (worker w) i ≡ at s l (worker w) i
  raised_beside i h d = at_beside s l enough (worker w) worker_steps i (suc k) wn (rw worker_wide (omega arith)) (rw worker_wide h) d

  pub raised_enough : words_needed s ≤ length (raised s l w k)
  raised_enough = simp length-set enough

-- ---- the step begins

-- the check that a worker is told with its answer, by its operation
abbrev pub check_by : Settings → Worker → Option Operation → ℕ
check_by s v None = 0
check_by s v (Some o) = check_of s v o

-- the counter of a worker by its operation
pub counter_is :
    (s : Settings) (m : Machine) (w : ℕ) {o : Operation} {pc : PC} → (m.workers w).operation ≡ Some o → (tasks_of s m w).pc ≡ pc
    → counter_of s.workers (Some o) (m.workers w).steps ≡ pc
counter_is s m w e f = sym (ap (λ o. counter_of s.workers o (m.workers w).steps) e) ∙ f

module _ (s : Settings) (range : in_range s.workers s.capacity s.depth ≡ true) (l : List ℕ) (m : Machine) (means : Meaning s l m)
    (good : Good s m) (w : ℕ) (wn : w < s.workers) where
  abbrev k : ℕ
  k = (m.workers w).steps

  abbrev p : ℕ
  p = start_of s (worker w)

  -- the worker's operation as its words have it
  abbrev asked : Descriptor
  asked = descriptor_in l (start_of s (worker w))

  step_enters : at s l (worker w) worker_kind ≢ kind_none → k < steps_range → step_in l s w ≡ operation_at l s p w k
  unfolding step_in start_of
  step_enters busy small =
      let count : word l (p + worker_steps) % steps_range ≡ k = rw (means.workers w wn).steps (mod-eq_of_lt small) in
      if_ne (word l (p + worker_kind)) kind_none _ _ busy ∙ ap (operation_at l s p w) count

  pub update_enters :
      (u : Update) (pc : PC) → (m.workers w).operation ≡ Some (update u) → (tasks_of s m w).pc ≡ pc
      → step_in l s w ≡ update_at (raised s l w (m.workers w).steps) s (start_of s (worker w)) w (m.workers w).steps (phase_of pc)
  unfolding operation_at descriptor_in
  update_enters u pc e f =
      let h = is-update asked ((means.workers w wn).operation ∙ e) in
      let limits = range_of s.workers s.capacity s.depth range in
      let few = update_under_way s range m w u wn good e in
      let at_pc : counter s.workers k ≡ pc = counter_is s m w e f in
      step_enters h.0 (omega arith) ∙ if_ne (word l (p + worker_kind)) kind_lookup _ _ h.1 ∙ rw (add-one, counter_phase, at_pc)

  pub lookup_enters :
      (a : ℕ) → (m.workers w).operation ≡ Some (lookup a)
      → step_in l s w ≡ lookup_at (raised s l w (m.workers w).steps) s (start_of s (worker w)) (m.workers w).steps
  unfolding operation_at descriptor_in
  lookup_enters a e =
      let h = is_lookup asked ((means.workers w wn).operation ∙ e) in
      let few = lookup_under_way s range m w a wn good e in
      step_enters (λ g. omega (arith, h.0)) (omega arith) ∙ if_eq (word l (p + worker_kind)) kind_lookup _ _ h.0 ∙ rw add-one

  pub idle_enters : (m.workers w).operation ≡ None → step_in l s w ≡ (l, Stepped.Refused Refusal.Idle)
  unfolding step_in descriptor_in start_of
  idle_enters e = if_eq (word l (p + worker_kind)) kind_none _ _ (is_idle asked ((means.workers w wn).operation ∙ e))

  -- the words after the step mean the machine with cells c, this worker having read x, its operation answered or not
  abbrev pub Follows : Cells → Reads → Option Answer → Type 0
  Follows c x a =
      Meaning s (step_in l s w).0 (record { cells = c; workers = assign m.workers w (counted (m.workers w) x a) })
      × ((step_in l s w).1 ≡ step_reply (suc (m.workers w).steps) (check_by s (m.workers w) (m.workers w).operation) a)

  abbrev pub Simulated : Type 0
  Simulated = Meaning s (step_in l s w).0 (step s m w).0 × ((step_in l s w).1 ≡ (step s m w).1)

  pub simulated_idle : (m.workers w).operation ≡ None → Simulated
  simulated_idle e = rw (idle_enters e, step_idle s m w wn e) (means, refl)

  -- the step is a transition of the worker's task
  pub simulated :
      (o : Operation) → (m.workers w).operation ≡ Some o
      → ((c : Cells) (k : Task) (a : Option Answer) → Transition s w m.cells (tasks_of s m w) c k a
      → (x : Reads) → task_of s.workers (counted (m.workers w) x a) ≡ k → Follows c x a)
      → Simulated
  unfolding done
  simulated o e by =
      let limits = range_of s.workers s.capacity s.depth range in
      let h = by _ _ _ (step_transition s m w o limits.least-workers e (not_over s m w wn good)) (effect_of s m w o).reads refl in
      rw (step_made s m w wn e) (h.0, h.1 ∙ ap (λ x. step_reply (suc k) (check_by s (m.workers w) x) (effect_of s m w o).answer) e)
