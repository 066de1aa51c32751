-- The steps that may end an operation: a lookup's second step and the check. Rests on what is found in a bucket record's words.
use Prim.Native.Nat.{ℕ, zero, suc, ◌+◌}
use native.Mathlib.Omega.{arith}
use native.Mathlib.Numerals.{add-one}
use mathlib.Core.Path.{◌≡◌, refl, ap, ap₂, sym, ◌∙◌, subst⁻¹}
use mathlib.Core.List.{List}
use Rattle.std.specs.Prelude.{Option, Some, None}
use lib.ListN.{set}
use Rattle.interface.specs.Numbers.{kind_none}
use Rattle.interface.proofs.Laws.{range_of}
use Rattle.interface.specs.declared.Settings.{Settings}
use Rattle.interface.specs.declared.Answer.{Answer}
use Rattle.machine.specs.Choice.{when◌then◌else◌, assign}
use Rattle.machine.specs.Sequential.{Operation, lookup, find, looked}
use Rattle.machine.specs.Records.{Reads, Machine}
use Rattle.machine.specs.Plan.{check_number}
use Rattle.machine.specs.Steps.{counted, check_of, step_reply}
use Rattle.machine.specs.BucketPass.{checked}
use Rattle.machine.proofs.laws.Base.{if_eq}
use Rattle.machine.specs.Passed.{HoldsBucket}
use Rattle.machine.specs.Counter.{Two, one, two, idle, look₂, check_s}
use Rattle.machine.proofs.invariant.Counter.{after_c}
use Rattle.machine.specs.Tasks.{Task, about, target, held, task_of, tasks_of, lookup_counter}
use Rattle.machine.proofs.invariant.Inv.{body, Looking}
use Rattle.machine.proofs.invariant.Transitions.{ended_task}
use Rattle.rules.specs.declared.Descriptor.{Descriptor}
use Rattle.rules.specs.Rules.{descriptor_in}
use Rattle.fields.specs.Fields.{worker_kind, worker_account, worker_total, worker_ticket, worker_steps, worker_toggle, worker_marks}
use Rattle.fields.specs.Regions.{start_of, worker}
use Rattle.layout.specs.Shape.{word}
use Rattle.layout.specs.Addresses.{held_by}
use Rattle.turns.specs.Turns.{step_in}
use Rattle.lookups.specs.Lookups.{lookup_at, looked_at}
use Rattle.updates.specs.Updates.{checked_at, update_at, check_at}
use Rattle.calls.specs.Calls.{ended_at}
use Rattle.simulation.specs.Meaning.{at, operation_in}
use Rattle.simulation.proofs.frames.Entering.{raised, check_by, counter_is, is_about, lookup_enters}
use Rattle.simulation.proofs.own.Answering.{looked_is, checked_is}
use Rattle.simulation.proofs.frames.OwnWorker.{worker_means, nowhere, Ready, Next, Words, Free, words_here, words_set, mine_means, slots_kept, toggle_kept, Onward, enough₁, beside₁, free, mine, at_mine, keeps₁, announced-at, plan_step, stays}

operation_none : (d : Descriptor) → d.kind ≡ kind_none → operation_in d ≡ None
unfolding operation_in
operation_none d e = if_eq d.kind kind_none _ _ e

-- a lookup at its second step
look_second : (i : ℕ) → lookup_counter i ≡ look₂ → i ≡ 1
look_second zero e = let z : ◌≡◌ {A = ℕ} 0 1 = cc in absurd (omega arith)
look_second (suc zero) e = refl
look_second (suc (suc i)) e = let z : ◌≡◌ {A = ℕ} 0 1 = cc in absurd (omega arith)

module _ {s : Settings} {l : List ℕ} {m : Machine} {w : ℕ} (ready : Ready s l m w) where
  abbrev k : Task
  k = tasks_of s m w

  abbrev me : ℕ
  me = start_of s (worker w)

  -- the words once the step is counted
  abbrev l₁ : List ℕ
  l₁ = raised s l w (m.workers w).steps

  -- ---- a step that ends the operation

  -- the words after it mean the machine whose worker is idle again
  abbrev pub Ends : Answer → Type 0
  Ends a =
      (y : Reads) → task_of s.workers (counted (m.workers w) y (Some a)) ≡ ended_task (tasks_of s m w) (m.workers w).reads
      → Next ready m.cells y (Some a)

  -- told at check c, which is that of its operation
  ends :
      (a : Answer) (c : ℕ) → check_by s (m.workers w) (m.workers w).operation ≡ c
      → step_in l s w ≡ ended_at l₁ me (m.workers w).steps c a → Ends a
  unfolding ended_at counted step_reply assign when◌then◌else◌ descriptor_in
  ends a c told e y g =
      let read : y ≡ k.reads = ap (λ (q : Task). q.reads) g in
      rw (e, read, add-one, told) (
        mine_means ready l₂ (record { last = (m.workers w).last; operation = None; steps = 0; reads = k.reads }) idle refl words.own
            (record {
              operation = operation_none _ (words.are worker_kind (omega arith));
              narrow = rw (words.are worker_account (omega arith)) (worker_means ready).narrow;
              fits = rw (words.are worker_total (omega arith)) (worker_means ready).fits;
              ticket = words.are worker_ticket (omega arith) ∙ (worker_means ready).ticket;
              steps = words.are worker_steps (omega arith);
            })
            (toggle_kept ready l₂ (words.are worker_toggle (omega arith))) (slots_kept ready l₂ words.late)
            (free ready l₂ _ idle nowhere (words.are worker_marks (omega arith))),
        refl,
      )
    where
      l₂ : List ℕ
      l₂ = set (set l₁ (me + worker_kind) kind_none) (me + worker_steps) 0

      f₁ : ℕ → ℕ
      f₁ = assign (at s l (worker w)) worker_steps (suc (m.workers w).steps)

      words₁ : Words s w l l₁ f₁
      words₁ = words_set s w ready.known l ready.means.lent l _ (words_here s w l) worker_steps _ (omega arith)

      words₂ : Words s w l (set l₁ (me + worker_kind) kind_none) (assign f₁ worker_kind kind_none)
      words₂ = words_set s w ready.known l ready.means.lent l₁ _ words₁ worker_kind kind_none (omega arith)

      words : Words s w l l₂ (assign (assign f₁ worker_kind kind_none) worker_steps 0)
      words = words_set s w ready.known l ready.means.lent _ _ words₂ worker_steps 0 (omega arith)

  target_is : (o : Operation) → (m.workers w).operation ≡ Some o → target k ≡ at s l (worker w) worker_account
  unfolding descriptor_in
  target_is o e = ap about e ∙ is_about (descriptor_in l me) o ((worker_means ready).operation ∙ e)

  -- what the machine finds
  abbrev pub sought : Answer
  sought = let k = tasks_of s m w in looked (find (body m.cells (held k)).items (target k))

  pub finds_means : k.pc ≡ look₂ → Ends sought
  unfolding lookup_at check_of
  finds_means e =
      ends sought 0 (ap (check_by s (m.workers w)) a.asks)
      (lookup_enters s ready.range l m ready.means ready.good w ready.known a.wanted a.asks ∙ go)
    where
      a : Looking s m.cells w k
      a = announced-at ready look₂ e

      h : HoldsBucket k.pc
      h = subst⁻¹ HoldsBucket e tt

      second : (m.workers w).steps ≡ 1
      second = look_second _ (counter_is s m w a.asks e)

      asked : word l₁ (me + worker_account) ≡ target k
      asked =
          beside₁ ready worker_account (omega arith) (λ g. omega arith) ∙ sym (target_is (lookup a.wanted) a.asks)

      answer : looked_at l₁ s (held_by l₁ me) (word l₁ (me + worker_account)) ≡ sought
      answer =
          let limits = range_of s.workers s.capacity s.depth ready.range in
          ap₂ (looked_at l₁ s) (at_mine ready h) asked
          ∙ looked_is s (omega arith) (omega arith) l₁ (mine ready h).0 _ (keeps₁ ready h) (enough₁ ready) (mine ready h).1.in_pool
          (target k)

      go : lookup_at l₁ s me (m.workers w).steps ≡ ended_at l₁ me (m.workers w).steps 0 sought
      go = ap (lookup_at l₁ s me) second ∙ ap (ended_at l₁ me 1 0) answer ∙ ap (λ (i : ℕ). ended_at l₁ me i 0 sought) (sym second)

  -- ---- the check

  module _ (p x : Two) (e : k.pc ≡ check_s p x) where
    abbrev number : ℕ
    number = check_number s.workers (m.workers w).steps

    abbrev found : Option Answer
    found = checked_at l₁ s me (held_by l₁ me) w

    check_enters : step_in l s w ≡ check_at l₁ me (m.workers w).steps number found
    unfolding update_at
    check_enters = plan_step ready (check_s p x) (announced-at ready (check_s p x) e) e

    check_finds : found ≡ checked w k.ticket (body m.cells (held k))
    check_finds =
        let h : HoldsBucket k.pc = subst⁻¹ HoldsBucket e tt in
        let limits = range_of s.workers s.capacity s.depth ready.range in
        rw (at_mine ready h) (checked_is s (omega arith) (omega arith) l₁ (mine ready h).0 _ (keeps₁ ready h) w ready.known _ _
        (beside₁ ready worker_ticket (omega arith) (λ g. omega arith) ∙ (worker_means ready).ticket))

    pub answers_means :
        (a : Answer) → checked w k.ticket (body m.cells (held k)) ≡ Some a → Ends a
    unfolding check_at check_of
    answers_means a q =
        ends a number (ap (check_by s (m.workers w)) (announced-at ready (check_s p x) e).asks)
        (check_enters ∙ ap (check_at l₁ me (m.workers w).steps number) (check_finds ∙ q))

    pub passes_means :
        checked w k.ticket (body m.cells (held k)) ≡ None → Onward ready (after_c p x) k.reads
    unfolding check_at
    passes_means q =
        stays ready (after_c p x) (λ z. absurd ((nothing p x).0 z)) (nothing p x).1 (nothing p x).2
        (check_enters ∙ ap (check_at l₁ me (m.workers w).steps number) (check_finds ∙ q))
      where
        nothing : (p x : Two) → Free (after_c p x)
        nothing p one = nowhere
        nothing one two = nowhere
        nothing two two = nowhere
