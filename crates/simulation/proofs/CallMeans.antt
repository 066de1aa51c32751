-- A call on words that mean a machine does to them what it does to the machine. Rests on what one worker's words have to mean.
use Prim.Native.Nat.{ℕ, zero, suc, ◌+◌, ◌^◌, ◌<◌}
use native.Mathlib.Omega.{arith}
use native.Mathlib.Numerals.{add-one}
use mathlib.Core.Path.{◌≡◌, refl, ap, ◌∙◌}
use mathlib.Core.Logic.{◌≢◌}
use mathlib.Core.Bool.{Bool, true, false, not, or-true}
use mathlib.Core.List.{List}
use Rattle.std.specs.Prelude.{Option, Some, None, Result, Ok, Err, ⊤}
use lib.Dec.{eqb, leb}
use lib.IntN.{ℤ}
use lib.ListN.{set}
use mir.Syntax.{w64}
use mir.Val.{SFits}
use mir.Facts.{to_z-of_z, Fits-of_z}
use borrow.Author.Tests.{eq-eqb, ne_eqb, lt-ltb, leb-true, leb-false}
use Rattle.interface.specs.Limits.{greatest_ticket}
use Rattle.interface.specs.Numbers.{kind_none, kind_insert, kind_delete, kind_lookup, kind_post, greatest_kind}
use Rattle.interface.specs.declared.Settings.{Settings}
use Rattle.interface.specs.declared.Refusal.{Refusal}
use Rattle.machine.specs.Choice.{when◌then◌else◌, assign}
use Rattle.machine.specs.Sequential.{Update, insert, delete, post, Operation, update, lookup}
use Rattle.machine.specs.Records.{Worker, Machine}
use Rattle.machine.specs.Calls.{operation_of, ticket_for, begun, call}
use Rattle.machine.proofs.laws.Base.{if_true, if_false}
use Rattle.machine.proofs.invariant.Counter.{counter_start}
use Rattle.machine.proofs.Openings.{call_busy, call_kind, call_spent, call_update, call_lookup}
use Rattle.machine.specs.Tasks.{counter_of}
use Rattle.rules.specs.declared.Descriptor.{Descriptor}
use Rattle.rules.specs.Rules.{descriptor_in}
use Rattle.simulation.specs.Buckets.{signed, update_from}
use Rattle.fields.specs.Fields.{worker_kind, worker_account, worker_total, worker_ticket, worker_steps, worker_toggle, worker_marks, worker_slots}
use Rattle.fields.specs.Regions.{start_of, worker}
use Rattle.layout.specs.Shape.{word}
use Rattle.calls.specs.Calls.{begun_at, update_called, lookup_called, call_in}
use Rattle.simulation.specs.Meaning.{at, operation_in, Meaning}
use Rattle.simulation.proofs.frames.Entering.{is_busy, is_idle}
use Rattle.simulation.proofs.frames.OwnWorker.{worker_means, Ready, Free, nowhere, Words, words_here, words_set, mine_means, toggle_kept, slots_kept, free}

module _ {s : Settings} {l : List ℕ} {m : Machine} {w : ℕ} (ready : Ready s l m w) where
  abbrev pub p : ℕ
  p = start_of s (worker w)

  module _ (u : Descriptor) where
    -- worker w's words with the operation begun
    begun_as : ℕ → ℕ
    begun_as =
        let called : ℕ → ℕ = assign (assign (at s l (worker w)) worker_kind u.kind) worker_account u.account in
        assign (assign (assign called worker_total u.total) worker_ticket u.ticket) worker_steps 0

    begun_words : Words s w l (begun_at l p u) begun_as
    unfolding begun_at begun_as
    begun_words =
        next worker_steps 0 (omega arith) (next worker_ticket u.ticket (omega arith) (next worker_total u.total (omega arith)
        (next worker_account u.account (omega arith) (next worker_kind u.kind (omega arith) (words_here s w l)))))
      where
        next : {l' : List ℕ} {f : ℕ → ℕ} (i x : ℕ) → i < worker_slots → Words s w l l' f → Words s w l (set l' (p + i) x) (assign f i x)
        next i x b h = words_set s w ready.known l ready.means.lent _ _ h i x b

    -- the words of an accepted call mean the machine with the operation begun
    begun_means :
        (o : Operation) → operation_in u ≡ Some o → u.account < 2 ^ 32 → u.total < 2 ^ 64 → u.ticket ≡ ticket_for (m.workers w) o
        → Free (counter_of s.workers (Some o) 0) → Meaning s (begun_at l p u) (begun m w o)
    unfolding begun begun_as assign when◌then◌else◌ descriptor_in
    begun_means o e narrow fits ticket free-there =
        let l' : List ℕ = begun_at l p u in
        let words = begun_words in
        let same : descriptor_in l' p ≡ u = λ i. record {
          kind = words.are worker_kind (omega arith) i;
          account = words.are worker_account (omega arith) i;
          total = words.are worker_total (omega arith) i;
          ticket = words.are worker_ticket (omega arith) i;
        } in
        let v : Worker = record { last = ticket_for (m.workers w) o; operation = Some o; steps = 0; reads = (m.workers w).reads } in
        mine_means ready l' v _ refl words.own
        (record {
          operation = ap operation_in same ∙ e;
          narrow = rw (words.are worker_account (omega arith)) narrow;
          fits = rw (words.are worker_total (omega arith)) fits;
          ticket = words.are worker_ticket (omega arith) ∙ ticket;
          steps = words.are worker_steps (omega arith);
        })
        (toggle_kept ready l' (words.are worker_toggle (omega arith))) (slots_kept ready l' words.late)
        (free ready l' _ _ free-there (words.are worker_marks (omega arith)))

  -- what is answered, and what the words mean then
  abbrev pub Alike : List ℕ × Result ⊤ Refusal → Machine × Result ⊤ Refusal → Type 0
  Alike x y = Meaning s x.0 y.0 × (x.1 ≡ y.1)

  module _ (kind a : ℕ) (v : ℤ) where
    abbrev pub Answers : Type 0
    Answers = Alike (call_in l p kind a v) (call s m w kind a v)

    alike : {x : List ℕ × Result ⊤ Refusal} {y : Machine × Result ⊤ Refusal} → call_in l p kind a v ≡ x → call s m w kind a v ≡ y → Alike x y → Answers
    alike e f h = rw (e, f) h

    busy_answers : (o : Operation) → (m.workers w).operation ≡ Some o → Answers
    unfolding call_in descriptor_in
    busy_answers o e =
        let h : word l (p + worker_kind) ≢ kind_none = is_busy (descriptor_in l p) o ((worker_means ready).operation ∙ e) in
        alike (if_true _ _ (ap not (ne_eqb (word l (p + worker_kind)) kind_none h))) (call_busy s m w kind a v ready.known e)
        (ready.means, refl)

    module _ (idle : (m.workers w).operation ≡ None) where
      idle_word : eqb (word l (p + worker_kind)) kind_none ≡ true
      unfolding descriptor_in
      idle_word = eq-eqb (word l (p + worker_kind)) kind_none (is_idle (descriptor_in l p) ((worker_means ready).operation ∙ idle))

      last : word l (p + worker_ticket) ≡ (m.workers w).last
      last = (worker_means ready).ticket

      abbrev before : ℕ
      before = word l (p + worker_ticket)

      abbrev called : Descriptor
      called = update_called kind a v before

      -- an insert, a delete or a post
      update_answers :
          (u : Update) → operation_of kind a v ≡ Some (update u) → operation_in called ≡ Some (update u) → a < 2 ^ 32 → called.total < 2 ^ 64
          → call_in l p kind a v ≡ (
          when leb greatest_ticket before then (l, Err Refusal.Spent) else (begun_at l p called, Ok tt))
          → Answers
      unfolding ticket_for
      update_answers u e f narrow fits g = go (leb greatest_ticket before) refl
        where
          go : (b : Bool) → leb greatest_ticket before ≡ b → Answers
          go true h =
              let many = leb-true greatest_ticket before h in
              alike (g ∙ if_true _ _ h) (call_spent s m w kind a v ready.known idle e (omega (arith, last))) (ready.means, refl)
          go false h =
              let less = leb-false greatest_ticket before h in
              alike (g ∙ if_false _ _ h) (call_update s m w kind a v ready.known idle e (omega (arith, last)))
              (begun_means called (update u) f narrow fits (add-one _ ∙ ap suc last) (rw counter_start nowhere), refl)

  -- a worker without operation, by the kind
  idle_answers : (m.workers w).operation ≡ None → (kind a : ℕ) (v : ℤ) → a < 2 ^ 32 → SFits w64 v → Answers kind a v
  unfolding call_in operation_of operation_in update_from signed when◌then◌else◌ ticket_for
  idle_answers idle zero a v narrow fits =
      alike zero a v (rw (idle_word zero a v idle))
      (call_kind s m w zero a v ready.known idle (λ e. omega arith) (λ e. omega arith) (λ e. omega arith) (λ e. omega arith))
      (ready.means, refl)
  idle_answers idle (suc zero) a v narrow fits =
      update_answers kind_insert a v idle (insert a v) refl (rw (to_z-of_z fits)) narrow (Fits-of_z fits).fits
      (rw (idle_word kind_insert a v idle))
  idle_answers idle (suc (suc zero)) a v narrow fits =
      update_answers kind_delete a v idle (delete a) refl refl narrow (omega arith) (rw (idle_word kind_delete a v idle))
  idle_answers idle (suc (suc (suc zero))) a v narrow fits =
      alike kind_lookup a v (rw (idle_word kind_lookup a v idle)) (call_lookup s m w kind_lookup a v ready.known idle refl) (
        begun_means (lookup_called a (before kind_lookup a v idle)) (lookup a) refl narrow (omega arith) (last kind_lookup a v idle) nowhere,
        refl,
      )
  idle_answers idle (suc (suc (suc (suc zero)))) a v narrow fits =
      update_answers kind_post a v idle (post a v) refl (rw (to_z-of_z fits)) narrow (Fits-of_z fits).fits
      (rw (idle_word kind_post a v idle))
  idle_answers idle (suc (suc (suc (suc (suc k))))) a v narrow fits =
      let kind : ℕ = suc (suc (suc (suc (suc k)))) in
      alike kind a v (rw (idle_word kind a v idle, lt-ltb greatest_kind kind (omega arith), or-true))
      (call_kind s m w kind a v ready.known idle (λ e. omega arith) (λ e. omega arith) (λ e. omega arith) (λ e. omega arith))
      (ready.means, refl)

  -- a call with an account of 32 bits and a total of 64
  pub call_means : (kind a : ℕ) (v : ℤ) → a < 2 ^ 32 → SFits w64 v → Answers kind a v
  call_means kind a v narrow fits = by (m.workers w).operation refl
    where
      by : (o : Option Operation) → (m.workers w).operation ≡ o → Answers kind a v
      by (Some o) e = busy_answers kind a v o e
      by None e = idle_answers e kind a v narrow fits
