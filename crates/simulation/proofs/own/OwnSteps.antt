-- The steps that change only the worker's own words and go on: the words after each mean the machine after its transition.
-- Rests on what one worker's words have to mean.
use Prim.Native.Nat.{ℕ, zero, suc, ◌+◌, ◌*◌, ◌≤◌, ◌<◌}
use native.Mathlib.Omega.{arith}
use native.Mathlib.Nat.{add_assoc}
use native.Mathlib.Decide.{ℕ_discrete, dec_lt}
use mathlib.Core.Path.{◌≡◌, refl, ap, sym, ◌∙◌, subst, subst⁻¹}
use mathlib.Core.Logic.{◌≢◌, by_cases}
use mathlib.Core.List.{List}
use Rattle.std.specs.Prelude.{Some}
use lib.ListN.{length, set}
use lib.Pow.{pow_pos}
use Rattle.interface.specs.declared.Settings.{Settings}
use Rattle.interface.specs.declared.Stepped.{Stepped}
use Rattle.machine.specs.Choice.{assign}
use Rattle.machine.specs.Sequential.{Update, Operation, update, lookup}
use Rattle.machine.specs.Records.{Worker, Slot, Machine}
use Rattle.machine.specs.Steps.{with_directory, with_state, with_toggle, with_slot, with_copy}
use Rattle.machine.specs.DirectoryPass.{copy_of, leaf_of}
use Rattle.machine.proofs.laws.Base.{if_ne, assign_at, assign_elim}
use Rattle.machine.specs.Passed.{HoldsBucket, PastState}
use Rattle.machine.proofs.invariant.Counter as Counter
use Rattle.machine.proofs.invariant.Counter.{counter_in_range, after_b, after_d}
use Rattle.machine.specs.Counter.{Two, one, two, BStep, DStep, read_s, read_t, swap, slot_b, copy_d, swap_d, slot_d, PC, look₁, look₂, read_d, flip, check_d, check_s, in_b, in_d}
use Rattle.machine.specs.Tasks.{Task, IsMade, about, leaf, held, DirectoryFresh, tasks_of, lookup_counter, own}
use Rattle.machine.proofs.invariant.Inv.{ReadFacts, Looking, Fresh, Announced}
use Rattle.rules.specs.Rules.{bit, descriptor_in}
use Rattle.simulation.specs.Buckets.{bits_of, slot_from}
use Rattle.lists.specs.Parts.{part, overlay}
use Rattle.fields.specs.Fields.{header_number, slot_kind, slot_account, slot_total, slot_ticket, slot_size, worker_account, worker_steps, worker_held, worker_state, worker_toggle, worker_directory, worker_marks, worker_slots, record_toggle, record_number}
use Rattle.fields.specs.Regions.{slot_at, slot_read, read_at, record', start_of, region_size, slot, worker}
use Rattle.lists.proofs.PartLaws.{length_part, get_d_part}
use Rattle.fields.proofs.Regions.{region_inside}
use Rattle.layout.specs.Shape.{word}
use Rattle.layout.specs.Addresses.{record_of, held_by, bucket_read_at}
use Rattle.engine.specs.Engine.{state_read_at, toggle_read_at, slot_read_at, directory_read_at}
use Rattle.swaps.specs.BucketSwap.{swapped_at}
use Rattle.directory.specs.Directory.{redirected_at}
use Rattle.turns.specs.Turns.{step_in}
use Rattle.lookups.specs.Lookups.{lookup_at}
use Rattle.updates.specs.Updates.{update_at}
use Rattle.simulation.specs.Meaning.{at, slot_in, name_in, Directs, Refers, Live, current, HasState, HasDirectory}
use Rattle.simulation.proofs.frames.Entering.{raised, counter_is, directed_record, refers_once, is_about, lookup_enters}
use Rattle.simulation.proofs.frames.Frames.{inside_trans, worker_wide, record_wide, descriptor_near, own_head, own_entry, directs_same, slot_wide, own_slot, overlay_inside, over_before, over_behind, over_here}
use Rattle.simulation.proofs.frames.WordBits.{bit_zero}
use Rattle.simulation.proofs.frames.OwnWorker.{worker_means, Ready, Changed, SeenSlots, work_directory, changed₁, word_changed, put_here, put_beside, read_near, slots_before, slots_kept, toggle_kept, going, Onward, goes-on, enough₁, own₁, beside₁, held_kept, live_kept, number_kept, directory_kept, few_kept, refers_back, one_word, word_here, mine, word_mine, keeps_mine, announced-at, plan_step, stays}

-- the steps that a lookup has made, by its counter
look_first : (i : ℕ) → lookup_counter i ≡ look₁ → i ≡ 0
look_first zero e = refl
look_first (suc zero) e = let z : ◌≡◌ {A = ℕ} 0 1 = cc in absurd (omega arith)
look_first (suc (suc i)) e = let z : ◌≡◌ {A = ℕ} 0 1 = cc in absurd (omega arith)

module _ {s : Settings} {l : List ℕ} {m : Machine} {w : ℕ} (ready : Ready s l m w) where
  abbrev k : Task
  k = tasks_of s m w

  abbrev me : ℕ
  me = start_of s (worker w)

  -- the words once the step is counted
  abbrev l₁ : List ℕ
  l₁ = raised s l w (m.workers w).steps

  -- the directory is read: looks, reads_d, checks_d
  reads_directory :
      (o : Operation) → (m.workers w).operation ≡ Some o → (pc : PC) → (HasState pc → ⊥) → (HasDirectory pc → ⊥)
      → step_in l s w ≡ (bucket_read_at l₁ s me, Stepped.Moved)
      → Onward ready pc (with_directory k.reads m.cells.directory)
  unfolding bucket_read_at with_directory descriptor_in
  reads_directory o e pc no_state no_directory moved =
      goes-on ready l₂ worker_held (suc worker_held) pc _ moved changed
      (toggle_kept ready l₂ (changed.behind worker_toggle (omega arith) (omega arith)))
      (slots_kept ready l₂ (λ i h. changed.behind i (omega arith)))
      (record {
        held = λ h. (D.0, refers, D.2 ∙ ap (leaf m.cells) (sym about_a));
        live = λ h r x. subst (Live s l m) (refers_once s l₂ w D.0 r refers x) (current a D.1);
        number = λ h. absurd (no_state h);
        directory = λ h. absurd (no_directory h);
        few = few_kept ready l₂ (changed.behind worker_marks (omega arith) (omega arith));
        unmarked = λ h. absurd (no_directory h);
        marks = λ h. absurd (no_directory (work_directory pc h));
      })
    where
      v : ℕ
      v = record_of l₁ s (word l₁ (me + worker_account))

      l₂ : List ℕ
      l₂ = set l₁ (me + worker_held) v

      changed : Changed s l w (m.workers w).steps l₂ worker_held (suc worker_held)
      changed = one_word ready worker_held v (omega arith) (omega arith)

      a : ℕ
      a = at s l (worker w) worker_account

      about_a : about (m.workers w).operation ≡ a
      about_a = ap about e ∙ is_about (descriptor_in l me) o ((worker_means ready).operation ∙ e)

      D : (r : ℕ) × Directs s l a r × (name_in s l r ≡ leaf m.cells a)
      D = ready.means.directory a

      refers : Refers s l₂ w D.0
      refers =
          record {
            in_pool = D.1.in_pool;
            names =
                word_here ready worker_held v (omega arith)
                ∙ ap (record_of l₁ s) (beside₁ ready worker_account (omega arith) (λ g. omega arith))
                ∙ directed_record s l₁ (enough₁ ready) a D.0 (directs_same s l l₁ a D.0 (own_entry (own₁ ready) a) D.1);
          }

  -- ---- the bucket pass

  pub reads_s_means :
      (p r : Two) → k.pc ≡ in_b p r read_s → Onward ready (in_b p r read_t) (with_state k.reads (own m.cells k).state)
  unfolding update_at state_read_at with_state
  reads_s_means p r e =
      goes-on ready l₂ worker_state (suc worker_state) (in_b p r read_t) _ (plan_step ready _ a e) changed
      (toggle_kept ready l₂ (changed.behind worker_toggle (omega arith) (omega arith)))
      (slots_kept ready l₂ (λ i h. changed.behind i (omega arith)))
      (record {
        held = λ x. held_kept ready l₂ held_same h;
        live = λ x. live_kept ready l₂ held_same h;
        number = λ x q y. record {
          to = λ z. refl;
          from = λ z. number q (refers_once s l w (mine ready h).0 q (mine ready h).1 (refers_back ready l₂ held_same q y));
        };
        directory = λ x. absurd x;
        few = few_kept ready l₂ (changed.behind worker_marks (omega arith) (omega arith));
        unmarked = λ x. absurd x;
        marks = λ x. absurd x;
      })
    where
      a : Announced s m.cells w k
      a = announced-at ready (in_b p r read_s) e

      h : HoldsBucket k.pc
      h = subst⁻¹ HoldsBucket e tt

      v : ℕ
      v = word l₁ (held_by l₁ me + record_number)

      l₂ : List ℕ
      l₂ = set l₁ (me + worker_state) v

      changed : Changed s l w (m.workers w).steps l₂ worker_state (suc worker_state)
      changed = one_word ready worker_state v (omega arith) (omega arith)

      held_same : at s l₂ (worker w) worker_held ≡ at s l (worker w) worker_held
      held_same = changed.before worker_held (omega arith) (omega arith)

      number : (q : ℕ) → (mine ready h).0 ≡ q → at s l₂ (worker w) worker_state ≡ at s l (record' q) record_number
      number q g =
          word_here ready worker_state v (omega arith) ∙ word_mine ready h record_number (rw record_wide (omega arith))
          ∙ ap (λ (o : ℕ). at s l (record' o) record_number) g

  pub reads_t_means :
      (p r : Two) → k.pc ≡ in_b p r read_t → Onward ready (in_b p r (slot_b 0)) (with_toggle k.reads (own m.cells k).toggle)
  unfolding update_at toggle_read_at with_toggle
  reads_t_means p r e =
      goes-on ready l₂ worker_toggle (suc worker_toggle) (in_b p r (slot_b 0)) _ (plan_step ready _ a e) changed
      (λ i b. ap (λ (x : ℕ). bits_of x i) toggle_read ∙ (keeps_mine ready h).toggle i b)
      (slots_kept ready l₂ (λ i b. changed.behind i (omega arith)))
      (record {
        held = λ x. held_kept ready l₂ held_same h;
        live = λ x. live_kept ready l₂ held_same h;
        number = λ x. number_kept ready l₂ held_same (changed.before worker_state (omega arith) (omega arith)) (subst⁻¹ HasState e tt);
        directory = λ x. absurd x;
        few = few_kept ready l₂ (changed.behind worker_marks (omega arith) (omega arith));
        unmarked = λ x. absurd x;
        marks = λ x. absurd x;
      })
    where
      a : Announced s m.cells w k
      a = announced-at ready (in_b p r read_t) e

      h : HoldsBucket k.pc
      h = subst⁻¹ HoldsBucket e tt

      v : ℕ
      v = word l₁ (held_by l₁ me + record_toggle)

      l₂ : List ℕ
      l₂ = set l₁ (me + worker_toggle) v

      changed : Changed s l w (m.workers w).steps l₂ worker_toggle (suc worker_toggle)
      changed = one_word ready worker_toggle v (omega arith) (omega arith)

      held_same : at s l₂ (worker w) worker_held ≡ at s l (worker w) worker_held
      held_same = changed.before worker_held (omega arith) (omega arith)

      toggle_read : at s l₂ (worker w) worker_toggle ≡ at s l (record' (mine ready h).0) record_toggle
      toggle_read = word_here ready worker_toggle v (omega arith) ∙ word_mine ready h record_toggle (rw record_wide (omega arith))

  -- ---- slot i is read

  module _ (i : ℕ) (b : i < s.workers) where
    xs : List ℕ
    xs = part l₁ (slot_at i) slot_size

    abbrev l₂ : List ℕ
    l₂ = slot_read_at l₁ me i

    slot-read : l₂ ≡ overlay l₁ (me + (slot_read i)) xs
    unfolding slot_read_at xs
    slot-read = ap (λ (q : ℕ). overlay l₁ q (part l₁ (slot_at i) slot_size)) (add_assoc me worker_slots (slot_size * i))

    xs_length : length xs ≡ slot_size
    unfolding xs start_of
    xs_length = length_part l₁ (slot_at i) slot_size (omega (arith, region_inside s (slot i) b, enough₁ ready, slot_wide s i))

    inside : slot_read i + length xs ≤ region_size s (worker w)
    inside = rw (xs_length, worker_wide) (omega arith)

    slot_changed : Changed s l w (m.workers w).steps l₂ (slot_read i) (slot_read i + slot_size)
    slot_changed =
        let c = changed₁ ready in
        rw slot-read (record {
          own = inside_trans (own₁ ready) (overlay_inside s l₁ (enough₁ ready) (worker w) ready.known (slot_read i) xs inside);
          call = λ o h. over_before s l₁ (enough₁ ready) (worker w) ready.known (slot_read i) xs inside o (omega arith) ∙ c.call o h;
          count = over_before s l₁ (enough₁ ready) (worker w) ready.known (slot_read i) xs inside worker_steps (omega arith) ∙ c.count;
          before =
              λ o h g. over_before s l₁ (enough₁ ready) (worker w) ready.known (slot_read i) xs inside o g ∙ c.behind o h (omega arith);
          behind =
              λ o h g. over_behind s l₁ (enough₁ ready) (worker w) ready.known (slot_read i) xs inside o (rw xs_length h)
              ∙ c.behind o (omega arith) g;
        })

    -- word o of the slot
    read_word : (o : ℕ) → o < slot_size → at s l₂ (worker w) (slot_read i + o) ≡ at s l (slot i) o
    unfolding xs start_of
    read_word o h =
        rw slot-read (over_here s l₁ (enough₁ ready) (worker w) ready.known (slot_read i) xs inside o (rw xs_length h))
        ∙ get_d_part l₁ (slot_at i) slot_size o h ∙ own_slot (own₁ ready) i b o (rw slot_wide h)

    slot-word : (o : ℕ) → o < slot_size → word l₂ (read_at me i + o) ≡ at s l (slot i) o
    slot-word o h = let e : read_at me i + o ≡ me + (slot_read i + o) = omega arith in ap (word l₂) e ∙ read_word o h

    slot_whole : descriptor_in l₂ (read_at me i) ≡ descriptor_in l (start_of s (slot i))
    unfolding descriptor_in
    slot_whole = λ q. record {
      kind = slot-word slot_kind (omega arith) q;
      account = slot-word slot_account (omega arith) q;
      total = slot-word slot_total (omega arith) q;
      ticket = slot-word slot_ticket (omega arith) q;
    }

    -- of the other slots
    slot_beside : (j : ℕ) → j < s.workers → j ≢ i → (o : ℕ) → o < slot_size → word l₂ (read_at me j + o) ≡ word l (read_at me j + o)
    slot_beside j h d = read_near s l l₂ w j
        (λ o x y. by_cases (dec_lt j i) (λ g. slot_changed.before o (omega arith) (omega arith))
        (λ g. slot_changed.behind o (omega (arith, d)) (omega arith)))

    slot_seen : SeenSlots s w l₂ (assign k.reads.slots i (m.cells.slots i))
    slot_seen =
        let y = slots_before ready in
        record {
          slots = λ j h. assign_elim (λ (x : Slot). slot_in l₂ (read_at me j) ≡ x) k.reads.slots i _ j
              (λ e. rw e (ap slot_from slot_whole ∙ ready.means.slots i b))
              (λ e. ap slot_from (descriptor_near s l l₂ (read_at me j) (slot_beside j h e)) ∙ y.slots j h);
          narrow = λ j h. by_cases (ℕ_discrete j i) (λ e. rw (e, slot-word slot_account (omega arith)) (ready.means.narrow i b))
              (λ e. rw (slot_beside j h e slot_account (omega arith)) (y.narrow j h));
          fits = λ j h. by_cases (ℕ_discrete j i) (λ e. rw (e, slot-word slot_total (omega arith)) (ready.means.fits i b))
              (λ e. rw (slot_beside j h e slot_total (omega arith)) (y.fits j h));
          quiet = λ j h. by_cases (ℕ_discrete j i)
              (λ e. rw (e, slot-word slot_kind (omega arith), slot-word slot_ticket (omega arith)) (ready.means.quiet i b))
              (λ e. let same = slot_beside j h e in rw (same slot_kind (omega arith), same slot_ticket (omega arith)) (y.quiet j h));
        }

  step_in_range : {u : Update} → (m.workers w).operation ≡ Some (update u) → {pc : PC} → k.pc ≡ pc → Counter.StepInRange s.workers pc
  step_in_range e f =
      subst (Counter.StepInRange s.workers) (counter_is s m w e f) (counter_in_range s.workers (m.workers w).steps)

  -- slots_b, last_b
  pub slot_b_means :
      (p r : Two) (i : ℕ) (x : BStep) → k.pc ≡ in_b p r (slot_b i) → Onward ready (in_b p r x) (with_slot k.reads i (m.cells.slots i))
  unfolding update_at with_slot
  slot_b_means p r i x e =
      goes-on ready (l₂ i b) (slot_read i) (slot_read i + slot_size) (in_b p r x) _ (plan_step ready _ a e) changed
      (toggle_kept ready (l₂ i b) (changed.before worker_toggle (omega arith) (omega arith))) (slot_seen i b)
      (record {
        held = λ q. held_kept ready (l₂ i b) held_same (subst⁻¹ HoldsBucket e tt);
        live = λ q. live_kept ready (l₂ i b) held_same (subst⁻¹ HoldsBucket e tt);
        number =
            λ q. number_kept ready (l₂ i b) held_same (changed.before worker_state (omega arith) (omega arith)) (subst⁻¹ HasState e tt);
        directory = λ q. absurd q;
        few = few_kept ready (l₂ i b) (changed.before worker_marks (omega arith) (omega arith));
        unmarked = λ q. absurd q;
        marks = λ q. absurd q;
      })
    where
      a : Announced s m.cells w k
      a = announced-at ready (in_b p r (slot_b i)) e

      b : i < s.workers
      b = step_in_range a.asks e

      changed : Changed s l w (m.workers w).steps (l₂ i b) (slot_read i) (slot_read i + slot_size)
      changed = slot_changed i b

      held_same : at s (l₂ i b) (worker w) worker_held ≡ at s l (worker w) worker_held
      held_same = changed.before worker_held (omega arith) (omega arith)

  -- ---- a swap that fails

  pub misses_means :
      (p r : Two) → k.pc ≡ in_b p r swap → (Fresh m.cells k → ⊥) → Onward ready (after_b p r) k.reads
  unfolding update_at swapped_at
  misses_means p r e stale = by r
    where
      h : HoldsBucket k.pc
      h = subst⁻¹ HoldsBucket e tt

      differ : word l₁ (me + worker_state) ≢ word l₁ (held_by l₁ me + record_number)
      differ g =
          let state_same = beside₁ ready worker_state (omega arith) (λ g. omega arith) in
          let held_same = word_mine ready h record_number (rw record_wide (omega arith)) in
          stale (((worker_means ready).number (subst⁻¹ HasState e tt) (mine ready h).0 (mine ready h).1).to
          (sym state_same ∙ g ∙ held_same))

      a : Announced s m.cells w k
      a = announced-at ready (in_b p r swap) e

      moved : step_in l s w ≡ (l₁, Stepped.Moved)
      moved = plan_step ready _ a e ∙ ap (λ (q : List ℕ). (q, Stepped.Moved)) (if_ne _ _ _ _ differ)

      by : (r : Two) → Onward ready (after_b p r) k.reads
      by one = stays ready (in_b p two read_s) (λ q. h) (λ q. q) (λ q. q) moved
      by two = stays ready (check_d p one) (λ q. absurd q) (λ q. q) (λ q. q) moved

  pub misses_d_means :
      (p r : Two) → k.pc ≡ in_d p r swap_d → (DirectoryFresh m.cells k → ⊥) → Onward ready (after_d p r) k.reads
  unfolding update_at redirected_at
  misses_d_means p r e stale = by r
    where
      differ : word l₁ (me + worker_directory) ≢ word l₁ header_number
      differ g =
          let directory_same = beside₁ ready worker_directory (omega arith) (λ g. omega arith) in
          stale (((worker_means ready).directory (subst⁻¹ HasDirectory e tt)).to
          (sym directory_same ∙ g ∙ own_head (own₁ ready) header_number (omega arith)))

      a : Announced s m.cells w k
      a = announced-at ready (in_d p r swap_d) e

      moved : step_in l s w ≡ (l₁, Stepped.Moved)
      moved = plan_step ready _ a e ∙ ap (λ (q : List ℕ). (q, Stepped.Moved)) (if_ne _ _ _ _ differ)

      by : (r : Two) → Onward ready (after_d p r) k.reads
      by one = stays ready (in_d p two copy_d) (λ q. absurd q) (λ q. q) (λ q. q) moved
      by two = stays ready (check_d p two) (λ q. absurd q) (λ q. q) (λ q. q) moved

  -- ---- the directory pass

  pub copies_means :
      (p r : Two) → k.pc ≡ in_d p r copy_d
      → Onward ready (in_d p r (slot_d 0)) (with_copy (with_directory k.reads m.cells.directory) (copy_of m.cells.directory.value))
  unfolding update_at directory_read_at with_directory with_copy
  copies_means p r e =
      goes-on ready l₃ worker_directory (suc worker_marks) (in_d p r (slot_d 0)) _ (plan_step ready _ a e) changed
      (toggle_kept ready l₃ (changed.before worker_toggle (omega arith) (omega arith)))
      (slots_kept ready l₃ (λ i h. changed.behind i (omega arith)))
      (record {
        held = λ q. absurd q;
        live = λ q. absurd q;
        number = λ q. absurd q;
        directory = λ q. record { to = λ z. refl; from = λ z. directory_read };
        few = rw marks_none (pow_pos s.workers);
        unmarked = λ q i b h. rw marks_none (bit_zero i);
        marks = λ q. absurd q;
      })
    where
      a : Announced s m.cells w k
      a = announced-at ready (in_d p r copy_d) e

      v : ℕ
      v = word l₁ header_number

      l₂' : List ℕ
      l₂' = set l₁ (me + worker_directory) v

      l₃ : List ℕ
      l₃ = set l₂' (me + worker_marks) 0

      changed₂ : Changed s l w (m.workers w).steps l₂' worker_directory (suc worker_directory)
      changed₂ = one_word ready worker_directory v (omega arith) (omega arith)

      changed : Changed s l w (m.workers w).steps l₃ worker_directory (suc worker_marks)
      changed =
          word_changed s l ready.means.lent w ready.known _ l₂' worker_directory worker_marks 0 changed₂ worker_marks worker_directory
          (omega arith) (omega arith) (omega arith) (omega arith)
          (λ o x y z. absurd (omega arith))

      directory_read : at s l₃ (worker w) worker_directory ≡ word l header_number
      directory_read =
          put_beside s l ready.means.lent w ready.known _ l₂' worker_directory worker_marks 0 changed₂ worker_marks worker_directory
          (omega arith) (omega arith) (λ g. omega arith)
          ∙ word_here ready worker_directory v (omega arith) ∙ own_head (own₁ ready) header_number (omega arith)

      marks_none : at s l₃ (worker w) worker_marks ≡ 0
      marks_none = put_here s l ready.means.lent w ready.known _ l₂' worker_directory worker_marks 0 changed₂ worker_marks (omega arith)

  -- slots_d, last_d
  pub slot_d_means :
      (p r : Two) (i : ℕ) (x : DStep) → k.pc ≡ in_d p r (slot_d i) → Onward ready (in_d p r x) (with_slot k.reads i (m.cells.slots i))
  unfolding update_at with_slot leaf_of copy_of
  slot_d_means p r i x e =
      goes-on ready (l₂ i b) (slot_read i) (slot_read i + slot_size) (in_d p r x) _ (plan_step ready _ a e) changed
      (toggle_kept ready (l₂ i b) (changed.before worker_toggle (omega arith) (omega arith))) (slot_seen i b)
      (record {
        held = λ q. absurd q;
        live = λ q. absurd q;
        number = λ q. absurd q;
        directory =
            λ q. directory_kept ready (l₂ i b) (changed.before worker_directory (omega arith) (omega arith)) (subst⁻¹ HasDirectory e tt);
        few = few_kept ready (l₂ i b) (changed.before worker_marks (omega arith) (omega arith));
        unmarked = λ q j h z. none_marked j h;
        marks = λ q z. record {
          to = λ c g. absurd (no_mark g.by g.below g.set);
          from = λ c g. absurd (no_made c (rw here at g));
          once = λ j o g h f. absurd (no_mark j g f);
          full = λ j g f. absurd (no_mark j g f);
        };
      })
    where
      a : Announced s m.cells w k
      a = announced-at ready (in_d p r (slot_d i)) e

      b : i < s.workers
      b = step_in_range a.asks e

      changed : Changed s l w (m.workers w).steps (l₂ i b) (slot_read i) (slot_read i + slot_size)
      changed = slot_changed i b

      none_marked : (j : ℕ) → j < s.workers → bit (at s (l₂ i b) (worker w) worker_marks) j ≡ 0
      none_marked j h =
          rw (changed.before worker_marks (omega arith) (omega arith))
          ((worker_means ready).unmarked (subst⁻¹ HasDirectory e tt) j h (λ z. subst (PastState s.workers j) e z))

      no_mark : (j : ℕ) → j < s.workers → bit (at s (l₂ i b) (worker w) worker_marks) j ≡ 1 → ⊥
      no_mark j h g = omega (arith, none_marked j h)

      after : Worker
      after = going ready (with_slot k.reads i (m.cells.slots i))

      here : assign m.workers w after w ≡ after
      here = assign_at m.workers w after w refl

      copy : k.reads.copy ≡ copy_of k.reads.directory.value
      copy = (subst (λ (pc : PC). ReadFacts s pc m.cells w k) e (ready.good.own w ready.known).read).read.1

      no_made : (c : ℕ) → IsMade (leaf_of k.reads.copy c) → ⊥
      no_made c g = rw copy at g

  -- ---- lookups, and reads of the directory

  pub looks_means : k.pc ≡ look₁ → Onward ready look₂ (with_directory k.reads m.cells.directory)
  unfolding lookup_at
  looks_means e =
      let a : Looking s m.cells w k = announced-at ready look₁ e in
      let first : (m.workers w).steps ≡ 0 = look_first _ (counter_is s m w a.asks e) in
      reads_directory (lookup a.wanted) a.asks look₂ (λ q. q) (λ q. q)
      (lookup_enters s ready.range l m ready.means ready.good w ready.known a.wanted a.asks ∙ ap (lookup_at l₁ s me) first)

  pub reads_d_means :
      (p : Two) → k.pc ≡ read_d p → Onward ready (flip p) (with_directory k.reads m.cells.directory)
  unfolding update_at
  reads_d_means p e =
      let a : Announced s m.cells w k = announced-at ready (read_d p) e in
      reads_directory (update a.wanted) a.asks (flip p) (λ q. q) (λ q. q) (plan_step ready _ a e)

  pub checks_d_means :
      (p x : Two) → k.pc ≡ check_d p x → Onward ready (check_s p x) (with_directory k.reads m.cells.directory)
  unfolding update_at
  checks_d_means p x e =
      let a : Announced s m.cells w k = announced-at ready (check_d p x) e in
      reads_directory (update a.wanted) a.asks (check_s p x) (λ q. q) (λ q. q) (plan_step ready _ a e)
