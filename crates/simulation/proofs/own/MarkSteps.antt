-- The state steps of the directory pass: a step marks on the words what it splits in the working copy.
-- Rests on what one worker's words have to mean, and on what taking updates does to a working copy.
use Prim.Native.Nat.{ℕ, suc, ◌+◌, ◌-◌, ◌^◌, ◌≤◌, ◌<◌}
use native.Mathlib.Omega.{arith}
use native.Mathlib.Decide.{ℕ_discrete, dec_lt}
use mathlib.Core.Path.{◌≡◌, refl, ap, sym, ◌∙◌, subst, subst⁻¹}
use mathlib.Core.Logic.{◌≢◌, ⊎_elim, by_cases}
use mathlib.Core.Bool.{Bool, true, false, not}
use mathlib.Core.List.{List}
use lib.Dec.{ltb, eqb}
use borrow.Author.Tests.{eq-eqb, ne_eqb, eqb-true}
use Rattle.interface.specs.Numbers.{kind_none}
use Rattle.interface.proofs.Laws.{range_of}
use Rattle.interface.specs.declared.Settings.{Settings}
use Rattle.machine.specs.Choice.{◌and◌, assign}
use Rattle.machine.specs.Sequential.{Update, account, first_bits}
use Rattle.machine.specs.Records.{Name, Leaf, kept, made, Copy, Slot, empty, announced, Cells, Machine}
use Rattle.machine.specs.BucketPass.{splittable, settled_at}
use Rattle.machine.specs.DirectoryPass.{leaf_of, name_of, resize}
use Rattle.machine.specs.Steps.{with_copy}
use Rattle.machine.proofs.laws.Base.{if_elim, if_true, if_false, if_eq, eq_elim, and_true, and_parts, and_left_false, and_right_false, assign_at}
use Rattle.machine.proofs.laws.Copies.{Refined, resize_test, refined_take_slots, Partition, partition_name, partition_of}
use Rattle.machine.specs.Counter.{Two, DStep, state, PC, in_d}
use Rattle.machine.specs.Tasks.{Task, leaf, DirectoryFresh, IsMade, tasks_of}
use Rattle.machine.proofs.invariant.Inv.{body, leaf_body, ResolvedTo, ReadAt, ReadFacts, Announced}
use Rattle.machine.specs.Passed.{PastState, StateReadD}
use Rattle.machine.proofs.laws.Resolve.{resolved_ok}
use Rattle.machine.proofs.invariant.Transitions.{copy_leaf, copy_slot, resized_for}
use Rattle.rules.specs.declared.Descriptor.{Descriptor}
use Rattle.bucket.specs.State.{array_size}
use Rattle.rules.specs.Rules.{bit, descriptor_in, with_bit}
use Rattle.simulation.specs.Buckets.{slot_from}
use Rattle.fields.specs.Fields.{slot_kind, worker_toggle, worker_directory, worker_marks, record_depth}
use Rattle.fields.specs.Regions.{read_at, record', start_of, slot, worker}
use Rattle.fields.proofs.Regions.{record_starts_apart}
use Rattle.layout.specs.Shape.{word}
use Rattle.layout.specs.Addresses.{record_of, record_for}
use Rattle.record.specs.Bucket.{splittable_at, settled_ticket}
use Rattle.marks.specs.StateStep.{found_before, splits_at, marks, state_step_at}
use Rattle.rules.proofs.Bits.{bit_room, bit_set, bit_beside}
use Rattle.updates.specs.Updates.{update_at}
use Rattle.simulation.specs.Meaning.{at, name_in, account_in, Keeps, current, HasDirectory, HasWork, Marks}
use Rattle.simulation.proofs.frames.Frames.{record_wide, descriptor_near, own_entry, own_record, directs_same, keeps_same, marks_same}
use Rattle.simulation.proofs.frames.Entering.{depth_bound, Describes, slot_describes, directed_record, raised}
use Rattle.simulation.proofs.own.Answering.{splittable_is, unsettled_is}
use Rattle.simulation.proofs.frames.Numbering.{any_some, some_any}
use Rattle.simulation.proofs.frames.OwnWorker.{worker_means, Ready, made_in, Changed, Onward, changed₁, one_word, word_here, goes-on, going, enough₁, own₁, beside₁, read_near, slots_kept, toggle_kept, directory_kept, announced-at, plan_step}

-- the kind of an empty slot
empty_kind : (d : Descriptor) → slot_from d ≡ empty → d.kind ≡ kind_none
unfolding slot_from
empty_kind d =
    eq_elim (λ (x : Slot). x ≡ empty → d.kind ≡ kind_none) d.kind kind_none _ _ (λ e q. e)
    (λ h q. let z : ◌≡◌ {A = ℕ} 0 1 = cc in absurd (omega arith))

module _ {s : Settings} {l : List ℕ} {m : Machine} {w : ℕ} (ready : Ready s l m w) (p r : Two) (i : ℕ)
    (at_state : (tasks_of s m w).pc ≡ in_d p r (state i)) (below : i < s.workers) where
  abbrev c : Cells
  c = m.cells

  abbrev k : Task
  k = tasks_of s m w

  abbrev slots : ℕ → Slot
  slots = (m.workers w).reads.slots

  abbrev copy : Copy
  copy = (m.workers w).reads.copy

  abbrev me : ℕ
  me = start_of s (worker w)

  -- the words once the step is counted, and after it
  abbrev l₁ : List ℕ
  l₁ = raised s l w (m.workers w).steps

  abbrev l₂ : List ℕ
  l₂ = state_step_at l₁ s me i

  -- the marks before the step
  abbrev before : ℕ
  before = at s l (worker w) worker_marks

  small : s.depth ≤ 32
  small = depth_bound s ready.range

  -- ---- the marks on the words

  bit_counted : (j : ℕ) → bit (word l₁ (me + worker_marks)) j ≡ bit before j
  bit_counted j = ap (λ (x : ℕ). bit x j) (beside₁ ready worker_marks (omega arith) (λ g. omega arith))

  -- only earlier steps have marked
  later : (j : ℕ) → j < s.workers → i ≤ j → bit before j ≡ 0
  later j h g =
      (worker_means ready).unmarked (subst⁻¹ HasDirectory at_state tt) j h
      (λ x. let y : j < i = subst (PastState s.workers j) at_state x in omega arith)

  clear : bit before i ≡ 0
  clear = later i below (omega arith)

  earlier : (j : ℕ) → j < s.workers → bit before j ≡ 1 → j < i
  earlier j h e = by_cases (dec_lt j i) (λ g. g) (λ g. absurd (omega (arith, later j h (omega arith))))

  changed : Changed s l w (m.workers w).steps l₂ worker_marks (suc worker_marks)
  unfolding state_step_at
  changed = if_elim (λ (q : List ℕ). Changed s l w (m.workers w).steps q worker_marks (suc worker_marks)) (marks l₁ s me i) _ l₁
      (λ e. one_word ready worker_marks _ (omega arith) (omega arith))
      (λ e. let f = changed₁ ready in
      record {
        own = f.own;
        call = f.call;
        count = f.count;
        before = λ o h b. f.behind o h (omega arith);
        behind = λ o h b. f.behind o (omega arith) b;
      })

  marks_more : marks l₁ s me i ≡ true → at s l₂ (worker w) worker_marks ≡ before + 2 ^ i
  unfolding state_step_at with_bit
  marks_more e =
      ap (λ (q : List ℕ). at s q (worker w) worker_marks) (if_true _ l₁ e) ∙ word_here ready worker_marks _ (omega arith)
      ∙ if_eq _ 0 _ _ (bit_counted i ∙ clear) ∙ ap (λ (x : ℕ). x + 2 ^ i) (beside₁ ready worker_marks (omega arith) (λ g. omega arith))

  marks_none : marks l₁ s me i ≡ false → at s l₂ (worker w) worker_marks ≡ before
  unfolding state_step_at
  marks_none e =
      ap (λ (q : List ℕ). at s q (worker w) worker_marks) (if_false _ l₁ e) ∙ beside₁ ready worker_marks (omega arith) (λ g. omega arith)

  -- what holds of the marks with one more and with none more, holds of the marks after the step
  marks_elim : (P : ℕ → Type 0) → P (before + 2 ^ i) → P before → P (at s l₂ (worker w) worker_marks)
  marks_elim P x y = go (marks l₁ s me i) refl
    where
      go : (b : Bool) → marks l₁ s me i ≡ b → P (at s l₂ (worker w) worker_marks)
      go true e = rw (marks_more e) x
      go false e = rw (marks_none e) y

  few_after : at s l₂ (worker w) worker_marks < 2 ^ s.workers
  few_after =
      let few = (worker_means ready).few in marks_elim (λ (x : ℕ). x < 2 ^ s.workers) (bit_room before i s.workers below few clear) few

  unmarked_after : (j : ℕ) → j < s.workers → i < j → bit (at s l₂ (worker w) worker_marks) j ≡ 0
  unmarked_after j h g =
      let z = later j h (omega arith) in
      marks_elim (λ (x : ℕ). bit x j ≡ 0) (bit_beside before i clear j (λ e. omega arith) ∙ z) z

  -- ---- the records of the slots that were read

  -- slot j as it was read
  abbrev read_in : ℕ → Descriptor
  read_in j = descriptor_in l₁ (read_at me j)

  slot-read : (j : ℕ) → j < s.workers → slot_from (read_in j) ≡ slots j
  slot-read j h =
      ap slot_from (descriptor_near s l l₁ (read_at me j) (read_near s l l₁ w j (λ o a b. beside₁ ready o (omega arith) (λ g. omega arith))))
      ∙ (worker_means ready).slots j h

  -- the words of a slot read with update u and ticket t
  read_describes : (j : ℕ) → j < s.workers → (u : Update) (t : ℕ) → slots j ≡ announced u t → Describes (read_in j) u t
  read_describes j h u t e = slot_describes (read_in j) u t (slot-read j h ∙ e)

  -- the record that the directory has for an account
  abbrev record_at : ℕ → ℕ
  record_at a = (ready.means.directory a).0

  record-of : (a : ℕ) → record_of l₁ s a ≡ start_of s (record' (record_at a))
  record-of a =
      let d = ready.means.directory a in
      directed_record s l₁ (enough₁ ready) a d.0 (directs_same s l l₁ a d.0 (own_entry (own₁ ready) a) d.1)

  -- two accounts have one record where they have one bucket
  one_bucket : (a e : ℕ) → record_of l₁ s a ≡ record_of l₁ s e → leaf c a ≡ leaf c e
  one_bucket a e h =
      let z : record_at a ≡ record_at e = record_starts_apart s _ _ (sym (record-of a) ∙ h ∙ record-of e) in
      sym (ready.means.directory a).2 ∙ ap (name_in s l) z ∙ (ready.means.directory e).2

  one_record : (a e : ℕ) → leaf c a ≡ leaf c e → record_of l₁ s a ≡ record_of l₁ s e
  one_record a e h =
      let x = ready.means.directory a in
      let y = ready.means.directory e in
      let z : record_at a ≡ record_at e = ready.means.apart x.0 y.0 (current a x.1) (current e y.1) (x.2 ∙ h ∙ sym y.2) in
      record-of a ∙ ap (λ (o : ℕ). start_of s (record' o)) z ∙ sym (record-of e)

  -- the record of a slot that was read
  record-for : (j : ℕ) → j < s.workers → slots j ≢ empty → record_for l₁ s me j ≡ record_of l₁ s (account_in (slots j))
  unfolding descriptor_in
  record-for j h d = by (slots j) refl
    where
      by : (x : Slot) → slots j ≡ x → record_for l₁ s me j ≡ record_of l₁ s (account_in (slots j))
      by empty e = absurd (d e)
      by (announced u t) e = ap (record_of l₁ s) ((read_describes j h u t e).account ∙ ap account_in (sym e))

  -- what an account's record keeps
  keeps_leaf : (a : ℕ) → Keeps s l₁ (record_at a) (c.buckets (leaf c a))
  keeps_leaf a =
      let d = ready.means.directory a in
      keeps_same s l l₁ d.0 _ (own_record (own₁ ready) d.0 d.1.in_pool)
      (subst (λ (x : Name). Keeps s l d.0 (c.buckets x)) d.2 (ready.means.cells d.0 (current a d.1)))

  depth_leaf : (a : ℕ) → at s l₁ (record' (record_at a)) record_depth ≡ (leaf c a).depth
  depth_leaf a =
      let d = ready.means.directory a in
      own_record (own₁ ready) d.0 d.1.in_pool record_depth (rw record_wide (omega arith)) ∙ ap (λ (x : Name). x.depth) d.2

  -- ---- the current buckets and the working copy

  partition : Partition s.depth (leaf c)
  partition = partition_of _ ready.good.directory

  read : ReadAt s (state i) c k
  read = (subst (λ (pc : PC). ReadFacts s pc c w k) at_state (ready.good.own w ready.known).read).read

  -- a bucket that was resolved is split
  grown_made : (a : ℕ) {l : Leaf} → ResolvedTo s slots (leaf c a) (leaf_body c a) a l → IsMade l
  grown_made a g =
      let z = resolved_ok s small (leaf c a) a (partition_name partition a) (partition.bound a) (leaf_body c a) slots s.workers in
      subst⁻¹ IsMade (g.is ∙ z.stands a (partition.named a)) tt

  -- the current bucket of an update
  abbrev bucket : Update → Name
  bucket u = leaf c (account u)

  -- the machine whose worker has the working copy o
  abbrev turned : Copy → Machine
  turned o = record { cells = c; workers = λ j. going ready (with_copy k.reads o) }

  -- ---- what the step marks, while the directory that was read is current

  module _ (fresh : DirectoryFresh c k) where
    old : Marks s l m w
    old = (worker_means ready).marks (subst⁻¹ HasWork at_state tt) fresh

    kept_leaf : (a : ℕ) (x : Name) → leaf_of copy a ≡ kept x → x ≡ leaf c a
    kept_leaf a x h = ⊎_elim (λ e. ap name_of (sym h ∙ e)) (λ g. absurd (subst IsMade h (grown_made a g))) (read.1 fresh a)

    -- slot i was read with update u and ticket t
    module _ (u : Update) (t : ℕ) (slot : slots i ≡ announced u t) where
      abbrev q : ℕ
      q = record_for l₁ s me i

      full_slot : slots i ≢ empty
      full_slot e = let z : ◌≡◌ {A = ℕ} 0 1 = cc in omega arith

      q_is : q ≡ record_of l₁ s (account u)
      q_is = record-for i below full_slot ∙ ap (λ (y : Slot). record_of l₁ s (account_in y)) slot

      -- an earlier step has marked the bucket, where the working copy has split it
      found_made : found_before l₁ s me i q ≡ true → IsMade (leaf_of copy (account u))
      unfolding found_before
      found_made e =
          let z = any_some i _ e in
          let h = and_parts _ _ z.is in
          let b : z.one < s.workers = omega (arith, z.below) in
          let set_before : bit before z.one ≡ 1 = sym (bit_counted z.one) ∙ eqb-true _ 1 h.0 in
          old.to (account u) (record {
            by = z.one;
            below = b;
            set = set_before;
            here = one_bucket _ (account u) (sym (record-for z.one b (old.full z.one b set_before)) ∙ eqb-true _ _ h.1 ∙ q_is);
          })

      made_found : IsMade (leaf_of copy (account u)) → found_before l₁ s me i q ≡ true
      unfolding found_before
      made_found h =
          let z = old.from (account u) h in
          some_any i _ z.by (earlier z.by z.below z.set)
          (and_true (eq-eqb _ 1 (bit_counted z.by ∙ z.set))
          (eq-eqb _ q (record-for z.by z.below (old.full z.by z.below z.set) ∙ one_record _ (account u) z.here
          ∙ sym q_is)))

      -- the test on the words is the machine's
      splits_is : splits_at l₁ s me i q ≡ resize_test s i t (bucket u) (body c (bucket u))
      unfolding splits_at settled_at descriptor_in
      splits_is =
          let limits = range_of s.workers s.capacity s.depth ready.range in
          let few : s.workers ≤ array_size = omega arith in
          let narrow : s.capacity ≤ array_size = omega arith in
          let R : ℕ = start_of s (record' (record_at (account u))) in
          let split : splittable_at l₁ s R ≡ splittable s (bucket u).depth (body c (bucket u)) =
          splittable_is s narrow few l₁ (record_at (account u)) _ (keeps_leaf (account u))
          ∙ ap (λ (d : ℕ). splittable s d (body c (bucket u))) (depth_leaf (account u)) in
          let last : ℕ = settled_ticket l₁ s R i in
          let unsettled : ltb last (read_in i).ticket ≡ not (settled_at (body c (bucket u)) i t) =
          ap (ltb last) (read_describes i below u t slot).ticket
          ∙ unsettled_is s narrow few l₁ (record_at (account u)) _ (keeps_leaf (account u)) i below t in
          ap (splits_at l₁ s me i) (q_is ∙ record-of (account u)) ∙ (λ o. split o and unsettled o)

      busy : not (eqb (word l₁ (read_at me i + slot_kind)) kind_none) ≡ true
      unfolding descriptor_in
      busy = ap not (ne_eqb _ kind_none (read_describes i below u t slot).busy)

      -- a bucket that an earlier step has split
      marks_made : IsMade (leaf_of copy (account u)) → marks l₁ s me i ≡ false
      unfolding marks
      marks_made h = rw (made_found h) (and_right_false _)

      -- one that none has split
      marks_kept :
          (v : Bool) → resize_test s i t (bucket u) (body c (bucket u)) ≡ v → (IsMade (leaf_of copy (account u)) → ⊥) → marks l₁ s me i ≡ v
      unfolding marks ◌and◌
      marks_kept v e h = rw (busy, splits_is, e) (last v (found_before l₁ s me i q) refl)
        where
          last : (v b : Bool) → found_before l₁ s me i q ≡ b → v and not b ≡ v
          last true true f = absurd (h (found_made f))
          last true false f = refl
          last false b f = refl

    -- what the step does to the marks and to the working copy
    data Outcome (o : Copy) : Type 0 where
      idle : marks l₁ s me i ≡ false → o ≡ copy → Outcome o
      splits :
          marks l₁ s me i ≡ true → (u : Update) (t : ℕ) → slots i ≡ announced u t → (IsMade (leaf_of copy (account u)) → ⊥)
          → Refined s.depth (bucket u) copy o → Outcome o

    outcome : Outcome (copy_slot s c i k.reads (slots i))
    unfolding with_copy resize marks descriptor_in
    outcome = by_slot (slots i) refl
      where
        by_bucket : (u : Update) (t : ℕ) → slots i ≡ announced u t → leaf_of copy (account u) ≡ kept (bucket u)
            → Outcome (resize s slots i t (bucket u) (body c (bucket u)) copy)
        by_bucket u t e h =
            if_elim Outcome (resize_test s i t (bucket u) (body c (bucket u))) _ copy
            (λ f. splits (marks_kept u t e true f (λ z. subst IsMade h z)) u t e (λ z. subst IsMade h z)
            (refined_take_slots small s (omega arith) read.0.coherent (account u) _ h _ slots s.workers))
            (λ f. idle (marks_kept u t e false f (λ z. subst IsMade h z)) refl)

        by_leaf : (u : Update) (t : ℕ) → slots i ≡ announced u t → (l : Leaf) → leaf_of copy (account u) ≡ l
            → Outcome (copy_leaf s c i t k.reads l)
        by_leaf u t e (made x b) h = idle (marks_made u t e (rw h tt)) refl
        by_leaf u t e (kept x) h =
            let z = kept_leaf (account u) x h in
            subst⁻¹ (λ (y : Name). Outcome (resize s slots i t y (body c y) copy)) z (by_bucket u t e (h ∙ ap kept z))

        by_slot : (x : Slot) → slots i ≡ x → Outcome (copy_slot s c i k.reads x)
        by_slot empty e =
            let z = empty_kind (read_in i) (slot-read i below ∙ e) in
            idle (and_left_false _ (and_left_false _ (ap not (eq-eqb _ kind_none z)))) refl
        by_slot (announced u t) e = by_leaf u t e (leaf_of copy (account u)) refl

    -- ---- the marks after the step

    marks_stay : at s l₂ (worker w) worker_marks ≡ before → Marks s l₂ (turned copy) w
    unfolding with_copy
    marks_stay e =
        record {
          to = λ a z. old.to a (record { by = z.by; below = z.below; set = rw e at z.set; here = z.here });
          from = λ a z. let y = old.from a z in record { by = y.by; below = y.below; set = rw e y.set; here = y.here };
          once = λ j o b d f g. old.once j o b d (rw e at f) (rw e at g);
          full = λ j b f. old.full j b (rw e at f);
        }

    -- the bucket of update u, which slot i was read with, is split by this step
    module _ (o : Copy) (u : Update) (t : ℕ) (slot : slots i ≡ announced u t) (new : IsMade (leaf_of copy (account u)) → ⊥)
        (refined : Refined s.depth (bucket u) copy o) (more : at s l₂ (worker w) worker_marks ≡ before + 2 ^ i) where
      own_bucket : leaf c (account_in (slots i)) ≡ bucket u
      own_bucket = ap (λ (y : Slot). leaf c (account_in y)) slot

      mark_here : bit (at s l₂ (worker w) worker_marks) i ≡ 1
      mark_here = rw more (bit_set before i clear)

      mark_beside : (j : ℕ) → j ≢ i → bit (at s l₂ (worker w) worker_marks) j ≡ bit before j
      mark_beside j d = rw more (bit_beside before i clear j d)

      mark_other : (j : ℕ) → bit before j ≡ 1 → j ≢ i
      mark_other j h e = let z : bit before i ≡ 1 = rw e at h in omega (arith, clear)

      -- no other mark is of the bucket
      alone :
          (j : ℕ) → j < s.workers → j ≢ i → bit (at s l₂ (worker w) worker_marks) j ≡ 1
          → leaf c (account_in (slots j)) ≡ leaf c (account_in (slots i)) → ⊥
      alone j b d h e = new (old.to (account u) (record { by = j; below = b; set = sym (mark_beside j d) ∙ h; here = e ∙ own_bucket }))

      marks_split : Marks s l₂ (turned o) w
      unfolding with_copy
      marks_split = record {
        to = λ a z. by_cases (ℕ_discrete (first_bits (bucket u).depth a) (bucket u).prefix)
            (λ h. made_in (bucket u) (leaf_of o a) (refined.inside a h))
            (λ h. let d : z.by ≢ i = λ e. h (rw (sym own_bucket ∙ rw e at z.here) (partition.named a)) in
            rw (refined.outside a h)
            (old.to a (record { by = z.by; below = z.below; set = sym (mark_beside z.by d) ∙ z.set; here = z.here })));
        from = λ a z. by_cases (ℕ_discrete (first_bits (bucket u).depth a) (bucket u).prefix)
            (λ h. record { by = i; below = below; set = mark_here; here = own_bucket ∙ sym (partition.shared (account u) a h) })
            (λ h. let y = old.from a (rw (refined.outside a h) at z) in
            record { by = y.by; below = y.below; set = mark_beside y.by (mark_other y.by y.set) ∙ y.set; here = y.here });
        once = λ j q b d f g e. once j q b d f g e (ℕ_discrete j i) (ℕ_discrete q i);
        full = λ j b f e. by_cases (ℕ_discrete j i)
            (λ h. let y : slots i ≡ empty = rw h at e in let z : ◌≡◌ {A = ℕ} 0 1 = cc in omega arith)
            (λ h. old.full j b (sym (mark_beside j h) ∙ f) e);
      }
        where
          once :
              (j q : ℕ) → j < s.workers → q < s.workers → bit (at s l₂ (worker w) worker_marks) j ≡ 1
              → bit (at s l₂ (worker w) worker_marks) q ≡ 1
              → leaf c (account_in (slots j)) ≡ leaf c (account_in (slots q)) → Dec (j ≡ i) → Dec (q ≡ i) → j ≡ q
          once j q b d f g e (yes y) (yes z) = y ∙ sym z
          once j q b d f g e (yes y) (no z) = absurd (alone q d z g (sym e ∙ ap (λ (n : ℕ). leaf c (account_in (slots n))) y))
          once j q b d f g e (no y) (yes z) = absurd (alone j b y f (e ∙ ap (λ (n : ℕ). leaf c (account_in (slots n))) z))
          once j q b d f g e (no y) (no z) = old.once j q b d (sym (mark_beside j y) ∙ f) (sym (mark_beside q z) ∙ g) e

    marks_after : Marks s l₂ (turned (copy_slot s c i k.reads (slots i))) w
    marks_after = by _ outcome
      where
        by : (o : Copy) → Outcome o → Marks s l₂ (turned o) w
        by o (idle e h) = rw h (marks_stay (marks_none e))
        by o (splits e u t g n h) = marks_split o u t g n h (marks_more e)

  -- ---- the step

  -- resizes, last_state: on to a step that is past worker i's
  pub state_means :
      (x : DStep) → ((j : ℕ) → j < s.workers → j ≤ i → StateReadD s.workers j x)
      → Onward ready (in_d p r x) (resized_for s m.cells i (tasks_of s m w).reads)
  unfolding update_at with_copy
  state_means x past =
      goes-on ready l₂ worker_marks (suc worker_marks) (in_d p r x) (with_copy k.reads o) (plan_step ready _ a at_state) changed
      (toggle_kept ready l₂ (changed.before worker_toggle (omega arith) (omega arith)))
      (slots_kept ready l₂ (λ j h. changed.behind j (omega arith)))
      (record {
        held = λ q. absurd q;
        live = λ q. absurd q;
        number = λ q. absurd q;
        directory =
            λ q. directory_kept ready l₂ (changed.before worker_directory (omega arith) (omega arith)) (subst⁻¹ HasDirectory at_state tt);
        few = few_after;
        unmarked = λ q j h g. unmarked_after j h (by_cases (dec_lt i j) (λ z. z) (λ z. absurd (g (past j h (omega arith)))));
        marks = λ q fresh. marks_same s l₂ l₂ (turned o) _ w here (λ e. refl) refl (marks_after fresh);
      })
    where
      a : Announced s c w k
      a = announced-at ready (in_d p r (state i)) at_state

      o : Copy
      o = copy_slot s c i k.reads (slots i)

      here : assign m.workers w (going ready (with_copy k.reads o)) w ≡ going ready (with_copy k.reads o)
      here = assign_at m.workers w (going ready (with_copy k.reads o)) w refl
