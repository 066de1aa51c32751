-- The reading steps of the directory pass, and a directory swap that fails, keep the invariant.
-- Rests on the ways to keep it, on the form of a step outside the bucket pass, and on what a round makes of a full bucket.
use Prim.Native.Nat.{ℕ, suc, ◌≤◌, ◌<◌}
use native.Mathlib.Omega.{arith}
use native.Mathlib.Decide.{ℕ_discrete}
use mathlib.Core.Path.{◌≡◌, refl, ap, sym, ◌∙◌, subst}
use mathlib.Core.Logic.{◌⊎◌, inl, inr, ⊎_elim, by_cases}
use mathlib.Core.Bool.{true, false}
use borrow.Author.Tests.{eq-eqb, leb-true, not-false}
use Rattle.interface.specs.declared.Settings.{Settings}
use Rattle.machine.specs.Sequential.{Update, account, first_bits}
use Rattle.machine.specs.Records.{Name, Body, Leaf, kept, made, Copy, Slot, empty, announced, Cells, Reads}
use Rattle.machine.specs.BucketPass.{holds_back, settled_at}
use Rattle.machine.specs.DirectoryPass.{copy_of, leaf_of, name_of, replace_leaf, take_slots, resize}
use Rattle.machine.specs.Steps.{with_directory, with_slot, with_copy}
use Rattle.machine.proofs.laws.Base.{no_both, if_elim, and_true, and_parts, and_right, assign_elim}
use Rattle.machine.proofs.laws.Cells.{name_path}
use Rattle.machine.proofs.laws.Copies.{name_at, InBucket, Coherent, depth_at_le, resize_test, leaf_of_copy_of, Partition, partition_name, partition_of}
use Rattle.machine.specs.Counter.{Two, one, two, DStep, copy_d, swap_d, slot_d, state, PC, check_d, in_d}
use Rattle.machine.proofs.invariant.Counter.{after_d}
use Rattle.machine.proofs.invariant.CounterFacts.{BothTwo, SlotReadD, UpdateSeenD, UpdateSeen, BucketSplitD, BucketSplit, announced_now, blocked_now, announced_since, blocked_since}
use Rattle.machine.specs.Passed.{StateReadD}
use Rattle.machine.specs.Tasks.{Task, target, leaf, DirectoryFresh, IsMade}
use Rattle.machine.proofs.invariant.Inv.{BlockedOrSettled, FreshOrSettled, OldSlot, body, leaf_body, SettledIn, SettledFor, OwnSettled, ResolvedTo, KeptOrResolved, SeenDirectory, ReadAt, RoundAt, InDirectory, CheckFacts, Announced, SlotFacts, ReadFacts, Own, Pair}
use Rattle.machine.proofs.invariant.Preservation.{goes, Reading, announced_on, old_read}
use Rattle.machine.proofs.laws.Resolve.{resolved_ok, taken_inside, taken_outside, taken_coherent, due}
use Rattle.machine.proofs.invariant.Transitions.{copied_directory, copy_leaf, copy_slot, resized_for}
use Rattle.machine.proofs.steps.BucketSteps.{outside_rounds}

-- a bucket that holds back and is not resized for worker i's update: that is settled there
settled_idle :
    (s : Settings) (i t : ℕ) (x : Name) (b : Body) → holds_back s x.depth b ≡ true → resize_test s i t x b ≡ false → SettledIn i t b
unfolding holds_back settled_at
settled_idle s i t x b f e = leb-true t _ (not-false _ (and_right _ _ e f))

module _ (s : Settings) (small : s.depth ≤ 32) (c : Cells) (current : Coherent s.depth (copy_of c.directory.value)) (k : Task) where
  -- ---- the current buckets

  partition : Partition s.depth (leaf c)
  partition = partition_of _ current

  -- account a's current bucket was resolved into l
  abbrev ResolvedHere : ℕ → Leaf → Type 0
  ResolvedHere a l = ResolvedTo s k.reads.slots (leaf c a) (leaf_body c a) a l

  resolved_made : (a : ℕ) {l : Leaf} → ResolvedHere a l → IsMade l
  resolved_made a g =
      let m = resolved_ok s small (leaf c a) a (partition_name partition a) (partition.bound a) (leaf_body c a) k.reads.slots
      s.workers in
      subst IsMade (sym (g.is ∙ m.stands a (partition.named a))) tt

  -- ---- a working copy resized

  abbrev AllKeptOrResolved : Type 0
  AllKeptOrResolved = (a : ℕ) → KeptOrResolved s c k a

  -- worker i's update, by its slot: if its bucket holds it back, that is made by now, or the update is settled
  abbrev ServedSlot : ℕ → Slot → Copy → Type 0
  ServedSlot i empty d = Unit {0}
  ServedSlot i (announced u t) d =
      holds_back s (leaf c (account u)).depth (leaf_body c (account u)) ≡ true → IsMade (leaf_of d (account u)) ⊎ SettledFor c i t (account u)

  -- what the step for worker i, whose slot was read as x, has made of the working copy
  record Resized (i : ℕ) (x : Slot) (d : Copy) : Type 0 where
    coherent : Coherent s.depth d
    leaves : AllKeptOrResolved → (a : ℕ) → (leaf_of d a ≡ leaf_of k.reads.copy a) ⊎ ResolvedHere a (leaf_of d a)
    serves : AllKeptOrResolved → ServedSlot i x d

  module _ (whole : Coherent s.depth k.reads.copy) (i : ℕ) (below : i < s.workers) where
    -- the step leaves the copy as it is
    untouched : (x : Slot) → (AllKeptOrResolved → ServedSlot i x k.reads.copy) → Resized i x k.reads.copy
    untouched x f = record { coherent = whole; leaves = λ z a. inl refl; serves = f }

    -- the bucket of the update is x, not made in this round
    module _ (u : Update) (t : ℕ) (slot : k.reads.slots i ≡ announced u t) (x : Name)
        (there : leaf_of k.reads.copy (account u) ≡ kept x) where
      abbrev taken_copy : Copy
      taken_copy = take_slots s x (body c x) k.reads.slots s.workers (replace_leaf x (made x (body c x)) k.reads.copy)

      x_inside : InBucket x (account u)
      x_inside = subst (λ (l : Leaf). InBucket (name_of l) (account u)) there (whole.named (account u))

      x_named : x ≡ name_at x.depth (account u)
      x_named = name_path refl (sym x_inside)

      x_below : x.depth ≤ s.depth
      x_below = omega (arith, ap (λ (l : Leaf). (name_of l).depth) there, depth_at_le whole (account u), whole.bound)

      x_leaf : AllKeptOrResolved → leaf c (account u) ≡ x
      x_leaf f = ⊎_elim (λ e. ap name_of (sym e ∙ there)) (λ g. absurd (subst IsMade there (resolved_made (account u) g))) (f (account u))

      due_here : resize_test s i t x (body c x) ≡ true → due x (body c x) i (k.reads.slots i) ≡ true
      due_here e = rw slot (and_true (eq-eqb _ _ x_inside) (and_parts _ _ e).1)

      -- inside x the leaf is what x was resolved into
      grows :
          resize_test s i t x (body c x) ≡ true → (a : ℕ) → InBucket x a
          → ResolvedTo s k.reads.slots x (body c x) a (leaf_of taken_copy a)
      grows e a h =
          let m = resolved_ok s small x (account u) x_named x_below (body c x) k.reads.slots s.workers in
          let is = taken_inside s small x (account u) x_named x_below (body c x) k.reads.slots k.reads.copy whole there s.workers
          a h in
          let z = (and_parts _ _ e).0 in
          record {
            splits = z;
            is = is;
            deeper = rw is (⊎_elim (λ n. absurd (no_both (due_here e) (n.0 i below))) (λ n. n a h) (m.deep z));
          }

      taken_ok : resize_test s i t x (body c x) ≡ true → Resized i (announced u t) taken_copy
      taken_ok e = record {
        coherent =
            taken_coherent s small x (account u) x_named x_below (body c x) k.reads.slots k.reads.copy whole there s.workers;
        leaves = λ f a. by_cases (ℕ_discrete (first_bits x.depth a) x.prefix)
            (λ h. inr (grown f a h))
            (λ h. inl (taken_outside s small x (account u) x_named x_below (body c x) k.reads.slots k.reads.copy whole there _ a
            h));
        serves = λ f g. inl (resolved_made (account u) (grown f (account u) x_inside));
      }
        where
          grown : AllKeptOrResolved → (a : ℕ) → InBucket x a → ResolvedHere a (leaf_of taken_copy a)
          grown f a h = rw (partition.shared (account u) a (rw (x_leaf f) h) ∙ x_leaf f) (grows e a h)

      kept_ok : Resized i (announced u t) (copy_leaf s c i t k.reads (kept x))
      unfolding resize
      kept_ok = if_elim (Resized i (announced u t)) (resize_test s i t x (body c x)) taken_copy k.reads.copy taken_ok
          (λ e. untouched (announced u t) (λ f g. inr (rw (x_leaf f) (settled_idle s i t x (body c x) (rw (x_leaf f) at g) e))))

    resized_ok : Resized i (k.reads.slots i) (copy_slot s c i k.reads (k.reads.slots i))
    resized_ok = by_slot (k.reads.slots i) refl
      where
        by_leaf : (u : Update) (t : ℕ) → k.reads.slots i ≡ announced u t → (l : Leaf) → leaf_of k.reads.copy (account u) ≡ l
            → Resized i (announced u t) (copy_leaf s c i t k.reads l)
        by_leaf u t e (made x b) h = untouched (announced u t) (λ f g. inl (rw h tt))
        by_leaf u t e (kept x) h = kept_ok u t e x h

        by_slot : (x : Slot) → k.reads.slots i ≡ x → Resized i x (copy_slot s c i k.reads x)
        by_slot empty e = untouched empty (λ f. tt)
        by_slot (announced u t) e = by_leaf u t e (leaf_of k.reads.copy (account u)) refl

-- worker j with task q, whose bucket has to be split by whoever can still swap the directory
record MustSplit (s : Settings) (c : Cells) (j : ℕ) (q : Task) (pc : PC) : Type 0 where
  known : UpdateSeen q.reads.directory.stamp c.directory.stamp pc
  update : Announced s c j q
  blocked : BlockedOrSettled s c j q

must_split :
    (s : Settings) (c : Cells) (j : ℕ) (q : Task) (pc : PC) → BucketSplit q.reads.directory.stamp c.directory.stamp pc
    → SlotFacts s pc c j q → ReadFacts s pc c j q → MustSplit s c j q pc
must_split s c j q (in_d one r copy_d) l a o = absurd l
must_split s c j q (in_d two r copy_d) l a o = record { known = tt; update = a; blocked = o.blocked tt }
must_split s c j q (in_d two r swap_d) l a o = record { known = tt; update = a; blocked = o.blocked tt }
must_split s c j q (in_d two r (slot_d i)) l a o = record { known = tt; update = a; blocked = o.blocked tt }
must_split s c j q (in_d two r (state i)) l a o = record { known = tt; update = a; blocked = o.blocked tt }
must_split s c j q _ l a o = elim l [ ]

-- ---- the steps

module _ (s : Settings) (w : ℕ) (c : Cells) (k : Task) where
  abbrev now : ℕ
  now = c.directory.stamp

  -- the directory that was read, while the copy is worked on
  seen_directory_kept :
      (pc pc' : PC) (m : Reads) → m.directory ≡ k.reads.directory → Coherent s.depth m.copy
      → SeenDirectory s c (goes k pc k.reads) → SeenDirectory s c (goes k pc' m)
  seen_directory_kept pc pc' m e z h = record { bounded = rw e h.bounded; same = rw e h.same; coherent = z }

  -- A step of the directory pass, from x of round r to y of round r', with m read by then.
  module _ (p r r' : Two) (x y : DStep) (m : Reads) where
    abbrev from : Task
    from = goes k (in_d p r x) k.reads

    abbrev to : Task
    to = goes k (in_d p r' y) m

    -- the slots that it has seen, and the buckets that it splits, of others
    abbrev SeesSlots : Type 0
    SeesSlots =
        (j : ℕ) → (SlotReadD s.workers j x → DirectoryFresh c k → k.reads.slots j ≡ c.slots j)
        → SlotReadD s.workers j y → DirectoryFresh c to → m.slots j ≡ c.slots j

    abbrev SplitsBucket : Type 0
    SplitsBucket =
        (j : ℕ) → j < s.workers → (q : Task) → Own s c j q → Own s c w from → Pair s j c q from
        → BucketSplit q.reads.directory.stamp now q.pc
        → StateReadD s.workers j y → DirectoryFresh c to → IsMade (leaf_of m.copy (target q)) ⊎ OwnSettled c j q

    directory_step :
        (InDirectory s p r x c w from → ReadAt s y c to × RoundAt s p r' y c w to)
        → ((j : ℕ) → OldSlot c j (k.reads.slots j) → OldSlot c j (m.slots j))
        → (UpdateSeenD p r' m.directory.stamp now y → UpdateSeenD p r k.reads.directory.stamp now x)
        → (BucketSplitD p r' m.directory.stamp now y → BucketSplitD p r k.reads.directory.stamp now x)
        → SeesSlots → SplitsBucket → Reading s w c from to
    directory_step read old known bucket_split sees splits_bucket = record {
      own = λ o h. record {
        ticket = o.ticket;
        slot = announced_on o.slot;
        read = record { blocked = o.read.blocked; read = (read o.read).0; round = (read o.read).1 };
      };
      view = λ j l h. record { bit = λ z. absurd z; slot = λ z. absurd z; old = old j h.old };
      bits_applied = λ z o h. ⊎_elim inl (λ n. absurd n.0) h;
      pair_me = λ q h. record {
        sees_flip = λ l. absurd l;
        seen = λ l. h.seen (known l);
        splits_bucket = λ l. h.splits_bucket (bucket_split l);
      };
      pair = λ j l q oj o h. record {
        sees_flip = λ a d e z. absurd z;
        seen = λ a. sees j (h.seen a);
        splits_bucket = splits_bucket j l q oj o h;
      };
    }

  pub copy_d_ok :
      Coherent s.depth (copy_of c.directory.value) → (p r : Two)
      → Reading s w c (goes k (in_d p r copy_d) k.reads) (goes k (in_d p r (slot_d 0)) (copied_directory c k.reads))
  unfolding with_copy with_directory
  copy_d_ok current p r = directory_step p r r copy_d (slot_d 0) _
      (λ o. ((record { bounded = omega arith; same = λ e. refl; coherent = current }, refl), λ h. inl refl))
      (λ j h. h) (announced_now p r now) (blocked_now p r now)
      (λ j h z. absurd (omega arith)) (λ j l q oj o h a z. absurd z)

  -- ---- the slots

  module _ (p r : Two) (i : ℕ) where
    slot_seen : (j : ℕ) → (j < i → k.reads.slots j ≡ c.slots j) → j < suc i → (with_slot k.reads i (c.slots i)).slots j ≡ c.slots j
    unfolding with_slot
    slot_seen j h l = assign_elim (λ (x : Slot). x ≡ c.slots j) k.reads.slots i (c.slots i) j
        (λ e. ap c.slots (sym e)) (λ e. h (omega arith))

    pub slot_d_more :
        Reading s w c (goes k (in_d p r (slot_d i)) k.reads) (goes k (in_d p r (slot_d (suc i))) (with_slot k.reads i (c.slots i)))
    unfolding with_slot
    slot_d_more = directory_step p r r (slot_d i) (slot_d (suc i)) _
        (λ o. ((seen_directory_kept _ _ _ refl o.read.0.coherent o.read.0, o.read.1), o.round))
        (λ j. old_read c j k.reads.slots i) (λ l. l) (λ l. l)
        (λ j h z f. slot_seen j (λ l. h l f) z) (λ j l q oj o h a z. absurd z)

    pub slot_d_last :
        s.workers ≤ suc i → Reading s w c (goes k (in_d p r (slot_d i)) k.reads)
        (goes k (in_d p r (state 0)) (with_slot k.reads i (c.slots i)))
    unfolding with_slot
    slot_d_last l = directory_step p r r (slot_d i) (state 0) _
        (λ o. (
          (
            seen_directory_kept _ _ _ refl o.read.0.coherent o.read.0,
            λ f a. inl (rw (o.read.1, o.read.0.same f, leaf_of_copy_of)),
          ),
          o.round,
        ))
        (λ j. old_read c j k.reads.slots i) (λ l. l) (λ l. l)
        (λ j h z f. slot_seen j (λ l. h l f) (omega arith)) (λ j l q oj o h a z. absurd (omega arith))

  -- ---- the states

  module _ (small : s.depth ≤ 32) (current : Coherent s.depth (copy_of c.directory.value)) (p r : Two) (i : ℕ)
      (below : i < s.workers) where
    abbrev resized : Copy
    resized = copy_slot s c i k.reads (k.reads.slots i)

    state_read :
        (pc : PC) → ReadAt s (state i) c (goes k (in_d p r (state i)) k.reads)
        → ReadAt s (state i) c (goes k pc (resized_for s c i k.reads))
    unfolding with_copy
    state_read pc o =
        let z = resized_ok s small c current k o.0.coherent i below in
        (seen_directory_kept _ _ _ refl z.coherent o.0, λ f a. ⊎_elim (λ e. rw e (o.1 f a)) inr (z.leaves (o.1 f) a))

    state_splits_bucket : SplitsBucket p r r (state i) (state (suc i)) (resized_for s c i k.reads)
    unfolding with_copy
    state_splits_bucket j jn q oj o h a l f = go (ℕ_discrete j i)
      where
        z : Resized s small c current k i (k.reads.slots i) resized
        z = resized_ok s small c current k o.read.read.0.coherent i below

        v : MustSplit s c j q q.pc
        v = must_split s c j q q.pc a oj.slot oj.read

        stays : IsMade (leaf_of k.reads.copy (target q)) → IsMade (leaf_of resized (target q))
        stays m = ⊎_elim (λ e. rw e m) (resolved_made s small c current k (target q)) (z.leaves (o.read.read.1 f) (target q))

        go : Dec (j ≡ i) → IsMade (leaf_of resized (target q)) ⊎ OwnSettled c j q
        go (yes e) =
            let n : ServedSlot s small c current k j (k.reads.slots j) resized = rw e (z.serves (o.read.read.1 f)) in
            let n' = subst (λ (x : Slot). ServedSlot s small c current k j x resized) (h.seen v.known jn f ∙ v.update.slot) n in
            ⊎_elim (λ g. rw v.update.asks (n' (rw v.update.asks at g))) inr v.blocked
        go (no e) = ⊎_elim (λ m. inl (stays m)) inr (h.splits_bucket a (omega arith) f)

    pub state_more : Reading s w c (goes k (in_d p r (state i)) k.reads) (goes k (in_d p r (state (suc i))) (resized_for s c i k.reads))
    unfolding with_copy
    state_more = directory_step p r r (state i) (state (suc i)) _
        (λ o. (state_read _ o.read, o.round))
        (λ j h. h) (λ l. l) (λ l. l) (λ j h. h)
        state_splits_bucket

    pub state_last :
        s.workers ≤ suc i → Reading s w c (goes k (in_d p r (state i)) k.reads) (goes k (in_d p r swap_d) (resized_for s c i k.reads))
    unfolding with_copy
    state_last l = directory_step p r r (state i) swap_d _
        (λ o. (state_read _ o.read, o.round))
        (λ j h. h) (λ l. l) (λ l. l) (λ j h. h)
        (λ j jn q oj o h a n. state_splits_bucket j jn q oj o h a (omega arith))

  -- ---- the swap that fails

  pub missed_d_ok :
      (p r : Two) → (DirectoryFresh c k → ⊥) → Reading s w c (goes k (in_d p r swap_d) k.reads) (goes k (after_d p r) k.reads)
  missed_d_ok p one miss = directory_step p one two swap_d copy_d k.reads
      (λ o. (tt, tt))
      (λ j h. h) (λ l. announced_since p one miss) (blocked_since p miss)
      (λ j h z. absurd z) (λ j l q oj o h a z. absurd z)
  missed_d_ok p two miss = outside_rounds s w c _ _ (refl, λ j x. x, λ x. x, λ x. announced_since p two miss) (λ x. x) (λ x. x)
      (λ o. record { ticket = o.ticket; slot = announced_on o.slot; read = own_settled p o.read.round })
    where
      own_settled : (p : Two) → (BothTwo p two → FreshOrSettled c w k) → CheckFacts s p two c w (goes k (check_d p two) k.reads)
      own_settled one h = tt
      own_settled two h = ⊎_elim (λ e. absurd (miss e)) (λ z. z) (h tt)
