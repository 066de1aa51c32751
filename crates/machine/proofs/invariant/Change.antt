-- What a change of the shared cells keeps: the theory that the flip, the bucket swap and the directory swap share.
-- Rests on the invariant and on what happens to one worker's entry of a bucket.
use Prim.Native.Nat.{ℕ, ◌≤◌, ◌<◌}
use native.Mathlib.Omega.{arith}
use mathlib.Core.Path.{◌≡◌, refl, ap, sym, ◌∙◌, subst}
use mathlib.Core.Logic.{◌⊎◌, inl, inr, ⊎_elim}
use mathlib.Core.Bool.{true}
use Rattle.interface.specs.declared.Settings.{Settings}
use Rattle.machine.specs.Sequential.{account}
use Rattle.machine.specs.Records.{Name, Body, Bucket, Slot, empty, announced, Cells}
use Rattle.machine.specs.BucketPass.{splittable, holds_back}
use Rattle.machine.specs.DirectoryPass.{leaf_of}
use Rattle.machine.specs.Counter.{Two, one, two, BStep, read_s, read_t, swap, slot_b, DStep, copy_d, swap_d, slot_d, state, PC, idle, announce, look₁, look₂, over, read_d, flip, check_d, check_s, in_b, in_d}
use Rattle.machine.proofs.invariant.CounterFacts.{IsTwo, Rounds, HasSlotD, UpdateSeen, BucketSplit, Second, LastRound, update_seen_two, second_rounds}
use Rattle.machine.specs.Passed.{PastState, HoldsBucket}
use Rattle.machine.specs.Tasks.{Task, target, leaf, held, DirectoryFresh, IsMade, own}
use Rattle.machine.proofs.invariant.Inv.{body, leaf_body, SettledOrBlocked, FreshOrSettled, HeldOrSuperseded, HeldOrSettled, BlockedOrSettled, SeesFlip, OldSlot, Fresh, Applied, Pending, ticket_of, SettledIn, SettledSlot, OwnSettled, Superseded, Hold, SeenState, SeenAt, ResolvedTo, KeptOrResolved, SeenDirectory, ReadAt, RoundAt, Announced, Looking, SlotFacts, ReadFacts, Own, Pair}
use Rattle.machine.proofs.laws.Resolve.{SettledChange, settled_same, settled_new, settled_change_le, settled_change_keep}

-- ---- a change

-- the directory's cell: as it was, or with a later stamp
pub data DirectoryEvolves (c c' : Cells) : Type 0 where
  same_directory : c'.directory ≡ c.directory → DirectoryEvolves c c'
  later_directory : c.directory.stamp < c'.directory.stamp → DirectoryEvolves c c'

module _ (s : Settings) where
  -- An account's bucket, x with body b, becomes x' with body b': it is the same bucket, or a deeper one made of it, which held back.
  pub data Evolves (slots : ℕ → Slot) (x : Name) (b : Body) (x' : Name) (b' : Body) : Type 0 where
    same_bucket : x' ≡ x → ((i : ℕ) → SettledChange b b' (slots i) (Unit {0}) i) → (holds_back s x.depth b ≡ true → b' ≡ b)
        → Evolves slots x b x' b'
    deeper_bucket :
        x.depth < x'.depth → holds_back s x.depth b ≡ true → ((i : ℕ) → SettledChange b b' (slots i) (Unit {0}) i)
        → Evolves slots x b x' b'

  -- What becomes of the bucket, of depth d, that worker j holds at counter pc, with ticket t and the stamp i of the state it has read.
  pub record KeptBucket (j t d : ℕ) (pc : PC) (i : ℕ) (x x' : Bucket) : Type 0 where
    pub unchanged : holds_back s d x.state.value.body ≡ true → x'.state.value.body ≡ x.state.value.body
    pub later : x.state.stamp ≤ x'.state.stamp
    pub same : x'.state.stamp ≡ x.state.stamp → x'.state.value ≡ x.state.value
    pub applied :
        Rounds pc → (Applied x j → SettledOrBlocked s j t d x.state.value.body) → Applied x' j
        → SettledOrBlocked s j t d x'.state.value.body
    pub second : Second pc → (Pending x j → i ≡ x.state.stamp) → Pending x' j → i ≡ x'.state.stamp
    pub settled : (x.state.value.body.settled j).ticket ≤ (x'.state.value.body.settled j).ticket

  -- what becomes of account a's bucket
  abbrev pub LeafEvolves : Cells → Cells → ℕ → Type 0
  LeafEvolves c c' a = Evolves c.slots (leaf c a) (leaf_body c a) (leaf c' a) (leaf_body c' a)

  -- A change of the cells, of slots too.
  pub record CellsChanged (c c' : Cells) : Type 0 where
    pub directory_evolves : DirectoryEvolves c c'
    pub evolves : (a : ℕ) → LeafEvolves c c' a

  -- A change of the cells that leaves the slots.
  pub record BucketsChanged (c c' : Cells) : Type 0 where
    pub slots : c'.slots ≡ c.slots
    pub directory_evolves : DirectoryEvolves c c'
    pub evolves : (a : ℕ) → LeafEvolves c c' a

  -- ---- what is asked of a change, for worker j with task k at counter pc

  module _ (c c' : Cells) (j : ℕ) (k : Task) (pc : PC) where
    abbrev pub OwnKept : Type 0
    OwnKept = KeptBucket j k.ticket (held k).depth pc k.reads.state.stamp (own c k) (own c' k)

    -- that its bucket is kept
    abbrev pub HeldKept : Type 0
    HeldKept = HoldsBucket pc → OwnKept

    -- that its update is settled if its account's bucket was split
    abbrev pub SplitSettles : Type 0
    SplitSettles =
        UpdateSeen k.reads.directory.stamp c.directory.stamp pc → (leaf c (target k)).depth < (leaf c' (target k)).depth
        → OwnSettled c' j k

    -- that its update is settled if it is past the last directory read and the directory was swapped
    abbrev pub SwapSettles : Type 0
    SwapSettles = LastRound pc → FreshOrSettled c j k → FreshOrSettled c' j k

  -- ---- one bucket

  -- a bucket whose state is as it was is kept, if in its rounds the worker's bit is too
  pub kept_same :
      {j t d : ℕ} {pc : PC} {i : ℕ} {x x' : Bucket} → x'.state ≡ x.state → (Rounds pc → x'.toggle j ≡ x.toggle j)
      → KeptBucket j t d pc i x x'
  kept_same {pc = pc} e f = record {
    unchanged = λ h. rw e;
    later = rw e (omega arith);
    same = λ h. rw e;
    applied = λ r h. rw (e, f r) h;
    second = λ r h. rw (e, f (second_rounds pc r)) h;
    settled = rw e (omega arith);
  }

  settled_on :
      {slots : ℕ → Slot} {x x' : Name} {b b' : Body} (j t : ℕ) → Evolves slots x b x' b' → SettledIn j t b → SettledIn j t b'
  settled_on j t (same_bucket e f g) h = omega (arith, settled_change_le (f j))
  settled_on j t (deeper_bucket l m f) h = omega (arith, settled_change_le (f j))

  -- h is the body of the superseded bucket, b that of the one that superseded it
  superseded_on :
      {j t d : ℕ} {x : Slot} {T : Type 0} {h h' b b' : Body} → ticket_of x ≤ t → SettledChange b b' x T j → h' ≡ h
      → Superseded s j t d h b → Superseded s j t d h' b'
  superseded_on l f e g = rw e (record {
    blocked = g.blocked;
    settled = λ le. let q = g.settled le in settled_change_keep f (rw q (omega arith)) ∙ q;
  })

  pub splittable_blocks : (d : ℕ) (b : Body) → splittable s d b ≡ true → holds_back s d b ≡ true
  unfolding holds_back
  splittable_blocks d b h = h

  -- ---- what a worker has read in the directory pass is no later than the directory

  slot_bounded :
      (n j p : ℕ) (k : Task) (c : Cells) (pc : PC) → HasSlotD n j pc → ReadFacts s pc c p k
      → k.reads.directory.stamp ≤ c.directory.stamp
  slot_bounded n j p k c (in_d _ r swap_d) x h = h.read.0.bounded
  slot_bounded n j p k c (in_d _ r (slot_d i)) x h = h.read.0.bounded
  slot_bounded n j p k c (in_d _ r (state i)) x h = h.read.0.bounded
  slot_bounded n j p k c _ x h = elim x [ ]

  past_state_bounded :
      (n j p : ℕ) (k : Task) (c : Cells) (pc : PC) → PastState n j pc → ReadFacts s pc c p k
      → k.reads.directory.stamp ≤ c.directory.stamp
  past_state_bounded n j p k c (in_d _ r swap_d) x h = h.read.0.bounded
  past_state_bounded n j p k c (in_d _ r (state i)) x h = h.read.0.bounded
  past_state_bounded n j p k c _ x h = elim x [ ]

  -- ---- all cells

  module _ (c c' : Cells) (mv : CellsChanged c c') where
    -- a settled update stays settled
    pub settled_moved : (j : ℕ) (x : Slot) → SettledSlot c j x → SettledSlot c' j x
    settled_moved j empty h = tt
    settled_moved j (announced u t) h = settled_on j t (mv.evolves (account u)) h

    own_settled_moved : (j : ℕ) (k : Task) → OwnSettled c j k → OwnSettled c' j k
    own_settled_moved j k h = settled_on j k.ticket (mv.evolves (target k)) h

    -- ---- the directory

    stamp_up : c.directory.stamp ≤ c'.directory.stamp
    stamp_up = elim mv.directory_evolves [ same_directory e ↦ rw e (omega arith) | later_directory l ↦ omega arith ]

    -- to a worker whose stamp is the new one the directory is as it was
    fresh_same : (k : Task) → k.reads.directory.stamp ≤ c.directory.stamp → DirectoryFresh c' k → c'.directory ≡ c.directory
    fresh_same k l e = elim mv.directory_evolves [ same_directory f ↦ f | later_directory g ↦ absurd (omega arith) ]

    seen_directory_move : (k : Task) → SeenDirectory s c k → SeenDirectory s c' k
    seen_directory_move k h = record {
      bounded = omega (arith, stamp_up);
      same = λ e. let q = fresh_same k h.bounded e in rw q (h.same (rw q at e));
      coherent = h.coherent;
    }

    kept_or_resolved_move : (k : Task) (a : ℕ) → c'.directory ≡ c.directory → KeptOrResolved s c k a → KeptOrResolved s c' k a
    kept_or_resolved_move k a q h = go (mv.evolves a) h
      where
        leaf_same : leaf c' a ≡ leaf c a
        leaf_same = rw q

        go : LeafEvolves c c' a → KeptOrResolved s c k a → KeptOrResolved s c' k a
        go v (inl z) = inl (rw q z)
        go (same_bucket e f g) (inr z) =
            let b : leaf_body c' a ≡ leaf_body c a = g (splittable_blocks (leaf c a).depth (leaf_body c a) z.splits) in
            inr (subst (λ x. ResolvedTo s k.reads.slots x (leaf_body c' a) a (leaf_of k.reads.copy a)) (sym e) (rw b z))
        go (deeper_bucket l m f) (inr z) = absurd (omega (arith, ap (λ x. x.depth) leaf_same))

    depth_up : (a : ℕ) → (leaf c a).depth ≤ (leaf c' a).depth
    depth_up a = elim (mv.evolves a) [ same_bucket e f g ↦ rw e (omega arith) | deeper_bucket l m f ↦ omega arith ]

    -- ---- worker j with task k

    module _ (j : ℕ) (k : Task) where
      module _ (slot : c'.slots j ≡ c.slots j) where
        settled_slot_move : SettledSlot c j (c.slots j) → SettledSlot c' j (c'.slots j)
        settled_slot_move h = rw slot (settled_moved j (c.slots j) h)

        announced_move : Announced s c j k → Announced s c' j k
        announced_move h = record { wanted = h.wanted; asks = h.asks; slot = rw slot h.slot }

        looking_move : Looking s c j k → Looking s c' j k
        looking_move h = record { wanted = h.wanted; asks = h.asks; settled = settled_slot_move h.settled }

        slot_facts_move : (pc : PC) → SlotFacts s pc c j k → SlotFacts s pc c' j k
        slot_facts_move idle h = (h.0, settled_slot_move h.1)
        slot_facts_move announce h =
            record { wanted = h.wanted; asks = h.asks; settled = settled_slot_move h.settled; newer = rw slot h.newer }
        slot_facts_move look₁ h = looking_move h
        slot_facts_move look₂ h = looking_move h
        slot_facts_move over h = absurd h
        slot_facts_move (read_d p) h = announced_move h
        slot_facts_move (flip p) h = announced_move h
        slot_facts_move (check_d p x) h = announced_move h
        slot_facts_move (check_s p x) h = announced_move h
        slot_facts_move (in_b p r x) h = announced_move h
        slot_facts_move (in_d p r x) h = announced_move h

      -- ---- its bucket

      abbrev SupersededIn : Cells → Type 0
      SupersededIn d = Superseded s j k.ticket (held k).depth (body d (held k)) (leaf_body d (target k))

      hold_move : {pc : PC} → ticket_of (c.slots j) ≤ k.ticket → OwnKept c c' j k pc → Hold s c j k → Hold s c' j k
      hold_move l b h = record { named = h.named; depth = omega (arith, depth_up (target k)); is = go (mv.evolves (target k)) h.is }
        where
          superseded :
              {T : Type 0} → SettledChange (leaf_body c (target k)) (leaf_body c' (target k)) (c.slots j) T j → SupersededIn c
              → SupersededIn c'
          superseded f g = superseded_on l f (b.unchanged g.blocked) g

          go : LeafEvolves c c' (target k) → HeldOrSuperseded s c j k → HeldOrSuperseded s c' j k
          go (same_bucket e f g) (inl z) = inl (z ∙ sym e)
          go (same_bucket e f g) (inr z) = inr (superseded (f j) z)
          go (deeper_bucket e m f) (inl z) = inr (superseded (f j) (rw z (record { blocked = m; settled = λ l. refl })))
          go (deeper_bucket e m f) (inr z) = inr (superseded (f j) z)

      -- if its account's bucket was split, its update is settled
      module _ (own_settled : (leaf c (target k)).depth < (leaf c' (target k)).depth → OwnSettled c' j k) where
        -- it is settled, or what holds of a bucket that stays holds
        unless_split :
            {A A' : Type 0}
            → (leaf c' (target k) ≡ leaf c (target k)
            → (holds_back s (leaf c (target k)).depth (leaf_body c (target k)) ≡ true → leaf_body c' (target k) ≡ leaf_body c (target k))
            → A → A')
            → A ⊎ OwnSettled c j k → A' ⊎ OwnSettled c' j k
        unless_split {A} {A'} h (inr z) = inr (own_settled_moved j k z)
        unless_split {A} {A'} h (inl z) =
            elim (mv.evolves (target k)) [ same_bucket e f g ↦ inl (h e g z) | deeper_bucket l m f ↦ inr (own_settled l) ]

        leaf_move : HeldOrSettled c j k → HeldOrSettled c' j k
        leaf_move = unless_split (λ e g z. z ∙ sym e)

        blocked_move : BlockedOrSettled s c j k → BlockedOrSettled s c' j k
        blocked_move = unless_split (λ e g z.
            ap (λ (x : Name). holds_back s x.depth (leaf_body c' (target k))) e ∙ ap (holds_back s (leaf c (target k)).depth) (g z) ∙ z)

      -- ---- its rounds

      seen_state_move : {pc : PC} (r : Two) → (IsTwo r → Second pc) → OwnKept c c' j k pc → SeenState s r c j k → SeenState s r c' j k
      seen_state_move r h b o = record {
        bounded = omega (arith, b.later);
        same = λ e. let y : Fresh c k = omega (arith, b.later) in o.same y ∙ sym (b.same (sym e ∙ y));
        second = λ t. b.second (h t) (o.second t);
      }

      seen_at_move : (p r : Two) (x : BStep) → OwnKept c c' j k (in_b p r x) → SeenAt s r x c j k → SeenAt s r x c' j k
      seen_at_move p r read_s b o = tt
      seen_at_move p r read_t b o = seen_state_move r (λ t. (t, tt)) b o
      seen_at_move p r swap b o = seen_state_move r (λ t. (t, tt)) b o
      seen_at_move p r (slot_b i) b o = seen_state_move r (λ t. (t, tt)) b o

      all_kept_or_resolved_move :
          SeenDirectory s c k × (DirectoryFresh c k → (a : ℕ) → KeptOrResolved s c k a)
          → SeenDirectory s c' k × (DirectoryFresh c' k → (a : ℕ) → KeptOrResolved s c' k a)
      all_kept_or_resolved_move h =
          (seen_directory_move k h.0, λ e a. let q = fresh_same k h.0.bounded e in kept_or_resolved_move k a q (h.1 (rw q at e) a))

      read_at_move : (x : DStep) → ReadAt s x c k → ReadAt s x c' k
      read_at_move copy_d h = tt
      read_at_move swap_d h = all_kept_or_resolved_move h
      read_at_move (slot_d i) h = (seen_directory_move k h.0, h.1)
      read_at_move (state i) h = all_kept_or_resolved_move h

      round_at_move : (p r : Two) (x : DStep) → SwapSettles c c' j k (in_d p r x) → RoundAt s p r x c j k → RoundAt s p r x c' j k
      round_at_move p r copy_d last h = tt
      round_at_move p r swap_d last h = λ b. last (b, tt) (h b)
      round_at_move p r (slot_d i) last h = λ b. last (b, tt) (h b)
      round_at_move p r (state i) last h = λ b. last (b, tt) (h b)

      -- ---- what it has read

      read_facts_move :
          (pc : PC) → ticket_of (c.slots j) ≤ k.ticket → HeldKept c c' j k pc → SplitSettles c c' j k pc → SwapSettles c c' j k pc
          → ReadFacts s pc c j k
          → ReadFacts s pc c' j k
      read_facts_move idle l kept own_settled last h = tt
      read_facts_move announce l kept own_settled last h = tt
      read_facts_move look₁ l kept own_settled last h = tt
      read_facts_move look₂ l kept own_settled last h = hold_move l (kept tt) h
      read_facts_move over l kept own_settled last h = absurd h
      read_facts_move (read_d p) l kept own_settled last h = tt
      read_facts_move (flip p) l kept own_settled last h = (hold_move l (kept tt) h.0, λ t. leaf_move (own_settled t) (h.1 t))
      read_facts_move (check_d one x) l kept own_settled last h = tt
      read_facts_move (check_d two one) l kept own_settled last h = blocked_move (own_settled tt) h
      read_facts_move (check_d two two) l kept own_settled last h = own_settled_moved j k h
      read_facts_move (check_s one x) l kept own_settled last h = (hold_move l (kept tt) h.0, tt)
      read_facts_move (check_s two one) l kept own_settled last h = (hold_move l (kept tt) h.0, blocked_move (own_settled tt) h.1)
      read_facts_move (check_s two two) l kept own_settled last h =
          (hold_move l (kept tt) h.0, omega (arith, h.1, (kept tt).settled))
      read_facts_move (in_b p r x) l kept own_settled last h = record {
        hold = hold_move l (kept tt) h.hold;
        pass = λ t. leaf_move (own_settled t) (h.pass t);
        applied = (kept tt).applied tt h.applied;
        seen = seen_at_move p r x (kept tt) h.seen;
      }
      read_facts_move (in_d p r x) l kept own_settled last h = record {
        blocked = λ t. blocked_move (own_settled (update_seen_two p r _ _ x t)) (h.blocked t);
        read = read_at_move x h.read;
        round = round_at_move p r x last h.round;
      }

    -- what worker j knows it still knows, if its slot is as it was
    pub own_moved :
        (j : ℕ) (k : Task) → c'.slots j ≡ c.slots j → Own s c j k
        → HeldKept c c' j k k.pc → SplitSettles c c' j k k.pc → SwapSettles c c' j k k.pc → Own s c' j k
    own_moved j k slot o kept own_settled last = record {
      ticket = rw slot o.ticket;
      slot = slot_facts_move j k slot k.pc o.slot;
      read = read_facts_move j k k.pc o.ticket kept own_settled last o.read;
    }

  -- ---- the slots left

  module _ (c c' : Cells) (ch : BucketsChanged c c') where
    cells_changed : CellsChanged c c'
    cells_changed = record { directory_evolves = ch.directory_evolves; evolves = ch.evolves }

    -- a settled update stays settled
    pub settled_move : (j : ℕ) (x : Slot) → SettledSlot c j x → SettledSlot c' j x
    settled_move = settled_moved c c' cells_changed

    pub own_settled_move : (j : ℕ) (k : Task) → OwnSettled c j k → OwnSettled c' j k
    own_settled_move = own_settled_moved c c' cells_changed

    -- what worker j knows it still knows
    pub own_move :
        (j : ℕ) (k : Task) → Own s c j k → HeldKept c c' j k k.pc → SplitSettles c c' j k k.pc → SwapSettles c c' j k k.pc
        → Own s c' j k
    own_move j k = own_moved c c' cells_changed j k (ap (λ f. f j) ch.slots)

    pub old_move : (j : ℕ) (x : Slot) → OldSlot c j x → OldSlot c' j x
    old_move j x (inl e) = inl (rw ch.slots e)
    old_move j x (inr h) = inr (settled_move j x h)

    -- the directory left
    pub same_swap_settles : c'.directory ≡ c.directory → (j : ℕ) (k : Task) (pc : PC) → SwapSettles c c' j k pc
    same_swap_settles e j k pc l (inl h) = inl (rw e h)
    same_swap_settles e j k pc l (inr h) = inr (own_settled_move j k h)

    -- no ticket is settled before it is announced
    pub tickets_move :
        ((a j : ℕ) → ((leaf_body c a).settled j).ticket ≤ ticket_of (c.slots j)) → (a j : ℕ)
        → ((leaf_body c' a).settled j).ticket ≤ ticket_of (c'.slots j)
    tickets_move h a j = rw ch.slots (elim (ch.evolves a) [ same_bucket e f g ↦ bound (f j) | deeper_bucket l m f ↦ bound (f j) ])
      where
        bound :
            SettledChange (leaf_body c a) (leaf_body c' a) (c.slots j) (Unit {0}) j
            → ((leaf_body c' a).settled j).ticket ≤ ticket_of (c.slots j)
        bound (settled_same e) = rw e (h a j)
        bound (settled_new t l e) = omega arith

    -- ---- the directory's part of a pair: worker j with task k, and q, which is worker p's

    pub seen_move :
        (j p : ℕ) (k q : Task) → Own s c p q → Pair s j c k q
        → UpdateSeen k.reads.directory.stamp c'.directory.stamp k.pc → HasSlotD s.workers j q.pc → DirectoryFresh c' q
        → q.reads.slots j ≡ c'.slots j
    seen_move j p k q o h l x e =
        let z = fresh_same c c' cells_changed q (slot_bounded s.workers j p q c q.pc x o.read) e in
        rw ch.slots (h.seen (rw z at l) x (rw z at e))

    splits_bucket_move :
        (j p : ℕ) (k q : Task) → Own s c p q → Pair s j c k q
        → BucketSplit k.reads.directory.stamp c'.directory.stamp k.pc → PastState s.workers j q.pc → DirectoryFresh c' q
        → IsMade (leaf_of q.reads.copy (target k)) ⊎ OwnSettled c' j k
    splits_bucket_move j p k q o h l x e =
        let z = fresh_same c c' cells_changed q (past_state_bounded s.workers j p q c q.pc x o.read) e in
        ⊎_elim inl (λ y. inr (own_settled_move j k y)) (h.splits_bucket (rw z at l) x (rw z at e))

    -- and what is still to be guaranteed at one bucket
    pub pair_move : (j p : ℕ) (k q : Task) → Own s c p q → Pair s j c k q → SeesFlip c' j k q → Pair s j c' k q
    pair_move j p k q o h r = record { sees_flip = r; seen = seen_move j p k q o h; splits_bucket = splits_bucket_move j p k q o h }
