-- A swap of the directory that succeeds keeps the invariant.
-- Rests on what a round makes of a full bucket, on the theory of a change of the shared cells, and on a swap that fails.
use Prim.Native.Nat.{ℕ, ◌≤◌, ◌<◌}
use native.Mathlib.Omega.{arith}
use mathlib.Core.Path.{◌≡◌, refl, ap, sym, ◌∙◌, subst}
use mathlib.Core.Logic.{◌⊎◌, inl, inr, ⊎_elim}
use mathlib.Core.Bool.{Bool, true, false, not}
use Rattle.std.specs.Prelude.{Option, Some, None}
use borrow.Author.Tests.{eq-eqb, eqb-true, leb-true, leb-false, not-true}
use Rattle.interface.specs.declared.Settings.{Settings}
use Rattle.machine.specs.Choice.{assign}
use Rattle.machine.specs.Sequential.{Update, account}
use Rattle.machine.specs.Records.{Name, Body, Bucket, Leaf, kept, made, Copy, Slot, empty, announced, Cells, new_bucket}
use Rattle.machine.specs.BucketPass.{splittable, settled_at}
use Rattle.machine.specs.DirectoryPass.{leaf_of, name_of, body_made}
use Rattle.machine.specs.Steps.{created, direct}
use Rattle.machine.proofs.laws.Base.{no_both, and_true, and_parts}
use Rattle.machine.proofs.laws.Copies.{name_at, depth_at, Coherent, Partition, partition_name, partition_of, body_made_made, body_made_kept, body_made_some, bucket_of_directory_of, coherent_directory_of}
use Rattle.machine.specs.Counter.{Two, swap_d, in_d}
use Rattle.machine.proofs.invariant.Counter.{after_d}
use Rattle.machine.proofs.invariant.CounterFacts.{Rounds, HasToggle, HasSlotD, UpdateSeen, slot_toggle, flip_seen_rounds, toggle_rounds, rounds_holds, update_seen_under, last_bucket_split}
use Rattle.machine.specs.Passed.{PastState, HoldsBucket}
use Rattle.machine.specs.Tasks.{Task, about, target, leaf, held, DirectoryFresh, IsMade, own}
use Rattle.machine.proofs.invariant.Inv.{resolved, body, leaf_body, Applied, SettledIn, SettledFor, SettledSlot, OwnSettled, ResolvedTo, KeptOrResolved, InDirectory, ReadFacts, Own, View, Pair, AppliedOrRounds, Inv}
use Rattle.machine.proofs.invariant.Preservation.{goes, Reading, reading, under_announced, holds_hold}
use Rattle.machine.proofs.laws.Resolve.{SettledChange, settled_same, settled_new, Made, resolved_ok, due, body_at}
use Rattle.machine.proofs.invariant.Change.{later_directory, same_bucket, deeper_bucket, splittable_blocks, LeafEvolves, BucketsChanged, HeldKept, SplitSettles, SwapSettles, kept_same, settled_move, own_settled_move, own_move, pair_move, old_move, tickets_move}
use Rattle.machine.proofs.invariant.Transitions.{redirected_cells}
use Rattle.machine.proofs.steps.DirectorySteps.{missed_d_ok}

-- what a round of task k makes of account a's bucket, where it splits it
abbrev pub remade : Settings → Cells → Task → ℕ → Copy
remade s c k a = resolved s (leaf c a) (leaf_body c a) k.reads.slots s.workers

-- ---- a swap that succeeds

module _
    (s : Settings) (small : s.depth ≤ 32) (w : ℕ) (wn : w < s.workers) (c : Cells) (tasks : ℕ → Task) (i : Inv s c tasks) (p r : Two)
    (here : (tasks w).pc ≡ in_d p r swap_d) (fresh : DirectoryFresh c (tasks w))
  where
    abbrev k : Task
    k = tasks w

    abbrev copy : Copy
    copy = k.reads.copy

    abbrev c' : Cells
    c' = redirected_cells c k

    mine : InDirectory s p r swap_d c w k
    mine = subst (λ pc. ReadFacts s pc c w k) here (i.own w wn).read

    pub copy_coherent : Coherent s.depth (tasks w).reads.copy
    copy_coherent = mine.read.0.coherent

    pub kept_or_resolved : (a : ℕ) → KeptOrResolved s c k a
    kept_or_resolved = mine.read.1 fresh

    -- account a's bucket is split
    abbrev Split : ℕ → Type 0
    Split a = ResolvedTo s k.reads.slots (leaf c a) (leaf_body c a) a (leaf_of copy a)

    partition : Partition s.depth (leaf c)
    partition = partition_of _ i.directory

    pub remade_ok : (a : ℕ) → Made s (leaf c a) (leaf_body c a) k.reads.slots s.workers (remade s c k a)
    remade_ok a =
        resolved_ok s small (leaf c a) a (partition_name partition a) (partition.bound a) (leaf_body c a) k.reads.slots s.workers

    -- ---- the buckets afterwards

    leaf_is : (a : ℕ) → leaf c' a ≡ name_of (leaf_of copy a)
    unfolding direct
    leaf_is a = bucket_of_directory_of copy a

    bucket_is : (x : Name) → c'.buckets x ≡ created (c.buckets x) (body_made copy x)
    unfolding direct
    bucket_is x = refl

    -- a bucket no deeper than its account's is not touched
    untouched : (d a : ℕ) → d ≤ (leaf c a).depth → c'.buckets (name_at d a) ≡ c.buckets (name_at d a)
    untouched d a l = bucket_is (name_at d a) ∙ go (body_made copy (name_at d a)) refl
      where
        no_body : (b : Body) → leaf_of copy a ≡ made (name_at d a) b → KeptOrResolved s c k a → ⊥
        no_body b e (inl f) = subst IsMade (sym e ∙ f) tt
        no_body b e (inr g) = omega (arith, g.deeper, ap (λ (y : Leaf). (name_of y).depth) e)

        go : (o : Option Body) → body_made copy (name_at d a) ≡ o → created (c.buckets (name_at d a)) o ≡ c.buckets (name_at d a)
        go None e = refl
        go (Some b) e = absurd (no_body b (body_made_some small copy_coherent (name_at d a) b e a refl) (kept_or_resolved a))

    -- an account's bucket that is not split
    pub leaf_old : (a : ℕ) → leaf_of copy a ≡ kept (leaf c a) → (leaf c' a ≡ leaf c a) × (leaf_body c' a ≡ leaf_body c a)
    leaf_old a e =
        let n : leaf c' a ≡ leaf c a = leaf_is a ∙ ap name_of e in
        let b = bucket_is (leaf c a) ∙ ap (created (c.buckets (leaf c a))) (body_made_kept small copy_coherent a (leaf c a) e) in
        (n, ap (body c') n ∙ ap (λ (x : Bucket). x.state.value.body) b)

    -- and one that is
    pub leaf_new : (a : ℕ) → Split a → (leaf c' a ≡ name_of (leaf_of (remade s c k a) a)) × (leaf_body c' a ≡ body_at (remade s c k a) a)
    unfolding new_bucket
    leaf_new a g =
        let x : Name = name_at (depth_at (remade s c k a) a) a in
        let l : leaf_of copy a ≡ made x (body_at (remade s c k a) a) = g.is ∙ (remade_ok a).stands a (partition.named a) in
        let b = bucket_is x ∙ ap (created (c.buckets x)) (body_made_made small copy_coherent a x _ l) in
        (leaf_is a ∙ ap name_of g.is, ap (body c') (leaf_is a ∙ ap name_of l) ∙ ap (λ (y : Bucket). y.state.value.body) b)

    -- ---- the change

    -- an update that is due in a bucket is not settled
    pub due_open : (a j : ℕ) (x : Slot) → due (leaf c a) (leaf_body c a) j x ≡ true → SettledSlot c j x → ⊥
    unfolding settled_at
    due_open a j empty e h = no_both e refl
    due_open a j (announced u t) e h =
        let y : leaf c (account u) ≡ leaf c a = partition.shared a (account u) (eqb-true _ _ (and_parts _ _ e).0) in
        omega
        (arith, leb-false t ((leaf_body c a).settled j).ticket (not-true _ (and_parts _ _ e).1), subst (λ x. SettledIn j t (body c x)) y h)

    -- what is taken into a bucket that is split is what the slot holds
    pub taken_real :
        (a j : ℕ) → j < s.workers → due (leaf c a) (leaf_body c a) j (k.reads.slots j) ≡ true
        → k.reads.slots j ≡ c.slots j
    taken_real a j jn d = ⊎_elim (λ e. e) (λ h. absurd (due_open a j (k.reads.slots j) d h)) (i.view j w jn wn).old

    evolves : (a : ℕ) → LeafEvolves s c c' a
    unfolding splittable
    evolves a = go (kept_or_resolved a)
      where
        real :
            (b : Body) (j : ℕ)
            → SettledChange (leaf_body c a) b (k.reads.slots j) ((j < s.workers)
            × (due (leaf c a) (leaf_body c a) j (k.reads.slots j) ≡ true)) j
            → SettledChange (leaf_body c a) b (c.slots j) (Unit {0}) j
        real b j (settled_same e) = settled_same e
        real b j (settled_new h l e) = let z = taken_real a j h.0 h.1 in settled_new tt (rw z at l) (rw z at e)

        go : KeptOrResolved s c k a → LeafEvolves s c c' a
        go (inl e) = let z = leaf_old a e in same_bucket z.0 (λ j. settled_same (ap (λ (b : Body). b.settled j) z.1)) (λ h. z.1)
        go (inr g) =
            deeper_bucket (rw (leaf_is a) g.deeper) (splittable_blocks s _ _ g.splits)
            (λ j. rw (leaf_new a g).1 (real _ j ((remade_ok a).settled_change a j (partition.named a))))

    later : c.directory.stamp < c'.directory.stamp
    unfolding direct
    later = omega arith

    pub buckets_changed : BucketsChanged s c c'
    unfolding direct
    buckets_changed = record { slots = refl; directory_evolves = later_directory later; evolves = evolves }

    -- ---- the workers

    -- an update that was read, and whose bucket is split, is settled
    serves : (j t : ℕ) (u : Update) → j < s.workers → k.reads.slots j ≡ announced u t → Split (account u) → SettledFor c' j t (account u)
    unfolding settled_at
    serves j t u jn e g = go (settled_at (leaf_body c (account u)) j t) refl
      where
        served : ((body_at (remade s c k (account u)) (account u)).settled j).ticket ≡ t → SettledFor c' j t (account u)
        served h = rw (leaf_new (account u) g).1 (omega arith)

        go : (v : Bool) → settled_at (leaf_body c (account u)) j t ≡ v → SettledFor c' j t (account u)
        go true h = settled_move s c c' buckets_changed j (announced u t) (leb-true t _ h)
        go false h =
            served ((remade_ok (account u)).served j t u jn e (rw e (and_true (eq-eqb _ _ (partition.named (account u))) (ap not h))))

    module _ (j : ℕ) (jn : j < s.workers) where
      abbrev q : Task
      q = tasks j

      abbrev UpdateSeenNow : Type 0
      UpdateSeenNow = UpdateSeen q.reads.directory.stamp c.directory.stamp q.pc

      -- the bucket that a worker holds is not touched
      pub own_same : HoldsBucket q.pc → own c' q ≡ own c q
      own_same h =
          let o = holds_hold s c j q q.pc h (i.own j jn).read in
          subst (λ x. c'.buckets x ≡ c.buckets x) (sym o.named) (untouched (held q).depth (target q) o.depth)

      -- a worker whose update everybody has read, and whose bucket is split, is served
      own_settled_split : UpdateSeenNow → Split (target q) → OwnSettled c' j q
      own_settled_split l g =
          let a = under_announced s c j q q.pc (update_seen_under _ _ q.pc l) (i.own j jn).slot in
          let e : target q ≡ account a.wanted = ap about a.asks in
          let x = (i.pair j w jn wn).seen l (subst (HasSlotD s.workers j) (sym here) jn) fresh in
          subst (SettledFor c' j q.ticket) (sym e) (serves j q.ticket a.wanted jn (x ∙ a.slot) (subst Split e g))

      own_kept : Own s c' j q
      own_kept = own_move s c c' buckets_changed j q (i.own j jn) kept own_settled last
        where
          kept : HeldKept s c c' j q q.pc
          kept h = let e = own_same h in kept_same s (ap (λ (x : Bucket). x.state) e) (λ f. ap (λ (x : Bucket). x.toggle j) e)

          split :
              UpdateSeenNow → (leaf c (target q)).depth < (leaf c' (target q)).depth → KeptOrResolved s c k (target q) → OwnSettled c' j q
          split l d (inl e) = absurd (omega (arith, ap (λ (x : Name). x.depth) (leaf_old (target q) e).0))
          split l d (inr g) = own_settled_split l g

          own_settled : SplitSettles s c c' j q q.pc
          own_settled l d = split l d (kept_or_resolved (target q))

          bucket_split :
              UpdateSeenNow → IsMade (leaf_of copy (target q)) ⊎ OwnSettled c j q → KeptOrResolved s c k (target q) → OwnSettled c' j q
          bucket_split l (inl y) (inl e) = absurd (subst IsMade e y)
          bucket_split l (inl y) (inr g) = own_settled_split l g
          bucket_split l (inr y) f = own_settled_move s c c' buckets_changed j q y

          last : SwapSettles s c c' j q q.pc
          last h f =
              let v = last_bucket_split q.reads.directory.stamp c.directory.stamp q.pc h in
              inr (bucket_split v.1 ((i.pair j w jn wn).splits_bucket v.0 (subst (PastState s.workers j) (sym here) jn) fresh)
              (kept_or_resolved (target q)))

      bits_applied_kept : (x : Name) → AppliedOrRounds s j c' q x
      unfolding new_bucket
      bits_applied_kept x = rw (bucket_is x) (go (body_made copy x))
        where
          go : (o : Option Body) → Applied (created (c.buckets x) o) j ⊎ (Rounds q.pc × (held q ≡ x))
          go None = i.bits_applied x j jn
          go (Some b) = inl refl

    module _ (j m : ℕ) (jn : j < s.workers) (mn : m < s.workers) where
      toggle_same : HasToggle (tasks m).pc → own c' (tasks m) ≡ own c (tasks m)
      toggle_same h = own_same m mn (rounds_holds (tasks m).pc (toggle_rounds (tasks m).pc h))

      view_kept : View s j c' (tasks m)
      unfolding direct
      view_kept =
          let v = i.view j m jn mn in
          record {
            bit = λ h. let e = toggle_same h in rw e (v.bit h);
            slot = λ h. let e = toggle_same (slot_toggle s.workers j (tasks m).pc h) in rw e (v.slot h);
            old = old_move s c c' buckets_changed j ((tasks m).reads.slots j) v.old;
          }

      pair_kept : Pair s j c' (tasks j) (tasks m)
      pair_kept =
          let o = i.pair j m jn mn in
          pair_move s c c' buckets_changed j m (tasks j) (tasks m) (i.own m mn) o (λ l d e h f.
          let x = own_same j jn (rounds_holds (tasks j).pc (flip_seen_rounds _ (own c' (tasks j)).state.stamp (tasks j).pc l)) in
          let y = toggle_same h in
          rw x (o.sees_flip (rw x at l) (rw x at d) e h (rw y at f)))

    -- the cells changed, nobody moved
    pub redirect_kept : Inv s c' tasks
    unfolding direct
    redirect_kept = record {
      directory = coherent_directory_of copy copy_coherent;
      tickets = tickets_move s c c' buckets_changed i.tickets;
      bits_applied = λ x j jn. bits_applied_kept j jn x;
      own = own_kept;
      view = view_kept;
      pair = pair_kept;
    }

    -- the directory is no longer the one that the worker has read, so it goes on as after a swap that fails
    pub redirect_ok : Inv s c' (assign tasks w (goes k (after_d p r) k.reads))
    redirect_ok = reading s w wn c' tasks (goes k (after_d p r) k.reads) redirect_kept
        (subst (λ pc. Reading s w c' (goes k pc k.reads) (goes k (after_d p r) k.reads)) (sym here)
        (missed_d_ok s w c' k p r (λ e. omega (arith, later))))
