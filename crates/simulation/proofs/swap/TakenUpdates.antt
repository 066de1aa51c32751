-- What taking the updates of one split bucket does to the words in the middle of a directory swap: the machine's working copy goes along.
-- Rests on the split in place, and on working copies by account.
use Prim.Native.Nat.{ℕ, zero, suc, ◌+◌, ◌-◌, ◌*◌, ◌%◌, ◌^◌, ◌≤◌, ◌<◌}
use native.Mathlib.Omega.{arith}
use native.Mathlib.Nat.{mod-eq_of_lt, pow-suc, le_refl, le_of_suc-le}
use mathlib.Core.Path.{◌≡◌, refl, ap, sym, ◌∙◌, subst}
use mathlib.Core.Logic.{inl, inr}
use mathlib.Core.Bool.{Bool, true, false, not}
use mathlib.Core.List.{List}
use lib.Dec.{eqb}
use lib.ListN.{length}
use borrow.Author.Tests.{eqb-true}
use Rattle.interface.specs.Limits.{in_range, Range}
use Rattle.interface.proofs.Laws.{range_of}
use Rattle.interface.specs.declared.Settings.{Settings}
use Rattle.machine.specs.Choice.{when◌then◌else◌, ◌and◌}
use Rattle.machine.specs.Sequential.{Update, account, first_bits}
use Rattle.machine.specs.Records.{Name, Body, Bucket, Leaf, kept, made, Copy, Slot, empty, announced, Cells, no_bits, new_bucket}
use Rattle.machine.specs.BucketPass.{settled_at, holds_back, splittable, carry_out}
use Rattle.machine.specs.DirectoryPass.{leaf_of, name_of, replace_leaf, child, split, split_leaf, split_while, carry_leaf, take_update, take_slot, take_slots}
use Rattle.fields.specs.Fields.{slot_account, slot_total, slot_size, record_toggle, record_depth, record_prefix}
use Rattle.fields.specs.Regions.{read_at, pool_size, words_needed, record', start_of, worker}
use Rattle.machine.proofs.invariant.Change.{splittable_blocks}
use Rattle.machine.proofs.laws.Base.{no_both, if_eq, and_parts}
use Rattle.machine.proofs.laws.Copies.{leaf_split, Coherent, depth_at_le, own-leaf, refined_take_slots, splittable_below, due}
use Rattle.machine.specs.Tasks.{leaf, IsMade}
use Rattle.bucket.specs.declared.BucketState.{BucketState}
use Rattle.rules.specs.declared.Descriptor.{Descriptor}
use Rattle.rules.specs.Rules.{bit, descriptor_in}
use Rattle.rounds.specs.Rounds.{carry_of}
use Rattle.simulation.specs.Buckets.{bits_of, slot_from, Means}
use Rattle.simulation.proofs.buckets.Ties.{carry_means}
use Rattle.record.proofs.States.{loaded_count}
use Rattle.layout.specs.Shape.{word}
use Rattle.layout.specs.Addresses.{record_of}
use Rattle.spares.specs.Records.{spare_of}
use Rattle.record.specs.Bucket.{bucket_at, holds_back_at, splittable_at}
use Rattle.storing.specs.Stores.{with_bucket_at}
use Rattle.splits.specs.Splits.{half_at, deepened_at, split_at, split_while_at}
use Rattle.taking.specs.Taking.{carried_at, taken_at, taken_all}
use Rattle.simulation.specs.Meaning.{slot_in, name_in, Keeps, Directs}
use Rattle.simulation.proofs.frames.Frames.{worker_wide, descriptor_near, keeps_same}
use Rattle.simulation.proofs.swap.Halves.{Deepened, Halved}
use Rattle.simulation.proofs.frames.Entering.{depth_bound, directed_record, Describes, slot_describes}
use Rattle.simulation.proofs.own.Answering.{holds_back_is, splittable_is}
use Rattle.simulation.proofs.frames.BucketWords.{Stored, stored_words}
use Rattle.rounds.proofs.Sizes.{carry_count}
use Rattle.simulation.proofs.frames.Storing.{deepened-at, stored_beside, restated}
use Rattle.simulation.proofs.swap.Halving.{halved_at}
use Rattle.simulation.proofs.frames.OwnWorker.{SeenSlots, made_in, read_near}
use Rattle.simulation.proofs.swap.LeafReplaced.{replaced_mid}
use Rattle.simulation.proofs.swap.InPlace.{name_short, split_mid, Content, Mid}

-- record r keeps a bucket of body b
record KeepsBody (s : Settings) (l : List ℕ) (r : ℕ) (b : Body) : Type 0 where
  bucket : Bucket
  keeps : Keeps s l r bucket
  body : bucket.state.value.body ≡ b

-- ---- the words at the beginning

-- each current record keeps its bucket, and worker w has read these slots
pub record SwapReady (s : Settings) (l₀ : List ℕ) (c₀ : Cells) (w : ℕ) (slots : ℕ → Slot) : Type 0 where
  pub range : in_range s.workers s.capacity s.depth ≡ true
  pub enough : words_needed s ≤ length l₀
  pub keeps : (a r : ℕ) → Directs s l₀ a r → Keeps s l₀ r (c₀.buckets (leaf c₀ a))
  pub known : w < s.workers
  pub seen : SeenSlots s w l₀ slots

module _ {s : Settings} {l₀ : List ℕ} {c₀ : Cells} {w : ℕ} {slots : ℕ → Slot} (swap_ready : SwapReady s l₀ c₀ w slots) where
  limits : Range s.workers s.capacity s.depth
  limits = range_of s.workers s.capacity s.depth swap_ready.range

  small : s.depth ≤ 32
  small = depth_bound s swap_ready.range

  abbrev Middle : List ℕ → Copy → Type 0
  Middle = Mid s l₀ c₀

  module _ (l : List ℕ) (c : Copy) (mid : Middle l c) where
    enough' : words_needed s ≤ length l
    enough' = omega (arith, mid.frame.same_length, swap_ready.enough)

    abbrev start_at : ℕ → ℕ
    start_at a = start_of s (record' (mid.index a))

    keeps_at : (a : ℕ) (x : Name) (b : Body) → leaf_of c a ≡ made x b → KeepsBody s l (mid.index a) b
    unfolding new_bucket
    keeps_at a x b e = go (subst (Content s l₀ c₀ l (mid.index a) a) e (mid.keeps a).content)
      where
        go : Content s l₀ c₀ l (mid.index a) a (made x b) → KeepsBody s l (mid.index a) b
        go (inl h) = record {
          bucket = c₀.buckets (leaf c₀ a);
          keeps = keeps_same s l₀ l _ _ h.old.same (swap_ready.keeps a _ h.old.was);
          body = sym h.body;
        }
        go (inr h) = record { bucket = new_bucket b; keeps = h.1; body = refl }

    record-at : (a : ℕ) → record_of l s a ≡ start_at a
    record-at a = directed_record s l enough' a (mid.index a) (mid.keeps a).directs

    -- the tests on the words are those on the leaf
    name-of : (a : ℕ) (x : Name) (b : Body) → leaf_of c a ≡ made x b → name_in s l (mid.index a) ≡ x
    name-of a x b e = (mid.keeps a).named ∙ ap name_of e

    holds-back-at : (a : ℕ) (x : Name) (b : Body) → leaf_of c a ≡ made x b → holds_back_at l s (start_at a) ≡ holds_back s x.depth b
    holds-back-at a x b e =
        let h = keeps_at a x b e in
        let g = limits in
        holds_back_is s (omega arith) (omega arith) l (mid.index a) h.bucket h.keeps
        ∙ (λ i. holds_back s (name-of a x b e i).depth (h.body i))

    splits-at : (a : ℕ) (x : Name) (b : Body) → leaf_of c a ≡ made x b → splittable_at l s (start_at a) ≡ splittable s x.depth b
    splits-at a x b e =
        let h = keeps_at a x b e in
        let g = limits in
        splittable_is s (omega arith) (omega arith) l (mid.index a) h.bucket h.keeps
        ∙ (λ i. splittable s (name-of a x b e i).depth (h.body i))

    -- ---- a split

    module _ (a : ℕ) (x : Name) (b : Body) (there : leaf_of c a ≡ made x b) (splits : splittable s x.depth b ≡ true) where
      abbrev state : BucketState
      state = bucket_at l s (start_at a)

      abbrev halves : ℕ → ℕ → ℕ → List ℕ
      halves d p q = half_at (half_at (deepened_at l d) s d p state) s d q state

      short_name : x.prefix < 2 ^ x.depth
      short_name = subst (λ (y : Leaf). (name_of y).prefix < 2 ^ (name_of y).depth) there (name_short s l₀ c₀ small l c mid a)

      few_items : state.count ≤ s.capacity
      few_items = loaded_count l (start_at a) s.capacity s.workers

      split_base : Middle (halves (suc x.depth) (2 * x.prefix + 0) (2 * x.prefix + 1)) (split x b c)
      unfolding child
      split_base =
          let low : suc x.depth ≤ s.depth = splittable_below s x.depth b splits in
          let short : x.prefix < 2 ^ x.depth = short_name in
          let pow = pow-suc 2 x.depth in
          let few : state.count ≤ s.capacity = few_items in
          let h = keeps_at a x b there in
          let l₁ : List ℕ = deepened_at l (suc x.depth) in
          let deep : Deepened s l l₁ (suc x.depth) = deepened-at s l enough' (suc x.depth) in
          let l₂ : List ℕ = half_at l₁ s (suc x.depth) (2 * x.prefix + 0) state in
          let one : Halved s l₁ l₂ (child x 0) b (spare_of l₁ s) =
          subst (λ (v : Body). Halved s l₁ l₂ (child x 0) v (spare_of l₁ s)) h.body
          (halved_at s swap_ready.range l₁ (omega (arith, deep.frame.same_length, enough')) (child x 0) state
          h.bucket.state.value low (omega arith) h.keeps.state few) in
          let l₃ : List ℕ = half_at l₂ s (suc x.depth) (2 * x.prefix + 1) state in
          let two : Halved s l₂ l₃ (child x 1) b (spare_of l₂ s) =
          subst (λ (v : Body). Halved s l₂ l₃ (child x 1) v (spare_of l₂ s)) h.body
          (halved_at s swap_ready.range l₂ (omega (arith, one.frame.same_length, deep.frame.same_length, enough')) (child x 1) state
          h.bucket.state.value low
          (omega arith) h.keeps.state few) in
          split_mid s l₀ c₀ small l c mid a x b there splits l₁ l₂ l₃ (spare_of l₁ s) (spare_of l₂ s) deep one two

      split_from : (d low : ℕ) → suc x.depth ≡ d → 2 * x.prefix + 0 ≡ low → Middle (halves d low (low + 1)) (split x b c)
      split_from d low e f =
          let g : 2 * x.prefix + 1 ≡ low + 1 = omega arith in
          subst (λ (k : ℕ). Middle (halves k low (low + 1)) (split x b c)) e
          (subst (λ (k : ℕ). Middle (halves (suc x.depth) k (low + 1)) (split x b c)) f
          (subst (λ (k : ℕ). Middle (halves (suc x.depth) (2 * x.prefix + 0) k) (split x b c)) g split_base))

      split-at : Middle (split_at l s (start_at a)) (split x b c)
      unfolding split_at
      split-at =
          let n = name-of a x b there in
          let low : x.depth < s.depth = splittable_below s x.depth b splits in
          let d : x.depth ≡ word l (start_at a + record_depth) % s.depth =
          sym (ap (λ (y : Name). y.depth % s.depth) n ∙ mod-eq_of_lt low) in
          let p : x.prefix ≡ word l (start_at a + record_prefix) % 2 ^ (word l (start_at a + record_depth) % s.depth + 1 - 1) =
          sym (ap (λ (y : Name). y.prefix % 2 ^ (word l (start_at a + record_depth) % s.depth + 1 - 1)) n
          ∙ ap (λ (k : ℕ). x.prefix % 2 ^ k) (omega arith) ∙ mod-eq_of_lt short_name) in
          split_from _ _ (omega arith) (omega arith)

      split_made : IsMade (leaf_of (split x b c) a)
      split_made =
          let k = subst (λ (y : Leaf). (name_of y).depth ≤ c.depth) there (depth_at_le mid.coherent a) in
          let low : x.depth < s.depth = splittable_below s x.depth b splits in
          let m = small in
          subst IsMade (sym (leaf_split x b c a k (omega (arith, mid.coherent.bound)) (omega arith)
          ∙ if_eq _ _ _ _ (own-leaf mid.coherent a x (ap name_of there) a (ap name_of there)))) tt

  -- ---- split while full and below depth M

  -- a bucket that is not split stays
  split_while_idle : (f a : ℕ) (c : Copy) → split_leaf s c (leaf_of c a) ≡ c → split_while s f a c ≡ c
  unfolding split_while
  split_while_idle zero a c h = refl
  split_while_idle (suc f) a c h = rw h (split_while_idle f a c h)

  -- and account a's bucket is made
  abbrev Both : ℕ → List ℕ → Copy → Type 0
  Both a l c = Middle l c × IsMade (leaf_of c a)

  splits_mid : (f a : ℕ) (l : List ℕ) (c : Copy) → Middle l c → IsMade (leaf_of c a) → Both a (split_while_at l s a f) (split_while s f a c)
  unfolding split_while_at split_while split_leaf when◌then◌else◌
  splits_mid zero a l c mid m = (mid, m)
  splits_mid (suc f) a l c mid m = go (splits_mid f a) (leaf_of c a) refl m
    where
      go :
          ((l : List ℕ) (c : Copy) → Middle l c → IsMade (leaf_of c a) → Both a (split_while_at l s a f) (split_while s f a c))
          → (y : Leaf) → leaf_of c a ≡ y → IsMade y
          → Both a (split_while_at l s a (suc f)) (split_while s f a (split_leaf s c (leaf_of c a)))
      go ih (kept x) e k = absurd k
      go ih (made x b) e k = rw (e, record-at l c mid a, splits-at l c mid a x b e) (by (splittable s x.depth b) refl)
        where
          by :
              (v : Bool) → splittable s x.depth b ≡ v
              → Both a (when v then split_while_at (split_at l s (start_at l c mid a)) s a f else l)
              (split_while s f a (when v then split x b c else c))
          by true h = ih (split_at l s (start_at l c mid a)) (split x b c) (split-at l c mid a x b e h) (split_made l c mid a x b e h)
          by false h = let i = split_while_idle f a c (rw (e, h)) in rw i (mid, m)

  -- ---- the update of a slot

  abbrev p : ℕ
  p = start_of s (worker w)

  -- the slot's words are as they were
  slot-word :
      (l : List ℕ) (c : Copy) → Middle l c → (i : ℕ) → i < s.workers → (k : ℕ) → k < slot_size
      → word l (read_at p i + k) ≡ word l₀ (read_at p i + k)
  slot-word l c mid i h =
      read_near s l₀ l w i (λ k a b. mid.frame.left (worker w) k swap_ready.known tt (rw worker_wide (omega arith)))

  -- and mean what was read
  pub slot-read : (l : List ℕ) (c : Copy) → Middle l c → (i : ℕ) → i < s.workers → slot_in l (read_at (start_of s (worker w)) i) ≡ slots i
  slot-read l c mid i h = ap slot_from (descriptor_near s l₀ l (read_at p i) (slot-word l c mid i h)) ∙ swap_ready.seen.slots i h

  module _ (i : ℕ) (h : i < s.workers) (u : Update) (t : ℕ) (read : slots i ≡ announced u t) where
    pub slot_is : (l : List ℕ) (c : Copy) → Middle l c → Describes (descriptor_in l (read_at (start_of s (worker w)) i)) u t
    slot_is l c mid = slot_describes _ u t (slot-read l c mid i h ∙ read)

    -- carried out, where the bucket does not hold it back
    carry_mid :
        (l : List ℕ) (c : Copy) (mid : Middle l c) (x : Name) (b : Body) → leaf_of c (account u) ≡ made x b
        → holds_back s x.depth b ≡ false
        → Middle (carried_at l s p i (start_at l c mid (account u))) (replace_leaf x (made x (carry_out s i u t b)) c)
    unfolding carried_at new_bucket descriptor_in
    carry_mid l c mid x b e f = go (subst (Content s l₀ c₀ l r (account u)) e (mid.keeps (account u)).content)
      where
        r : ℕ
        r = mid.index (account u)

        q : ℕ
        q = start_of s (record' r)

        state : BucketState
        state = bucket_at l s q

        read_in : Descriptor
        read_in = descriptor_in l (read_at p i)

        after : BucketState
        after = carry_of state s i read_in

        few : after.count ≤ s.capacity
        few = carry_count state s (loaded_count l q s.capacity s.workers) i read_in

        means : Keeps s l r (new_bucket b) → Means after (new_bucket (carry_out s i u t b)).state.value s.workers
        means k =
            let n = limits.greatest-workers in
            let m = limits.greatest-capacity in
            let g = slot_is l c mid in
            subst (λ (v : Body). Means after (record { body = v; applied = no_bits }) s.workers)
            (λ o. carry_out s i (g.update o) (g.ticket o) b)
            (carry_means s (omega arith) state (new_bucket b).state.value s.workers (omega arith) k.state i read_in
            (omega (arith, slot-word l c mid i h slot_account (omega arith), swap_ready.seen.narrow i h))
            (omega (arith, slot-word l c mid i h slot_total (omega arith), swap_ready.seen.fits i h)))

        w' : r < pool_size s
        w' = (mid.keeps (account u)).directs.in_pool

        l' : List ℕ
        l' = with_bucket_at l s q after

        stored : Keeps s l r (new_bucket b) → Stored s l l' r (new_bucket (carry_out s i u t b)).state.value
        stored k = stored_words s swap_ready.range l (enough' l c mid) r w' after _ (means k) few

        keeps : Keeps s l r (new_bucket b) → Keeps s l' r (new_bucket (carry_out s i u t b))
        keeps k =
            let f = stored k in
            record {
              size = f.size;
              state = f.state;
              toggle = λ j jn. ap (λ (v : ℕ). bits_of v j)
                  (stored_beside s l l' r w' _ f record_toggle (omega arith) (omega arith)) ∙ k.toggle j jn;
            }

        go : Content s l₀ c₀ l r (account u) (made x b) → Middle l' (replace_leaf x (made x (carry_out s i u t b)) c)
        go (inl k) = absurd (no_both (splittable_blocks s x.depth b k.splits) f)
        go (inr k) =
            let f = restated s l l' r w' _ (stored k.1) in
            replaced_mid s l₀ c₀ small l _ c mid (account u) x (ap name_of e) (carry_out s i u t b) f (λ a z. inr (k.0, keeps k.1))
            (λ j v jn z. f.others v z.in_pool (λ (y : v ≡ r). k.0 j jn (z.names ∙ ap (λ (n : ℕ). start_of s (record' n)) y)))

    -- once split as often as need be
    taken_mid :
        (l : List ℕ) (c : Copy) → Both (account u) l c
        → let q : ℕ = record_of l s (word l (read_at p i + slot_account)) in
        Middle (when holds_back_at l s q then l else carried_at l s p i q) (carry_leaf s i u t c (leaf_of c (account u)))
    unfolding carry_leaf when◌then◌else◌ descriptor_in
    taken_mid l c m = rw ((slot_is l c m.0).account, record-at l c m.0 (account u)) (go (leaf_of c (account u)) refl m.1)
      where
        q : ℕ
        q = start_at l c m.0 (account u)

        go : (y : Leaf) → leaf_of c (account u) ≡ y → IsMade y
            → Middle (when holds_back_at l s q then l else carried_at l s p i q) (carry_leaf s i u t c (leaf_of c (account u)))
        go (kept x) e k = absurd k
        go (made x b) e k = rw (holds-back-at l c m.0 (account u) x b e, e) (by (holds_back s x.depth b) refl)
          where
            by :
                (v : Bool) → holds_back s x.depth b ≡ v
                → Middle (when v then l else carried_at l s p i q) (when v then c else replace_leaf x (made x (carry_out s i u t b)) c)
            by true f = m.0
            by false f = carry_mid l c m.0 x b e f

    take_mid : (l : List ℕ) (c : Copy) → Middle l c → IsMade (leaf_of c (account u)) → Middle (taken_at l s p i) (take_update s i u t c)
    unfolding taken_at take_update descriptor_in
    take_mid l c mid m =
        rw (slot_is l c mid).account
        (taken_mid (split_while_at l s (account u) s.depth) (split_while s s.depth (account u) c)
        (splits_mid s.depth (account u) l c mid m))

  -- ---- all that are due at a bucket

  -- (bounds by their lemmas: with what a working copy in the middle has in scope, `omega` takes seconds for each)
  module _ (x : Name) (b : Body) (o : Copy) (coherent : Coherent s.depth o) (a₀ : ℕ) (there : leaf_of o a₀ ≡ kept x) (dues : ℕ)
      (flags : (i : ℕ) → i < s.workers → eqb (bit dues i) 1 ≡ due x b i (slots i)) where
    pub takes_mid :
        (k : ℕ) → k ≤ s.workers → (l : List ℕ) → Middle l (replace_leaf x (made x b) o)
        → Middle (taken_all l s p dues k) (take_slots s x b slots k (replace_leaf x (made x b) o))
    unfolding taken_all take_slots take_slot when◌then◌else◌
    takes_mid zero h l mid = mid
    takes_mid (suc k) h l mid = rw (flags k h) (by (takes_mid k (le_of_suc-le h) l mid) (slots k) refl)
      where
        l' : List ℕ
        l' = taken_all l s p dues k

        c' : Copy
        c' = take_slots s x b slots k (replace_leaf x (made x b) o)

        Goal : Bool → Copy → Type 0
        Goal v c = Middle (when v then taken_at l' s p k else l') c

        by : Middle l' c' → (y : Slot) → slots k ≡ y → Goal (due x b k y) (take_slot s x b k y c')
        by q empty e = q
        by q (announced u t) e = test (due x b k (announced u t)) refl
          where
            test : (v : Bool) → due x b k (announced u t) ≡ v → Goal v (when v then take_update s k u t c' else c')
            test true f = take_mid k h u t e l' c' q (made_in x (leaf_of c' (account u))
                ((refined_take_slots small s (le_refl s.depth) coherent a₀ x there b slots k).inside (account u)
                (eqb-true (first_bits x.depth (account u)) x.prefix (and_parts _ (not (settled_at b k t)) f).0)))
            test false f = q
