-- The words in the middle of a directory swap: they stand for a working copy of the machine. What a split in place keeps of that.
-- Rests on what making one half does to the words, and on working copies by account.
use Prim.Native.Nat.{ℕ, suc, ◌+◌, ◌-◌, ◌*◌, ◌^◌, ◌≤◌, ◌<◌}
use native.Mathlib.Omega.{arith}
use native.Mathlib.Decide.{ℕ_discrete}
use mathlib.Core.Path.{◌≡◌, refl, ap, sym, ◌∙◌, subst}
use mathlib.Core.Logic.{◌≢◌, ◌⊎◌, inl, inr}
use mathlib.Core.Bool.{Bool, true, false}
use mathlib.Core.List.{List}
use lib.Dec.{ltb, eqb}
use lib.Pow.{shl_lt}
use native.Mathlib.Nat.{mod-eq_of_lt, pow-suc}
use borrow.Author.Tests.{ltb-true}
use Rattle.interface.specs.declared.Settings.{Settings}
use Rattle.machine.specs.Choice.{when◌then◌else◌}
use Rattle.machine.specs.Sequential.{first_bits}
use Rattle.machine.specs.Records.{Name, Body, Leaf, kept, made, Copy, Cells, new_bucket}
use Rattle.machine.specs.BucketPass.{splittable}
use Rattle.machine.specs.DirectoryPass.{leaf_of, name_of, replace_leaf, replace_half, deepened, doubled, child, half, split}
use Rattle.machine.proofs.laws.Base.{if_eq, if_ne}
use Rattle.machine.proofs.laws.Bits.{bits_below, bits_shorter, bits_child, bits_parent, representative, first-entry, bits_representative}
use Rattle.machine.proofs.laws.Copies.{InBucket, NotInBucket, depth_at, half_leaf, leaf_split, Coherent, depth_at_le, same_leaf, own-leaf, refined_split, splittable_below}
use Rattle.machine.specs.Tasks.{leaf}
use Rattle.machine.proofs.invariant.Inv.{leaf_body}
use Rattle.fields.specs.Fields.{header_depth, worker_held}
use Rattle.fields.specs.Regions.{record', start_of, worker, entry}
use Rattle.layout.specs.Shape.{word}
use Rattle.spares.specs.Records.{first_entry}
use Rattle.simulation.specs.Meaning.{at, name_in, Keeps, Directs, Refers}
use Rattle.simulation.proofs.frames.Frames.{name_same, keeps_same}
use Rattle.simulation.proofs.swap.Halves.{Spare, Deepened, frame_refers, SameRecord, Frame, Halved, frame_trans, same_trans}

-- a directory that is not as deep as a bucket's halves doubles once
doubles :
    (c : Copy) (n : ℕ) → n ≤ c.depth → (v : Bool) → ltb c.depth (suc n) ≡ v
    → when v then suc n else c.depth ≡ (when v then doubled c else c).depth
unfolding when◌then◌else◌ doubled
doubles c n h true e = omega (arith, ltb-true c.depth (suc n) e)
doubles c n h false e = refl

-- account a's entry, once a half has been made
module _ (s : Settings) (small : s.depth ≤ 32) {l l' : List ℕ} {x : Name} {b : Body} {r : ℕ} (h : Halved s l l' x b r)
    (low : x.depth ≤ s.depth)
    (a : ℕ) where
  half_entry :
      at s l' (entry (first_bits s.depth a)) 0
      ≡ when eqb (first_bits x.depth a) x.prefix then start_of s (record' r) else at s l (entry (first_bits s.depth a)) 0
  half_entry =
      h.entries (first_bits s.depth a) (bits_below s.depth a small)
      ∙ ap (λ (k : ℕ). when eqb k x.prefix then start_of s (record' r) else at s l (entry (first_bits s.depth a)) 0)
      (bits_shorter x.depth s.depth a low small)

  entry_inside : InBucket x a → at s l' (entry (first_bits s.depth a)) 0 ≡ start_of s (record' r)
  entry_inside i = half_entry ∙ if_eq _ _ _ _ i

  entry_outside : NotInBucket x a → at s l' (entry (first_bits s.depth a)) 0 ≡ at s l (entry (first_bits s.depth a)) 0
  entry_outside o = half_entry ∙ if_ne _ _ _ _ o

module _ (s : Settings) (l₀ : List ℕ) (c₀ : Cells) where
  -- ---- the words in the middle of the swap

  -- account a's record is still the one that it was
  pub record Old (l : List ℕ) (r a : ℕ) : Type 0 where
    pub was : Directs s l₀ a r
    pub same : SameRecord s l₀ l r

  -- no worker refers to the record
  abbrev pub Unheld : ℕ → Type 0
  Unheld r = (j : ℕ) → j < s.workers → at s l₀ (worker j) worker_held ≢ start_of s (record' r)

  -- account a's leaf as the old bucket that is to be split
  pub record ToSplit (l : List ℕ) (r a : ℕ) (x : Name) (b : Body) : Type 0 where
    pub old : Old l r a
    pub name : x ≡ leaf c₀ a
    pub body : b ≡ leaf_body c₀ a
    pub splits : splittable s x.depth b ≡ true

  -- what record r, which is account a's, holds: a bucket that was current, or one made in this swap
  abbrev pub Content : List ℕ → ℕ → ℕ → Leaf → Type 0
  Content l r a (kept x) = Old l r a × (x ≡ leaf c₀ a)
  Content l r a (made x b) = ToSplit l r a x b ⊎ (Unheld r × Keeps s l r (new_bucket b))

  -- account a's record is r, and keeps leaf y
  pub record KeepsLeaf (l : List ℕ) (a r : ℕ) (y : Leaf) : Type 0 where
    pub directs : Directs s l a r
    pub named : name_in s l r ≡ name_of y
    pub content : Content l r a y

  -- words l, once l₀, stand for the working copy c of the cells c₀
  pub record Mid (l : List ℕ) (c : Copy) : Type 0 where
    pub frame : Frame s l₀ l
    pub depth : word l header_depth ≡ c.depth
    pub coherent : Coherent s.depth c
    -- each account's record, by its index in the pool
    pub index : ℕ → ℕ
    pub keeps : (a : ℕ) → KeepsLeaf l a (index a) (leaf_of c a)
    pub apart : (a e : ℕ) → name_of (leaf_of c a) ≡ name_of (leaf_of c e) → index a ≡ index e
    -- records that workers refer to are as they were
    pub held : (j r : ℕ) → j < s.workers → Refers s l₀ j r → SameRecord s l₀ l r

  old_same : (l l' : List ℕ) (r a : ℕ) → SameRecord s l l' r → Old l r a → Old l' r a
  old_same l l' r a h k = record { was = k.was; same = same_trans s l₀ l l' r k.same h }

  -- a record that stays holds what it held
  pub content_same : (l l' : List ℕ) (r a : ℕ) (y : Leaf) → SameRecord s l l' r → Content l r a y → Content l' r a y
  content_same l l' r a (kept x) h k = (old_same l l' r a h k.0, k.1)
  content_same l l' r a (made x b) h (inl k) =
      inl (record { old = old_same l l' r a h k.old; name = k.name; body = k.body; splits = k.splits })
  content_same l l' r a (made x b) h (inr k) = inr (k.0, keeps_same s l l' r (new_bucket b) h k.1)

  -- ---- records that are current

  -- the first entry of a bucket is the entry of one of its accounts
  first_of :
      (small : s.depth ≤ 32) (x : Name) → x.depth ≤ s.depth → x.prefix < 2 ^ x.depth
      → (e : ℕ) × (InBucket x e) × (first_bits s.depth e ≡ first_entry s x.depth x.prefix)
  unfolding first_entry
  first_of small x l h =
      let w : x.depth + (s.depth - x.depth) ≡ s.depth = omega arith in
      let f : x.prefix * 2 ^ (s.depth - x.depth) < 2 ^ s.depth =
      subst (λ (k : ℕ). x.prefix * 2 ^ (s.depth - x.depth) < 2 ^ k) w (shl_lt x.depth (s.depth - x.depth) h) in (
        representative x.depth x.prefix,
        bits_representative x.depth x.prefix (omega arith) h,
        first-entry x.depth s.depth x.prefix l small h ∙ sym (mod-eq_of_lt f),
      )

  module _ (small : s.depth ≤ 32) (l : List ℕ) (c : Copy) (mid : Mid l c) where
    abbrev Entry : ℕ → ℕ
    Entry a = at s l (entry (first_bits s.depth a)) 0

    name_low : (a : ℕ) → depth_at c a ≤ s.depth
    name_low a = omega (arith, depth_at_le mid.coherent a, mid.coherent.bound)

    pub name_short : (a : ℕ) → (name_of (leaf_of c a)).prefix < 2 ^ depth_at c a
    name_short a = let k = name_low a in rw (← mid.coherent.named a) (bits_below (depth_at c a) a (omega arith))

    -- one of the accounts of account a's bucket has the bucket's first entry
    current :
        (a : ℕ) → (e : ℕ) × (leaf_of c e ≡ leaf_of c a) × (first_bits s.depth e ≡ first_entry s (depth_at c a) (name_of (leaf_of c a)).prefix)
    current a =
        let f = first_of small (name_of (leaf_of c a)) (name_low a) (name_short a) in
        (f.0, mid.coherent.shared a f.0 f.1, f.2)

    -- the entry of an account whose leaf is account a's names a's record
    names_as : (a e : ℕ) → leaf_of c e ≡ leaf_of c a → Entry e ≡ start_of s (record' (mid.index a))
    names_as a e h = (mid.keeps e).directs.names ∙ ap (λ (t : ℕ). start_of s (record' t)) (mid.apart e a (ap name_of h))

    -- a spare record is not named at the first entry of the bucket that it says
    not_spare :
        (w : List ℕ) (r : ℕ) (y : Name) (e : ℕ) → name_in s w r ≡ y → first_bits s.depth e ≡ first_entry s y.depth y.prefix
        → at s w (entry (first_bits s.depth e)) 0 ≡ start_of s (record' r) → Spare s w r → ⊥
    not_spare w r y e n f h k = k (
        ap (λ (z : Name). at s w (entry (first_entry s z.depth z.prefix)) 0) n ∙ ap (λ (z : ℕ). at s w (entry z) 0) (sym f) ∙ h)

    -- ---- a split

    -- account a₀'s bucket x, of body b, becomes two: l₁ is l with the directory's new depth, l₂ and l₃ have one half and the other
    module _
        (a₀ : ℕ) (x : Name) (b : Body) (there : leaf_of c a₀ ≡ made x b) (full : splittable s x.depth b ≡ true)
        (l₁ l₂ l₃ : List ℕ) (r₀ r₁ : ℕ) (deep : Deepened s l l₁ (suc x.depth))
        (first : Halved s l₁ l₂ (child x 0) b r₀) (second : Halved s l₂ l₃ (child x 1) b r₁)
      where
        abbrev d : ℕ
        d = suc x.depth

        abbrev c' : Copy
        c' = split x b c

        low : d ≤ s.depth
        low = splittable_below s x.depth b full

        -- where an account is
        data Side (a : ℕ) : Type 0 where
          upper : first_bits d a ≡ 2 * x.prefix + 1 → Side a
          lower : first_bits d a ≡ 2 * x.prefix + 0 → Side a
          beside : NotInBucket x a → Side a

        side : (a : ℕ) → Side a
        side a = go (ℕ_discrete (first_bits x.depth a) x.prefix) (bits_child x.depth a (omega (arith, low)))
          where
            go :
                Dec (InBucket x a) → (first_bits d a ≡ 2 * first_bits x.depth a + 0) ⊎ (first_bits d a ≡ 2 * first_bits x.depth a + 1)
                → Side a
            go (yes i) (inl e) = lower (rw i at e)
            go (yes i) (inr e) = upper (rw i at e)
            go (no i) e = beside i

        abbrev index' : ℕ → ℕ
        index' a =
            when eqb (first_bits d a) (2 * x.prefix + 1) then r₁ else when eqb (first_bits d a) (2 * x.prefix + 0) then r₀ else mid.index a

        abbrev half-leaf : ℕ → Leaf
        half-leaf i = made (child x i) (half (child x i) b)

        leaf_law : (a : ℕ) → leaf_of c' a ≡ when eqb (first_bits x.depth a) x.prefix then half_leaf x b a else leaf_of c a
        leaf_law a =
            let k = subst (λ (y : Leaf). (name_of y).depth ≤ c.depth) there (depth_at_le mid.coherent a₀) in
            leaf_split x b c a k (omega (arith, mid.coherent.bound)) (omega (arith, low))

        leaf_beside : (a : ℕ) → NotInBucket x a → leaf_of c' a ≡ leaf_of c a
        leaf_beside a o = leaf_law a ∙ if_ne _ _ _ _ o

        inside_parent : (a i : ℕ) → i ≤ 1 → first_bits d a ≡ 2 * x.prefix + i → InBucket x a
        inside_parent a i k e = bits_parent x.depth x.prefix i a (omega (arith, low)) k e

        leaf_inside : (a i : ℕ) → i ≤ 1 → first_bits d a ≡ 2 * x.prefix + i → leaf_of c' a ≡ half-leaf i
        unfolding child
        leaf_inside a i k e =
            leaf_law a ∙ if_eq _ _ _ _ (inside_parent a i k e)
            ∙ ap (λ (q : ℕ). made (record { depth = d; prefix = q }) (half (record { depth = d; prefix = q }) b)) e

        -- ---- the two records

        abbrev Names : List ℕ → ℕ → ℕ → Type 0
        Names w a r = at s w (entry (first_bits s.depth a)) 0 ≡ start_of s (record' r)

        names_upper : (a : ℕ) → first_bits d a ≡ 2 * x.prefix + 1 → Names l₃ a r₁
        unfolding child
        names_upper a e = entry_inside s small second low a e

        names_lower : (a : ℕ) → first_bits d a ≡ 2 * x.prefix + 0 → Names l₂ a r₀
        unfolding child
        names_lower a e = entry_inside s small first low a e

        still_lower : (a : ℕ) → first_bits d a ≢ 2 * x.prefix + 0 → at s l₂ (entry (first_bits s.depth a)) 0 ≡ Entry a
        unfolding child
        still_lower a o = entry_outside s small first low a o ∙ deep.entries (first_bits s.depth a) (bits_below s.depth a small)

        still_upper :
            (a : ℕ) → first_bits d a ≢ 2 * x.prefix + 1
            → at s l₃ (entry (first_bits s.depth a)) 0 ≡ at s l₂ (entry (first_bits s.depth a)) 0
        unfolding child
        still_upper a o = entry_outside s small second low a o

        -- the first half's record is no account's so far
        first_apart : (a : ℕ) → mid.index a ≢ r₀
        first_apart a q =
            let f = current a in
            let n : name_in s l₁ r₀ ≡ name_in s l r₀ = name_same s l l₁ r₀ (deep.records r₀ first.in_pool) in
            not_spare l₁ r₀ (name_of (leaf_of c a)) f.0
            (n ∙ subst (λ (t : ℕ). name_in s l t ≡ name_of (leaf_of c a)) q (mid.keeps a).named) f.2
            (deep.entries _ (bits_below s.depth f.0 small) ∙ names_as a f.0 f.1 ∙ ap (λ (t : ℕ). start_of s (record' t)) q)
            first.spare

        -- the second half's is not the first's, nor that of an account of another bucket
        second_first : r₁ ≢ r₀
        unfolding child
        second_first q =
            let k : x.prefix < 2 ^ x.depth = subst (λ (y : Leaf). (name_of y).prefix < 2 ^ (name_of y).depth) there (name_short a₀) in
            let p = pow-suc 2 x.depth in
            let f = first_of small (child x 0) low (omega arith) in
            not_spare l₂ r₁ (child x 0) f.0 (subst (λ (t : ℕ). name_in s l₂ t ≡ child x 0) (sym q) first.name) f.2
            (names_lower f.0 f.1 ∙ ap (λ (t : ℕ). start_of s (record' t)) (sym q)) second.spare

        -- an account outside x shares no leaf with one inside
        leaf_apart : (a e : ℕ) → NotInBucket x a → leaf_of c e ≡ leaf_of c a → NotInBucket x e
        leaf_apart a e o h i =
            o (own-leaf mid.coherent a₀ x (ap name_of there) a
            (ap name_of (sym h ∙ same_leaf mid.coherent a₀ x (ap name_of there) e i ∙ there)))

        -- the records of accounts outside are as they were
        still_first : (a : ℕ) → SameRecord s l l₂ (mid.index a)
        still_first a =
            let w = (mid.keeps a).directs.in_pool in
            same_trans s l l₁ l₂ _ (deep.records _ w) (first.others _ w (first_apart a))

        second_apart : (a : ℕ) → NotInBucket x a → mid.index a ≢ r₁
        second_apart a o q =
            let f = current a in
            let e : NotInBucket x f.0 = leaf_apart a f.0 o f.1 in
            not_spare l₂ r₁ (name_of (leaf_of c a)) f.0
            (subst (λ (t : ℕ). name_in s l₂ t ≡ name_of (leaf_of c a)) q (name_same s l l₂ _ (still_first a) ∙ (mid.keeps a).named)) f.2
            (still_lower f.0 (λ z. e (inside_parent f.0 0 (omega arith) z)) ∙ names_as a f.0 f.1
            ∙ ap (λ (t : ℕ). start_of s (record' t)) q)
            second.spare

        still : (a : ℕ) → NotInBucket x a → SameRecord s l l₃ (mid.index a)
        still a o = same_trans s l l₂ l₃ _ (still_first a) (second.others _ (mid.keeps a).directs.in_pool (second_apart a o))

        -- ---- each account

        frame₁ : Frame s l₀ l₁
        frame₁ = frame_trans s mid.frame deep.frame

        frame₂ : Frame s l₀ l₂
        frame₂ = frame_trans s frame₁ first.frame

        unheld₀ : Unheld r₀
        unheld₀ j jn e = first.unheld j jn (frame_refers s frame₁ j jn ∙ e)

        unheld₁ : Unheld r₁
        unheld₁ j jn e = second.unheld j jn (frame_refers s frame₂ j jn ∙ e)

        apart₀ : SameRecord s l₂ l₃ r₀
        apart₀ = second.others r₀ first.in_pool (λ q. second_first (sym q))

        keeps_upper : (a : ℕ) → first_bits d a ≡ 2 * x.prefix + 1 → KeepsLeaf l₃ a r₁ (half-leaf 1)
        keeps_upper a e = record {
          directs = record { in_pool = second.in_pool; names = names_upper a e };
          named = second.name;
          content = inr (unheld₁, second.keeps);
        }

        keeps_lower : (a : ℕ) → first_bits d a ≡ 2 * x.prefix + 0 → KeepsLeaf l₃ a r₀ (half-leaf 0)
        keeps_lower a e = record {
          directs = record { in_pool = first.in_pool; names = still_upper a (λ z. omega arith) ∙ names_lower a e };
          named = name_same s l₂ l₃ r₀ apart₀ ∙ first.name;
          content = inr (unheld₀, keeps_same s l₂ l₃ r₀ _ apart₀ first.keeps);
        }

        keeps_beside : (a : ℕ) → NotInBucket x a → KeepsLeaf l₃ a (mid.index a) (leaf_of c a)
        keeps_beside a o = record {
          directs = record {
            in_pool = (mid.keeps a).directs.in_pool;
            names = still_upper a (λ z. o (inside_parent a 1 (omega arith) z)) ∙ still_lower a (λ z. o (inside_parent a 0 (omega arith) z))
                ∙ (mid.keeps a).directs.names;
          };
          named = name_same s l l₃ _ (still a o) ∙ (mid.keeps a).named;
          content = content_same l l₃ _ a (leaf_of c a) (still a o) (mid.keeps a).content;
        }

        index_upper : (a : ℕ) → first_bits d a ≡ 2 * x.prefix + 1 → index' a ≡ r₁
        index_upper a e = if_eq _ _ _ _ e

        index_lower : (a : ℕ) → first_bits d a ≡ 2 * x.prefix + 0 → index' a ≡ r₀
        index_lower a e = if_ne _ _ _ _ (λ (z : first_bits d a ≡ 2 * x.prefix + 1). omega arith) ∙ if_eq _ _ _ _ e

        index_beside : (a : ℕ) → NotInBucket x a → index' a ≡ mid.index a
        index_beside a o =
            if_ne _ _ _ _ (λ z. o (inside_parent a 1 (omega arith) z)) ∙ if_ne _ _ _ _ (λ z. o (inside_parent a 0 (omega arith) z))

        keeps_by :
            (a : ℕ) {r : ℕ} {y : Leaf} → index' a ≡ r → leaf_of c' a ≡ y → KeepsLeaf l₃ a r y → KeepsLeaf l₃ a (index' a) (leaf_of c' a)
        keeps_by a {r} p q h =
            subst (λ (t : ℕ). KeepsLeaf l₃ a t (leaf_of c' a)) (sym p) (subst (λ (y : Leaf). KeepsLeaf l₃ a r y) (sym q) h)

        keeps_now : (a : ℕ) → Side a → KeepsLeaf l₃ a (index' a) (leaf_of c' a)
        keeps_now a (upper e) = keeps_by a (index_upper a e) (leaf_inside a 1 (omega arith) e) (keeps_upper a e)
        keeps_now a (lower e) = keeps_by a (index_lower a e) (leaf_inside a 0 (omega arith) e) (keeps_lower a e)
        keeps_now a (beside o) = keeps_by a (index_beside a o) (leaf_beside a o) (keeps_beside a o)

        -- ---- two accounts

        coherent' : Coherent s.depth c'
        coherent' = (refined_split mid.coherent a₀ x (ap name_of there) small b low).coherent

        abbrev SameName : ℕ → ℕ → Type 0
        SameName a e = name_of (leaf_of c' a) ≡ name_of (leaf_of c' e)

        -- one inside x and one outside have different buckets
        mixed : (a e i : ℕ) → i ≤ 1 → first_bits d a ≡ 2 * x.prefix + i → NotInBucket x e → SameName a e → ⊥
        unfolding child
        mixed a e i k f o h =
            let n : name_of (leaf_of c e) ≡ name_of (leaf_of c' a) = ap name_of (sym (leaf_beside e o)) ∙ sym h in
            let z : leaf_of c a ≡ leaf_of c e = mid.coherent.shared e a (subst (λ (y : Name). InBucket y a) (sym n) (coherent'.named a)) in
            let v : leaf_of c a ≡ made x b = same_leaf mid.coherent a₀ x (ap name_of there) a (inside_parent a i k f) ∙ there in
            omega (arith, ap (λ (y : Name). y.depth) (sym (ap name_of (sym z ∙ v)) ∙ n ∙ ap name_of (leaf_inside a i k f)))

        -- two inside have the same bit
        same_bit :
            (a e i k : ℕ) → i ≤ 1 → k ≤ 1 → first_bits d a ≡ 2 * x.prefix + i → first_bits d e ≡ 2 * x.prefix + k → SameName a e → i ≡ k
        unfolding child
        same_bit a e i k p q f g h =
            omega (arith, ap (λ (y : Name). y.prefix) (sym (ap name_of (leaf_inside a i p f)) ∙ h ∙ ap name_of (leaf_inside e k q g)))

        apart_now : (a e : ℕ) → SameName a e → Side a → Side e → index' a ≡ index' e
        apart_now a e h (upper p) (upper q) = index_upper a p ∙ sym (index_upper e q)
        apart_now a e h (upper p) (lower q) = absurd (omega (arith, same_bit a e 1 0 (omega arith) (omega arith) p q h))
        apart_now a e h (upper p) (beside q) = absurd (mixed a e 1 (omega arith) p q h)
        apart_now a e h (lower p) (upper q) = absurd (omega (arith, same_bit a e 0 1 (omega arith) (omega arith) p q h))
        apart_now a e h (lower p) (lower q) = index_lower a p ∙ sym (index_lower e q)
        apart_now a e h (lower p) (beside q) = absurd (mixed a e 0 (omega arith) p q h)
        apart_now a e h (beside p) (upper q) = absurd (mixed e a 1 (omega arith) q p (sym h))
        apart_now a e h (beside p) (lower q) = absurd (mixed e a 0 (omega arith) q p (sym h))
        apart_now a e h (beside p) (beside q) =
            index_beside a p ∙ mid.apart a e (ap name_of (sym (leaf_beside a p)) ∙ h ∙ ap name_of (leaf_beside e q)) ∙ sym (index_beside e q)

        depth_now : word l₃ header_depth ≡ c'.depth
        unfolding split replace_half replace_leaf deepened
        depth_now =
            second.depth ∙ first.depth ∙ deep.depth ∙ ap (λ (k : ℕ). when ltb k d then d else k) mid.depth
            ∙ doubles c x.depth (subst (λ (y : Leaf). (name_of y).depth ≤ c.depth) there (depth_at_le mid.coherent a₀))
            (ltb c.depth d) refl

        pub split_mid : Mid l₃ c'
        split_mid = record {
          frame = frame_trans s frame₂ second.frame;
          depth = depth_now;
          coherent = coherent';
          index = index';
          keeps = λ a. keeps_now a (side a);
          apart = λ a e h. apart_now a e h (side a) (side e);
          held = λ j r jn h.
              let p : r ≢ r₀ = λ (q : r ≡ r₀). unheld₀ j jn (h.names ∙ ap (λ (t : ℕ). start_of s (record' t)) q) in
              let u : r ≢ r₁ = λ (q : r ≡ r₁). unheld₁ j jn (h.names ∙ ap (λ (t : ℕ). start_of s (record' t)) q) in
              λ i k.
              second.others r h.in_pool u i k ∙ first.others r h.in_pool p i k ∙ deep.records r h.in_pool i k
              ∙ mid.held j r jn h i k;
        }
