-- What taking updates does to the leaf of each account inside one bucket: it only deepens, entries change only for the updates taken, each
-- of these ends served, and nothing but the leaves inside that bucket matters. Rests on working copies by account.
use Prim.Native.Nat.{ℕ, zero, suc, ◌+◌, ◌≤◌, ◌<◌}
use native.Mathlib.Omega.{arith}
use native.Mathlib.Decide.{ℕ_discrete}
use mathlib.Core.Path.{◌≡◌, refl, ap, sym, ◌∙◌, subst}
use mathlib.Core.Logic.{◌≢◌, ◌⊎◌, inl, inr}
use mathlib.Core.Bool.{Bool, true, false, not}
use lib.Dec.{eqb}
use borrow.Author.Tests.{eqb-true, eq-eqb, leb-false, not-true}
use Rattle.interface.specs.declared.Settings.{Settings}
use Rattle.machine.specs.Choice.{when◌then◌else◌}
use Rattle.machine.specs.Sequential.{Update, account, first_bits}
use Rattle.machine.specs.Records.{Name, Settled, Body, Leaf, kept, made, Copy, Slot, empty, announced, empty_body}
use Rattle.machine.specs.BucketPass.{holds_back, splittable, settled_at, carry_out}
use Rattle.machine.specs.DirectoryPass.{leaf_of, name_of, replace_leaf, half, split, split_leaf, split_while, carry_leaf, take_update, take_slot, take_slots}
use Rattle.machine.proofs.laws.Base.{no_both, if_elim, if_true, if_eq, eq_elim, and_true, and_parts, assign_at, assign_other, if_elim₂, below_suc}
use Rattle.machine.proofs.laws.Copies.{InBucket, depth_at, half_leaf, leaf_replaced, leaf_split, Coherent, same_leaf, own-leaf, due, slot_elim, depth_x, MadeIn, Refined, refined_replaced, refined_preserved, splittable_below, Preserved, Due, preserved_take_update, preserved_take_slots}
use Rattle.machine.proofs.invariant.Inv.{ticket_of}

-- ---- one leaf

abbrev pub made_body : Leaf → Body
made_body (kept x) = empty_body
made_body (made x b) = b

abbrev pub body_at : Copy → ℕ → Body
body_at c a = made_body (leaf_of c a)

-- worker i's ticket t is the one settled in the leaf
abbrev pub Served : ℕ → ℕ → Leaf → Type 0
Served i t l = ((made_body l).settled i).ticket ≡ t

-- the leaf holds updates back
abbrev blocked : Settings → Leaf → Bool
blocked s l = holds_back s (name_of l).depth (made_body l)

pub unsettled : (b : Body) (i t : ℕ) → settled_at b i t ≡ false → (b.settled i).ticket < t
unfolding settled_at
unsettled b i t e = leb-false t (b.settled i).ticket e

pub due_unsettled : (x : Name) (b : Body) (i : ℕ) (o : Slot) → due x b i o ≡ true → (b.settled i).ticket < ticket_of o
due_unsettled x b i empty e = absurd (no_both e refl)
due_unsettled x b i (announced u t) e = unsettled b i t (not-true _ (and_parts _ _ e).1)

pub carry_own : (s : Settings) (j : ℕ) (u : Update) (t : ℕ) (b : Body) → ((carry_out s j u t b).settled j).ticket ≡ t
unfolding carry_out
carry_own s j u t b = ap (λ (y : Settled). y.ticket) (assign_at b.settled j _ j refl)

pub carry_other :
    (s : Settings) (j : ℕ) (u : Update) (t : ℕ) (b : Body) (i : ℕ) → i ≢ j → (carry_out s j u t b).settled i ≡ b.settled i
unfolding carry_out
carry_other s j u t b i n = assign_other b.settled j _ i n

-- ---- one change of a copy

-- the copy's leaf of an account, but g's for those of bucket y
abbrev replaced_at : Name → (ℕ → Leaf) → Copy → ℕ → Leaf
replaced_at y g c a = when eqb (first_bits y.depth a) y.prefix then g a else leaf_of c a

-- account e is in bucket y of the copy
module _ {k : ℕ} (small : k ≤ 32) {c : Copy} (h : Coherent k c) (e : ℕ) {y : Name} (at : name_of (leaf_of c e) ≡ y) where
  own_in : InBucket y e
  own_in = own-leaf h e y at e at

  replaced_in : (l : Leaf) (a : ℕ) → leaf_of (replace_leaf y l c) a ≡ replaced_at y (λ f. l) c a
  replaced_in l a = leaf_replaced y l c a (depth_x h e y at) (omega (arith, h.bound))

  replaced_leaf : (l : Leaf) (a : ℕ) → InBucket y a → leaf_of (replace_leaf y l c) a ≡ l
  replaced_leaf l a i = replaced_in l a ∙ if_eq (first_bits y.depth a) y.prefix l (leaf_of c a) i

  split_in : (v : Body) → y.depth < k → (a : ℕ) → leaf_of (split y v c) a ≡ replaced_at y (half_leaf y v) c a
  split_in v g a = leaf_split y v c a (depth_x h e y at) (omega (arith, h.bound)) (omega arith)

  split_depth : (v : Body) → y.depth < k → (a : ℕ) → InBucket y a → depth_at (split y v c) a ≡ suc y.depth
  split_depth v g a i =
      ap (λ (l : Leaf). (name_of l).depth) (split_in v g a ∙ if_eq (first_bits y.depth a) y.prefix (half_leaf y v a) (leaf_of c a) i)

-- ---- taking the updates

-- bucket x, whose body b was read with these slots
module _ (s : Settings) (x : Name) (b : Body) (slots : ℕ → Slot) where
  -- worker i's entry in a body v that has become w: as it was, or settled by an update, of a worker below n, that is due
  abbrev pub DueChange : ℕ → ℕ → Body → Body → Type 0
  DueChange n i v w = (w.settled i ≡ v.settled i) ⊎ ((i < n) × (due x b i (slots i) ≡ true) × ((w.settled i).ticket ≡ ticket_of (slots i)))

  -- what taking updates that are due, of workers below n, may make of a leaf
  pub record LeafChanged (n : ℕ) (l l' : Leaf) : Type 0 where
    pub deeper : (name_of l).depth ≤ (name_of l').depth
    pub entry : (i : ℕ) → DueChange n i (made_body l) (made_body l')

  leaf_changed_refl : (n : ℕ) (l : Leaf) → LeafChanged n l l
  leaf_changed_refl n l = record { deeper = omega arith; entry = λ i. inl refl }

  leaf_changed_trans : {n : ℕ} {l l' l'' : Leaf} → LeafChanged n l l' → LeafChanged n l' l'' → LeafChanged n l l''
  leaf_changed_trans {n} {l} {l'} {l''} p q = record {
    deeper = omega (arith, p.deeper, q.deeper);
    entry = λ i. entry i (p.entry i) (q.entry i);
  }
    where
      entry :
          (i : ℕ) → DueChange n i (made_body l) (made_body l') → DueChange n i (made_body l') (made_body l'')
          → DueChange n i (made_body l) (made_body l'')
      entry i (inl e) (inl f) = inl (f ∙ e)
      entry i (inr e) (inl f) = inr (e.0, e.1, ap (λ (y : Settled). y.ticket) f ∙ e.2)
      entry i (inl e) (inr f) = inr f
      entry i (inr e) (inr f) = inr f

  -- once served, always served
  leaf_changed_served :
      {n j t : ℕ} {u : Update} {l l' : Leaf} → slots j ≡ announced u t → LeafChanged n l l' → Served j t l → Served j t l'
  leaf_changed_served {j = j} at p e =
      elim (p.entry j) [ inl z ↦ ap (λ (y : Settled). y.ticket) z ∙ e | inr z ↦ z.2 ∙ ap ticket_of at ]

  leaf_changed_split : (n : ℕ) (y : Name) (v : Body) (a : ℕ) → LeafChanged n (made y v) (half_leaf y v a)
  unfolding half
  leaf_changed_split n y v a = record { deeper = omega arith; entry = λ i. inl refl }

  leaf_changed_carry :
      {n j : ℕ} {u : Update} {t : ℕ} → Due x b slots n j u t → (y : Name) (v : Body)
      → LeafChanged n (made y v) (made y (carry_out s j u t v))
  leaf_changed_carry {n} {j} {u} {t} d y v = record { deeper = omega arith; entry = λ i. entry i (ℕ_discrete i j) }
    where
      entry : (i : ℕ) → Dec (i ≡ j) → DueChange n i v (carry_out s j u t v)
      entry i (no z) = inl (carry_other s j u t v i z)
      entry i (yes z) = rw (z, d.slot) (inr (d.below, and_true (eq-eqb _ _ d.inside) (ap not d.unsettled), carry_own s j u t v))

  -- a change of the made bucket y of account e moves every leaf as it moves y's
  replaced_changed :
      {n : ℕ} {c : Copy} {y : Name} {v : Body} {g : ℕ → Leaf} → Coherent s.depth c → (e : ℕ) → leaf_of c e ≡ made y v
      → ((a : ℕ) → LeafChanged n (made y v) (g a)) → (a : ℕ) → LeafChanged n (leaf_of c a) (replaced_at y g c a)
  replaced_changed {n} {c} {y} {v} {g} h e at m a =
      eq_elim (LeafChanged n (leaf_of c a)) (first_bits y.depth a) y.prefix (g a) (leaf_of c a)
      (λ i. rw (same_leaf h e y (ap name_of at) a i ∙ at) (m a)) (λ i. leaf_changed_refl n (leaf_of c a))

  -- x as it was, or split
  abbrev pub WholeOrSplit : Copy → Type 0
  WholeOrSplit c = ((a : ℕ) → InBucket x a → leaf_of c a ≡ made x b) ⊎ ((a : ℕ) → InBucket x a → x.depth < depth_at c a)

  -- while x is resolved in the copy o: c' has come from c by taking updates that are due, of workers below n
  pub record SlotsTaken (o : Copy) (n : ℕ) (c c' : Copy) : Type 0 where
    pub shape : Refined s.depth x o c'
    pub leaves : (a : ℕ) → LeafChanged n (leaf_of c a) (leaf_of c' a)
    pub whole_or_split : splittable s x.depth b ≡ true → WholeOrSplit c'

  -- if account a's bucket holds updates back, f more splits bring it to depth M
  record SplitsLeft (o : Copy) (f a : ℕ) (c : Copy) : Type 0 where
    shape : Refined s.depth x o c
    splits_left : blocked s (leaf_of c a) ≡ true → s.depth ≤ f + depth_at c a

  -- the two have the same leaves inside x
  record SameInside (o o' c c' : Copy) : Type 0 where
    left : Refined s.depth x o c
    right : Refined s.depth x o' c'
    same : (a : ℕ) → InBucket x a → leaf_of c a ≡ leaf_of c' a

  -- the copy o, bucket x of it resolved for the slots of the workers below n
  abbrev pub resolved_in : ℕ → Copy → Copy
  resolved_in n o = take_slots s x b slots n (replace_leaf x (made x b) o)

  module _ (room : s.depth ≤ 32) where
    -- x being resolved in the copy o
    module _ (o : Copy) where
      refined : Preserved s (λ j u t. InBucket x (account u)) (Refined s.depth x o)
      refined = refined_preserved room s (omega arith) x o

      taken_preserved : (n : ℕ) (c : Copy) → Preserved s (Due x b slots n) (SlotsTaken o n c)
      unfolding splittable holds_back
      taken_preserved n c = record {
        splits = λ j u t d c' y v at g p.
            let h : Coherent s.depth c' = p.shape.coherent in
            let w : y.depth < s.depth = splittable_below s y.depth v g in
            let m : (a : ℕ) → LeafChanged n (leaf_of c' a) (leaf_of (split y v c') a)
            = λ a. rw (split_in room h (account u) (ap name_of at) v w a) (replaced_changed h (account u) at (leaf_changed_split n y v) a)
            in
            record {
              shape = refined.splits j u t d.inside c' y v at g p.shape;
              leaves = λ a. leaf_changed_trans (p.leaves a) (m a);
              whole_or_split = λ f. inr (λ a i. elim (p.whole_or_split f) [
                | inl k ↦
                    let z : y ≡ x = let q : made y v ≡ made x b = sym at ∙ k (account u) d.inside in cc in
                    omega (arith, split_depth room h (account u) (ap name_of at) v w a (rw z i), ap (λ (q : Name). q.depth) z)
                | inr k ↦ omega (arith, k a i, (m a).deeper)
              ]);
            };
        carries = λ j u t d c' y v at g p.
            let h : Coherent s.depth c' = p.shape.coherent in
            let m : (a : ℕ) → LeafChanged n (leaf_of c' a) (leaf_of (replace_leaf y (made y (carry_out s j u t v)) c') a)
            = λ a. rw (replaced_in room h (account u) (ap name_of at) _ a)
            (replaced_changed h (account u) at (λ e. leaf_changed_carry d y v) a) in
            record {
              shape = refined.carries j u t d.inside c' y v at g p.shape;
              leaves = λ a. leaf_changed_trans (p.leaves a) (m a);
              whole_or_split = λ f. inr (λ a i. elim (p.whole_or_split f) [
                | inl k ↦
                    let z : made y v ≡ made x b = sym at ∙ k (account u) d.inside in
                    absurd (no_both f (ap (blocked s) (sym z) ∙ g))
                | inr k ↦ omega (arith, k a i, (m a).deeper)
              ]);
            };
      }

      -- ---- that it ends

      -- worker j's update u with ticket t is of bucket x
      module _ (j : ℕ) (u : Update) (t : ℕ) (i : InBucket x (account u)) where
        splits_left_split_leaf :
            (f : ℕ) (c : Copy) (l : Leaf) → leaf_of c (account u) ≡ l → SplitsLeft o (suc f) (account u) c
            → SplitsLeft o f (account u) (split_leaf s c l)
        unfolding split_leaf holds_back
        splits_left_split_leaf f c (kept y) at p = absurd (subst (MadeIn x) at (p.shape.inside (account u) i))
        splits_left_split_leaf f c (made y v) at p =
            if_elim (SplitsLeft o f (account u)) (splittable s y.depth v) (split y v c) c
            (λ g. record {
              shape = refined.splits j u t i c y v at g p.shape;
              splits_left = λ q. omega
                  (arith, further (splittable_below s y.depth v g), here, p.splits_left (ap (blocked s) at ∙ g));
            })
            (λ g. record { shape = p.shape; splits_left = λ q. absurd (no_both (ap (blocked s) (sym at) ∙ q) g) })
          where
            h : Coherent s.depth c
            h = p.shape.coherent

            here : depth_at c (account u) ≡ y.depth
            here = ap (λ (l : Leaf). (name_of l).depth) at

            further : y.depth < s.depth → depth_at (split y v c) (account u) ≡ suc y.depth
            further w = split_depth room h (account u) (ap name_of at) v w (account u) (own_in room h (account u) (ap name_of at))

        splits_left_split_while :
            (f : ℕ) (c : Copy) → SplitsLeft o f (account u) c → SplitsLeft o 0 (account u) (split_while s f (account u) c)
        unfolding split_while
        splits_left_split_while zero c p = p
        splits_left_split_while (suc f) c p =
            splits_left_split_while f (split_leaf s c (leaf_of c (account u))) (splits_left_split_leaf f c (leaf_of c (account u)) refl p)

        served_carry_leaf :
            (c : Copy) (l : Leaf) → leaf_of c (account u) ≡ l → SplitsLeft o 0 (account u) c
            → Served j t (leaf_of (carry_leaf s j u t c l) (account u))
        unfolding carry_leaf holds_back
        served_carry_leaf c (kept y) at p = absurd (subst (MadeIn x) at (p.shape.inside (account u) i))
        served_carry_leaf c (made y v) at p =
            let h : Coherent s.depth c = p.shape.coherent in
            let l : Leaf = made y (carry_out s j u t v) in
            let q : name_of (leaf_of c (account u)) ≡ y = ap name_of at in
            let w : leaf_of (replace_leaf y l c) (account u) ≡ l = replaced_leaf room h (account u) q l (account u)
            (own_in room h (account u) q) in
            if_elim (λ (c' : Copy). Served j t (leaf_of c' (account u))) (holds_back s y.depth v) c (replace_leaf y l c)
            (λ g. absurd (omega
            (arith, p.splits_left (ap (blocked s) at ∙ g), ap (λ (n : Name). n.depth) q, splittable_below s y.depth v g)))
            (λ g. rw w (carry_own s j u t v))

        served_take_update : (c : Copy) → Refined s.depth x o c → Served j t (leaf_of (take_update s j u t c) (account u))
        unfolding take_update
        served_take_update c r =
            let c' : Copy = split_while s s.depth (account u) c in
            served_carry_leaf c' (leaf_of c' (account u)) refl
            (splits_left_split_while s.depth c (record { shape = r; splits_left = λ q. omega arith }))

    -- ---- slot by slot

    -- account a₀ is in x, in the coherent copy o
    module _ (o : Copy) (h : Coherent s.depth o) (a₀ : ℕ) (there : leaf_of o a₀ ≡ kept x) where
      pub start_leaf : (a : ℕ) → InBucket x a → leaf_of (replace_leaf x (made x b) o) a ≡ made x b
      start_leaf = replaced_leaf room h a₀ (ap name_of there) (made x b)

      start_shape : Refined s.depth x o (replace_leaf x (made x b) o)
      start_shape = refined_replaced h a₀ x (ap name_of there) room b

      pub taken : (n : ℕ) → SlotsTaken o n (replace_leaf x (made x b) o) (resolved_in n o)
      taken n =
          preserved_take_slots (taken_preserved o n (replace_leaf x (made x b) o)) x b slots n (λ i u t d. d) (replace_leaf x (made x b) o)
          (record { shape = start_shape; leaves = λ a. leaf_changed_refl n _; whole_or_split = λ f. inl start_leaf })

      taken_next : (j : ℕ) → SlotsTaken o (suc j) (resolved_in j o) (resolved_in (suc j) o)
      unfolding take_slots
      taken_next j =
          slot_elim s x b slots (λ (c c' : Copy). SlotsTaken o (suc j) (resolved_in j o) c) (resolved_in j o) (resolved_in j o) j (slots j)
          refl unchanged_copies
          (λ u t d. preserved_take_update (taken_preserved o (suc j) (resolved_in j o)) j u t d (resolved_in j o) unchanged_copies)
        where
          unchanged_copies : SlotsTaken o (suc j) (resolved_in j o) (resolved_in j o)
          unchanged_copies = record {
            shape = (taken j).shape;
            leaves = λ a. leaf_changed_refl (suc j) _;
            whole_or_split = (taken j).whole_or_split;
          }

      served_next :
          (j t : ℕ) (u : Update) → slots j ≡ announced u t → due x b j (slots j) ≡ true
          → Served j t (leaf_of (resolved_in (suc j) o) (account u))
      unfolding take_slots take_slot
      served_next j t u at d =
          let e : due x b j (announced u t) ≡ true = rw at at d in
          let z : take_slot s x b j (slots j) (resolved_in j o) ≡ take_update s j u t (resolved_in j o) =
          rw at (if_true _ (resolved_in j o) e) in
          rw z (served_take_update o j u t (eqb-true _ _ (and_parts _ _ e).0) (resolved_in j o) (taken j).shape)

      pub served :
          (n i : ℕ) → i < n → (t : ℕ) (u : Update) → slots i ≡ announced u t → due x b i (slots i) ≡ true
          → Served i t (leaf_of (resolved_in n o) (account u))
      served zero = λ i l t u at d. absurd (omega arith)
      served (suc j) =
          below_suc _ j (λ i l t u at d. leaf_changed_served at ((taken_next j).leaves (account u)) (served j i l t u at d)) (served_next j)

    -- x being resolved in the copies o and o'
    module _ (o o' : Copy) where
      same_inside_replaced :
          {c c' : Copy} (w w' : Copy) (y : Name) (g : ℕ → Leaf)
          → ((a : ℕ) → leaf_of w a ≡ replaced_at y g c a) → ((a : ℕ) → leaf_of w' a ≡ replaced_at y g c' a)
          → SameInside o o' c c' → (a : ℕ) → InBucket x a → leaf_of w a ≡ leaf_of w' a
      same_inside_replaced w w' y g law law' p a i =
          law a ∙ ap (λ (l : Leaf). when eqb (first_bits y.depth a) y.prefix then g a else l) (p.same a i) ∙ sym (law' a)

      module _ (j : ℕ) (u : Update) (t : ℕ) (i : InBucket x (account u)) where
        same_inside_split_leaf :
            (c c' : Copy) (l : Leaf) → leaf_of c (account u) ≡ l → SameInside o o' c c'
            → SameInside o o' (split_leaf s c l) (split_leaf s c' l)
        unfolding split_leaf
        same_inside_split_leaf c c' (kept y) at p = p
        same_inside_split_leaf c c' (made y v) at p =
            let at' : leaf_of c' (account u) ≡ made y v = sym (p.same (account u) i) ∙ at in
            if_elim₂ (SameInside o o') (splittable s y.depth v) _ _ _ _
            (λ g. let w : y.depth < s.depth = splittable_below s y.depth v g in record {
              left = (refined o).splits j u t i c y v at g p.left;
              right = (refined o').splits j u t i c' y v at' g p.right;
              same = same_inside_replaced _ _ y (half_leaf y v) (split_in room p.left.coherent (account u) (ap name_of at) v w)
                  (split_in room p.right.coherent (account u) (ap name_of at') v w) p;
            })
            (λ g. p)

        same_inside_split_while :
            (f : ℕ) (c c' : Copy) → SameInside o o' c c' → SameInside o o' (split_while s f (account u) c) (split_while s f (account u) c')
        unfolding split_while
        same_inside_split_while zero c c' p = p
        same_inside_split_while (suc f) c c' p =
            rw (← p.same (account u) i) (same_inside_split_while f _ _ (same_inside_split_leaf c c' (leaf_of c (account u)) refl p))

        same_inside_carry_leaf :
            (c c' : Copy) (l : Leaf) → leaf_of c (account u) ≡ l → SameInside o o' c c'
            → SameInside o o' (carry_leaf s j u t c l) (carry_leaf s j u t c' l)
        unfolding carry_leaf
        same_inside_carry_leaf c c' (kept y) at p = p
        same_inside_carry_leaf c c' (made y v) at p =
            let at' : leaf_of c' (account u) ≡ made y v = sym (p.same (account u) i) ∙ at in
            let l : Leaf = made y (carry_out s j u t v) in
            if_elim₂ (SameInside o o') (holds_back s y.depth v) _ _ _ _
            (λ g. p)
            (λ g. record {
              left = (refined o).carries j u t i c y v at g p.left;
              right = (refined o').carries j u t i c' y v at' g p.right;
              same = same_inside_replaced _ _ y (λ a. l) (replaced_in room p.left.coherent (account u) (ap name_of at) l)
                  (replaced_in room p.right.coherent (account u) (ap name_of at') l) p;
            })

        same_inside_take_update : (c c' : Copy) → SameInside o o' c c' → SameInside o o' (take_update s j u t c) (take_update s j u t c')
        unfolding take_update
        same_inside_take_update c c' p =
            let q = same_inside_split_while s.depth c c' p in
            rw (← q.same (account u) i) (same_inside_carry_leaf _ _ _ refl q)

      same_inside_take_slots :
          (n : ℕ) (c c' : Copy) → SameInside o o' c c' → SameInside o o' (take_slots s x b slots n c) (take_slots s x b slots n c')
      unfolding take_slots
      same_inside_take_slots zero c c' p = p
      same_inside_take_slots (suc j) c c' p =
          let q = same_inside_take_slots j c c' p in
          slot_elim s x b slots (SameInside o o') _ _ j (slots j) refl q (λ u t d. same_inside_take_update j u t d.inside _ _ q)

    -- what is made of x does not depend on the other buckets
    pub inside_same :
        (o o' : Copy) → Coherent s.depth o → Coherent s.depth o' → (a₀ : ℕ) → leaf_of o a₀ ≡ kept x → leaf_of o' a₀ ≡ kept x
        → (n a : ℕ) → InBucket x a → leaf_of (resolved_in n o) a ≡ leaf_of (resolved_in n o') a
    inside_same o o' h h' a₀ at at' n = (same_inside_take_slots o o' n _ _ start).same
      where
        start : SameInside o o' (replace_leaf x (made x b) o) (replace_leaf x (made x b) o')
        start = record {
          left = start_shape o h a₀ at;
          right = start_shape o' h' a₀ at';
          same = λ a i. start_leaf o h a₀ at a i ∙ sym (start_leaf o' h' a₀ at' a i);
        }
