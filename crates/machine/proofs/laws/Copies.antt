-- Working copies by account: what replacing a leaf, splitting and taking updates do to the leaf of each account, and what they keep.
-- Rests on the laws of tests and of an account's first bits.
use Prim.Native.Nat.{ℕ, zero, suc, ◌+◌, ◌-◌, ◌*◌, ◌/◌, ◌^◌, ◌≤◌, ◌<◌}
use native.Mathlib.Omega.{arith}
use native.Mathlib.Decide.{ℕ_discrete}
use mathlib.Core.Path.{◌≡◌, refl, ap, sym, ◌∙◌, subst}
use mathlib.Core.Logic.{◌≢◌, ◌⊎◌, inl, inr}
use mathlib.Core.Bool.{Bool, true, false, not}
use Rattle.std.specs.Prelude.{Option, Some, None}
use lib.Dec.{ltb, eqb}
use borrow.Author.Tests.{eqb-true, ltb-true, ltb-false, not-true}
use Rattle.interface.specs.declared.Settings.{Settings}
use Rattle.machine.specs.Choice.{when◌then◌else◌, ◌and◌}
use Rattle.machine.specs.Sequential.{Update, account, first_bits}
use Rattle.machine.specs.Records.{Name, same, Body, Directory, bucket_of, Leaf, kept, made, Copy, Slot, empty, announced, first_directory}
use Rattle.machine.specs.BucketPass.{holds_back, splittable, settled_at, carry_out}
use Rattle.machine.specs.DirectoryPass.{copy_of, leaf_of, name_of, replace_leaf, doubled, deepened, child, half, replace_half, split, split_leaf, split_while}
use Rattle.machine.specs.DirectoryPass.{carry_leaf, take_update, take_slot, take_slots, directory_of, body_if, body_made}
use Rattle.machine.proofs.laws.Base.{if_elim, if_true, if_eq, if_ne, eq_elim, and_parts, none_some, if_elim₂}
use Rattle.machine.proofs.laws.Cells.{same_true, eq_same, name_path}
use Rattle.machine.proofs.laws.Bits.{bits_zero, bits_below, bits_shorter, bits_mono, bits_half, representative, first-entry, bits_representative}

-- the bucket of depth d that an account would be in
abbrev pub name_at : ℕ → ℕ → Name
name_at d a = record { depth = d; prefix = first_bits d a }

-- account a is of bucket x: its first bits are the prefix
abbrev pub InBucket : Name → ℕ → Type 0
InBucket x a = first_bits x.depth a ≡ x.prefix

abbrev pub NotInBucket : Name → ℕ → Type 0
NotInBucket x a = first_bits x.depth a ≢ x.prefix

abbrev pub depth_at : Copy → ℕ → ℕ
depth_at c a = (name_of (leaf_of c a)).depth

-- ---- leaves by account

pub leaf_replaced :
    (x : Name) (l : Leaf) (c : Copy) (a : ℕ) → x.depth ≤ c.depth → c.depth ≤ 32
    → leaf_of (replace_leaf x l c) a ≡ when eqb (first_bits x.depth a) x.prefix then l else leaf_of c a
unfolding leaf_of replace_leaf
leaf_replaced x l c a h m = rw (bits_shorter x.depth c.depth a h m)

pub leaf_doubled : (c : Copy) (a : ℕ) → c.depth < 32 → leaf_of (doubled c) a ≡ leaf_of c a
unfolding leaf_of doubled
leaf_doubled c a h = ap c.leaves (bits_half c.depth a h)

pub leaf_deepened : (d : ℕ) (c : Copy) (a : ℕ) → d ≤ 32 → leaf_of (deepened d c) a ≡ leaf_of c a
unfolding deepened
leaf_deepened d c a h =
    if_elim (λ (v : Copy). leaf_of v a ≡ leaf_of c a) (ltb c.depth d) (doubled c) c
    (λ e. leaf_doubled c a (omega (arith, ltb-true c.depth d e))) (λ e. refl)

pub deepened_from : (d : ℕ) (c : Copy) → c.depth ≤ (deepened d c).depth
unfolding deepened doubled
deepened_from d c = if_elim (λ (v : Copy). c.depth ≤ v.depth) (ltb c.depth d) (doubled c) c (λ e. omega arith) (λ e. omega arith)

pub deepened_to : (d : ℕ) (c : Copy) → d ≤ suc c.depth → d ≤ (deepened d c).depth
unfolding deepened doubled
deepened_to d c h = if_elim (λ (v : Copy). d ≤ v.depth) (ltb c.depth d) (doubled c) c (λ e. h) (λ e. ltb-false c.depth d e)

pub deepened_below : (d k : ℕ) (c : Copy) → c.depth ≤ k → d ≤ k → (deepened d c).depth ≤ k
unfolding deepened doubled
deepened_below d k c h m =
    if_elim (λ (v : Copy). v.depth ≤ k) (ltb c.depth d) (doubled c) c (λ e. omega (arith, ltb-true c.depth d e)) (λ e. h)

-- it is the former depth or d
deepened_is : (d : ℕ) (c : Copy) → ((deepened d c).depth ≤ c.depth) ⊎ ((deepened d c).depth ≤ d)
unfolding deepened doubled
deepened_is d c =
    if_elim (λ (v : Copy). (v.depth ≤ c.depth) ⊎ (v.depth ≤ d)) (ltb c.depth d) (doubled c) c
    (λ e. inr (omega (arith, ltb-true c.depth d e))) (λ e. inl (omega arith))

-- the half of bucket x's body b that an account belongs to after a split
abbrev pub half_leaf : Name → Body → ℕ → Leaf
half_leaf x b a = made (name_at (suc x.depth) a) (half (name_at (suc x.depth) a) b)

-- the number r is one of q's two children where its half p is q, and neither where it is not
children : {A : Type 0} (g : ℕ → A) (y : A) (r p q : ℕ) → r / 2 ≡ p
    → when eqb r (2 * q + 1) then g (2 * q + 1) else when eqb r (2 * q + 0) then g (2 * q + 0) else y ≡ when eqb p q then g r else y
children {A} g y r p q h =
    eq_elim Is r (2 * q + 1) _ _ (λ e. here (2 * q + 1) e (omega arith))
    (λ n. eq_elim Is r (2 * q + 0) _ _ (λ e. here (2 * q + 0) e (omega arith)) (λ m. sym (if_ne p q (g r) y (λ z. omega arith))))
  where
    Is : A → Type 0
    Is z = z ≡ when eqb p q then g r else y

    here : (i : ℕ) → r ≡ i → p ≡ q → Is (g i)
    here i e z = ap g (sym e) ∙ sym (if_eq p q (g r) y z)

pub leaf_split :
    (x : Name) (b : Body) (c : Copy) (a : ℕ) → x.depth ≤ c.depth → c.depth ≤ 32 → x.depth < 32
    → leaf_of (split x b c) a ≡ when eqb (first_bits x.depth a) x.prefix then half_leaf x b a else leaf_of c a
unfolding split replace_half replace_leaf child
leaf_split x b c a h m l =
    let w : Copy = deepened (suc x.depth) c in
    let low : suc x.depth ≤ w.depth = deepened_to (suc x.depth) c (omega arith) in
    let high : w.depth ≤ 32 = deepened_below (suc x.depth) 32 c m l in
    let r : ℕ = first_bits (suc x.depth) a in
    let q : ℕ = 2 * x.prefix + 1 in
    leaf_replaced (child x 1) _ _ a low high
    ∙ ap (λ (y : Leaf). when eqb r q then part q else y) (leaf_replaced (child x 0) _ w a low high)
    ∙ children part (leaf_of w a) r (first_bits x.depth a) x.prefix (bits_half x.depth a l)
    ∙ ap (λ (y : Leaf). when eqb (first_bits x.depth a) x.prefix then half_leaf x b a else y) (leaf_deepened (suc x.depth) c a l)
  where
    part : ℕ → Leaf
    part q = made (record { depth = suc x.depth; prefix = q }) (half (record { depth = suc x.depth; prefix = q }) b)

-- ---- coherent copies

-- every entry names a bucket no deeper than the directory
abbrev pub Shallow : Copy → Type 0
Shallow c = (e : ℕ) → (name_of (c.leaves e)).depth ≤ c.depth

-- Of depth at most k, which some bucket has; each account's bucket has the account, and is one leaf for all that it has. `shallow` speaks
-- of the entries past the last too: a name deeper than the directory then has no body in it.
pub record Coherent (k : ℕ) (c : Copy) : Type 0 where
  pub bound : c.depth ≤ k
  pub shallow : Shallow c
  pub named : (a : ℕ) → InBucket (name_of (leaf_of c a)) a
  pub shared : (a e : ℕ) → InBucket (name_of (leaf_of c a)) e → leaf_of c e ≡ leaf_of c a
  pub reached : (a : ℕ) × (c.depth ≤ depth_at c a)

-- the leaf was made in this round, and is no less deep than x
abbrev pub MadeIn : Name → Leaf → Type 0
MadeIn x (kept y) = ⊥
MadeIn x (made y b) = x.depth ≤ y.depth

-- c' has come from c by making leaves instead of bucket x: only inside x do leaves change, and they only get deeper.
pub record Refined (k : ℕ) (x : Name) (c c' : Copy) : Type 0 where
  pub coherent : Coherent k c'
  pub deeper : c.depth ≤ c'.depth
  pub grows : (e : ℕ) → depth_at c e ≤ depth_at c' e
  pub outside : (e : ℕ) → NotInBucket x e → leaf_of c' e ≡ leaf_of c e
  pub inside : (e : ℕ) → InBucket x e → MadeIn x (leaf_of c' e)

-- In c' the leaves at bucket x of c have become those that g says.
record Replacement (k : ℕ) (c c' : Copy) (x : Name) (g : ℕ → Leaf) : Type 0 where
  bound : c'.depth ≤ k
  deeper : c.depth ≤ c'.depth
  shallow : Shallow c'
  leaf : (e : ℕ) → leaf_of c' e ≡ when eqb (first_bits x.depth e) x.prefix then g e else leaf_of c e
  low : (e : ℕ) → MadeIn x (g e)
  named : (e : ℕ) → InBucket x e → InBucket (name_of (g e)) e
  shared : (e f : ℕ) → InBucket (name_of (g e)) f → g f ≡ g e
  reached : (c'.depth ≤ c.depth) ⊎ ((e : ℕ) → c'.depth ≤ (name_of (g e)).depth)

shallow_leaf : (c : Copy) → Shallow c → (a : ℕ) → depth_at c a ≤ c.depth
unfolding leaf_of
shallow_leaf c f a = f (first_bits c.depth a)

shallow_replaced : (x : Name) (l : Leaf) (c : Copy) → Shallow c → (name_of l).depth ≤ c.depth → Shallow (replace_leaf x l c)
unfolding replace_leaf
shallow_replaced x l c f n e = if_elim (λ (y : Leaf). (name_of y).depth ≤ c.depth) _ l (c.leaves e) (λ p. n) (λ p. f e)

shallow_deepened : (d : ℕ) (c : Copy) → Shallow c → Shallow (deepened d c)
unfolding deepened doubled
shallow_deepened d c f = if_elim Shallow (ltb c.depth d) (doubled c) c (λ p e. omega (arith, f (e / 2))) (λ p. f)

pub depth_at_le : {k : ℕ} {c : Copy} → Coherent k c → (a : ℕ) → depth_at c a ≤ c.depth
depth_at_le {c = c} h a = shallow_leaf c h.shallow a

pub name-at : {k : ℕ} {c : Copy} → Coherent k c → (a : ℕ) → name_of (leaf_of c a) ≡ name_at (depth_at c a) a
name-at {c = c} h a = λ i. record { depth = depth_at c a; prefix = sym (h.named a) i }

made_depth : (x : Name) (l : Leaf) → MadeIn x l → x.depth ≤ (name_of l).depth
made_depth x (kept y) m = absurd m
made_depth x (made y b) m = m

-- the bucket x where account a is
module _ {k : ℕ} {c : Copy} (h : Coherent k c) (a : ℕ) (x : Name) (at : name_of (leaf_of c a) ≡ x) where
  pub depth_x : x.depth ≤ c.depth
  depth_x = subst (λ (y : Name). y.depth ≤ c.depth) at (depth_at_le h a)

  -- the bucket is one leaf
  pub same_leaf : (e : ℕ) → InBucket x e → leaf_of c e ≡ leaf_of c a
  same_leaf e i = h.shared a e (rw at i)

  -- a leaf of the bucket's name is the bucket's
  pub own-leaf : (e : ℕ) → name_of (leaf_of c e) ≡ x → InBucket x e
  own-leaf e q = subst (λ (y : Name). InBucket y e) q (h.named e)

  module _ (small : k ≤ 32) where
    module _ {c' : Copy} {g : ℕ → Leaf} (r : Replacement k c c' x g) where
      replacement_elim : (P : Leaf → Type 0) (e : ℕ) → (InBucket x e → P (g e)) → (NotInBucket x e → P (leaf_of c e)) → P (leaf_of c' e)
      replacement_elim P e i o = rw (r.leaf e) (eq_elim P (first_bits x.depth e) x.prefix (g e) (leaf_of c e) i o)

      grows_replacement : (e : ℕ) → depth_at c e ≤ depth_at c' e
      grows_replacement e = replacement_elim (λ (l : Leaf). depth_at c e ≤ (name_of l).depth) e
          (λ i. omega (arith, ap (λ (y : Name). y.depth) (ap name_of (same_leaf e i) ∙ at), made_depth x (g e) (r.low e)))
          (λ o. omega arith)

      coherent_replacement : Coherent k c'
      coherent_replacement = record {
        bound = r.bound;
        shallow = r.shallow;
        named = λ e. replacement_elim (λ (l : Leaf). InBucket (name_of l) e) e (r.named e) (λ o. h.named e);
        shared = λ e f. replacement_elim (λ (l : Leaf). InBucket (name_of l) f → leaf_of c' f ≡ l) e (new e f) (old e f);
        reached = elim r.reached [
          | inl l ↦ (h.reached.0, omega (arith, h.reached.1, grows_replacement h.reached.0))
          | inr l ↦ (a, subst (λ (y : Leaf). c'.depth ≤ (name_of y).depth) (sym (leaf_in a (own-leaf a at))) (l a))
        ];
      }
        where
          leaf_in : (e : ℕ) → InBucket x e → leaf_of c' e ≡ g e
          leaf_in e i = r.leaf e ∙ if_eq (first_bits x.depth e) x.prefix (g e) (leaf_of c e) i

          -- what is of a new bucket is of x
          new : (e f : ℕ) → InBucket x e → InBucket (name_of (g e)) f → leaf_of c' f ≡ g e
          new e f i s =
              let y : Name = name_of (g e) in
              let l : y.depth ≤ c'.depth = subst (λ (v : Leaf). (name_of v).depth ≤ c'.depth) (leaf_in e i)
              (shallow_leaf c' r.shallow e) in
              let m : x.depth ≤ y.depth = made_depth x (g e) (r.low e) in
              let z : InBucket x f = bits_mono x.depth y.depth f e m (omega (arith, r.bound)) (s ∙ sym (r.named e i)) ∙ i in
              leaf_in f z ∙ r.shared e f s

          -- what is of another bucket is not of x
          old : (e f : ℕ) → NotInBucket x e → InBucket (name_of (leaf_of c e)) f → leaf_of c' f ≡ leaf_of c e
          old e f o s =
              replacement_elim (λ (l : Leaf). l ≡ leaf_of c e) f
              (λ i. absurd (o (own-leaf e (ap name_of (sym (h.shared e f s) ∙ same_leaf f i) ∙ at))))
              (λ n. h.shared e f s)

      refined_replacement : Refined k x c c'
      refined_replacement = record {
        coherent = coherent_replacement;
        deeper = r.deeper;
        grows = grows_replacement;
        outside = λ e o. r.leaf e ∙ if_ne (first_bits x.depth e) x.prefix (g e) (leaf_of c e) o;
        inside = λ e i. rw (r.leaf e ∙ if_eq (first_bits x.depth e) x.prefix (g e) (leaf_of c e) i) (r.low e);
      }

    -- the bucket with another body
    pub refined_replaced : (b : Body) → Refined k x c (replace_leaf x (made x b) c)
    unfolding replace_leaf
    refined_replaced b = refined_replacement (record {
      bound = h.bound;
      deeper = omega arith;
      shallow = shallow_replaced x (made x b) c h.shallow depth_x;
      leaf = λ e. leaf_replaced x (made x b) c e depth_x (omega (arith, h.bound));
      low = λ e. omega arith;
      named = λ e i. i;
      shared = λ e f i. refl;
      reached = inl (omega arith);
    })

    pub refined_split : (b : Body) → x.depth < k → Refined k x c (split x b c)
    unfolding split replace_half replace_leaf child
    refined_split b l = refined_replacement (record {
      bound = deepened_below (suc x.depth) k c h.bound l;
      deeper = deepened_from (suc x.depth) c;
      shallow =
          shallow_replaced (child x 1) _ _ (shallow_replaced (child x 0) _ _ (shallow_deepened (suc x.depth) c h.shallow) low) low;
      leaf = λ e. leaf_split x b c e depth_x (omega (arith, h.bound)) (omega arith);
      low = λ e. omega arith;
      named = λ e i. refl;
      shared = λ e f i. rw i;
      reached = elim (deepened_is (suc x.depth) c) [ inl l ↦ inl l | inr l ↦ inr (λ e. l) ];
    })
      where
        low : suc x.depth ≤ (deepened (suc x.depth) c).depth
        low = deepened_to (suc x.depth) c (omega (arith, depth_x))

made_below : (x y : Name) (l : Leaf) → x.depth ≤ y.depth → MadeIn y l → MadeIn x l
made_below x y (kept z) h m = m
made_below x y (made z b) h m = omega arith

-- To refine a bucket y that was made instead of x is to refine x.
pub refined_within :
    {k : ℕ} {x y : Name} {c c' c'' : Copy} → k ≤ 32 → Refined k x c c' → (a : ℕ) → InBucket x a → (b : Body) → leaf_of c' a ≡ made y b
    → Refined k y c' c'' → Refined k x c c''
refined_within {k} {x} {y} {c} {c'} {c''} small p a i b at q = record {
  coherent = q.coherent;
  deeper = omega (arith, p.deeper, q.deeper);
  grows = λ e. omega (arith, p.grows e, q.grows e);
  outside = λ e o. q.outside e (λ z. o (part e z)) ∙ p.outside e o;
  inside = λ e z. inner e z (ℕ_discrete (first_bits y.depth e) y.prefix);
}
  where
    name : name_of (leaf_of c' a) ≡ y
    name = ap name_of at

    low : x.depth ≤ y.depth
    low = subst (MadeIn x) at (p.inside a i)

    high : y.depth ≤ 32
    high = omega (arith, depth_x p.coherent a y name, p.coherent.bound)

    part : (e : ℕ) → InBucket y e → InBucket x e
    part e z = bits_mono x.depth y.depth e a low high (z ∙ sym (own-leaf p.coherent a y name a name)) ∙ i

    inner : (e : ℕ) → InBucket x e → Dec (InBucket y e) → MadeIn x (leaf_of c'' e)
    inner e z (yes j) = made_below x y (leaf_of c'' e) low (q.inside e j)
    inner e z (no j) = rw (q.outside e j) (p.inside e z)

-- ---- what taking updates keeps

-- what one split of account a's bucket keeps, any number keeps
pub split_while_keeps :
    (s : Settings) (P : Copy → Type 0) (a : ℕ)
    → ((c : Copy) (y : Name) (b : Body) → leaf_of c a ≡ made y b → splittable s y.depth b ≡ true → P c → P (split y b c))
    → (f : ℕ) (c : Copy) → P c → P (split_while s f a c)
unfolding split_while split_leaf
split_while_keeps s P a h zero c p = p
split_while_keeps s P a h (suc f) c p = split_while_keeps s P a h f (split_leaf s c (leaf_of c a)) (once (leaf_of c a) refl)
  where
    once : (l : Leaf) → leaf_of c a ≡ l → P (split_leaf s c l)
    once (kept y) at = p
    once (made y b) at = if_elim P (splittable s y.depth b) (split y b c) c (λ e. h c y b at e p) (λ e. p)

-- P is kept by the changes that taking an update makes: worker j's update u with ticket t, of those that U admits.
pub record Preserved (s : Settings) (U : ℕ → Update → ℕ → Type 0) (P : Copy → Type 0) : Type 0 where
  pub splits :
      (j : ℕ) (u : Update) (t : ℕ) → U j u t → (c : Copy) (y : Name) (b : Body) → leaf_of c (account u) ≡ made y b
      → splittable s y.depth b ≡ true → P c → P (split y b c)
  pub carries :
      (j : ℕ) (u : Update) (t : ℕ) → U j u t → (c : Copy) (y : Name) (b : Body) → leaf_of c (account u) ≡ made y b
      → holds_back s y.depth b ≡ false → P c → P (replace_leaf y (made y (carry_out s j u t b)) c)

-- worker j, below n, has announced update u with ticket t, which is of bucket x and not settled in its body b
pub record Due (x : Name) (b : Body) (slots : ℕ → Slot) (n : ℕ) (j : ℕ) (u : Update) (t : ℕ) : Type 0 where
  pub below : j < n
  pub slot : slots j ≡ announced u t
  pub inside : InBucket x (account u)
  pub unsettled : settled_at b j t ≡ false

-- worker i's announced update belongs to bucket x, and is not settled in its body b
abbrev pub due : Name → Body → ℕ → Slot → Bool
due x b i empty = false
due x b i (announced u t) = eqb (first_bits x.depth (account u)) x.prefix and not (settled_at b i t)

-- worker j's slot, taken or not, in two copies
pub slot_elim :
    (s : Settings) (x : Name) (b : Body) (slots : ℕ → Slot) (R : Copy → Copy → Type 0) (c c' : Copy) (j : ℕ) (w : Slot) → slots j ≡ w
    → R c c'
    → ((u : Update) (t : ℕ) → Due x b slots (suc j) j u t → R (take_update s j u t c) (take_update s j u t c'))
    → R (take_slot s x b j w c) (take_slot s x b j w c')
unfolding take_slot
slot_elim s x b slots R c c' j empty at p f = p
slot_elim s x b slots R c c' j (announced u t) at p f =
    if_elim₂ R (due x b j (announced u t)) _ _ _ _
    (λ e. f u t (record {
      below = omega arith;
      slot = at;
      inside = eqb-true _ _ (and_parts _ _ e).0;
      unsettled = not-true _ (and_parts _ _ e).1;
    }))
    (λ e. p)

-- the test of resize
abbrev pub resize_test : Settings → ℕ → ℕ → Name → Body → Bool
resize_test s i t x b = splittable s x.depth b and not (settled_at b i t)

module _ {s : Settings} {U : ℕ → Update → ℕ → Type 0} {P : Copy → Type 0} (z : Preserved s U P) where
  module _ (j : ℕ) (u : Update) (t : ℕ) (taken : U j u t) where
    preserved_split_while : (f : ℕ) (c : Copy) → P c → P (split_while s f (account u) c)
    preserved_split_while = split_while_keeps s P (account u) (z.splits j u t taken)

    preserved_carry_leaf : (c : Copy) (l : Leaf) → leaf_of c (account u) ≡ l → P c → P (carry_leaf s j u t c l)
    unfolding carry_leaf
    preserved_carry_leaf c (kept y) at p = p
    preserved_carry_leaf c (made y b) at p =
        if_elim P (holds_back s y.depth b) c (replace_leaf y (made y (carry_out s j u t b)) c) (λ e. p)
        (λ e. z.carries j u t taken c y b at e p)

    pub preserved_take_update : (c : Copy) → P c → P (take_update s j u t c)
    unfolding take_update
    preserved_take_update c p =
        let c' : Copy = split_while s s.depth (account u) c in
        preserved_carry_leaf c' (leaf_of c' (account u)) refl (preserved_split_while s.depth c p)

  pub preserved_take_slots :
      (x : Name) (b : Body) (slots : ℕ → Slot) (n : ℕ) → ((j : ℕ) (u : Update) (t : ℕ) → Due x b slots n j u t → U j u t)
      → (c : Copy) → P c → P (take_slots s x b slots n c)
  unfolding take_slots
  preserved_take_slots x b slots zero due c p = p
  preserved_take_slots x b slots (suc n) due c p =
      let before : Copy = take_slots s x b slots n c in
      let q : P before = preserved_take_slots x b slots n (λ j u t d. due j u t (earlier d)) c p in
      slot_elim s x b slots (λ d d'. P d) before before n (slots n) refl q (λ u t d. preserved_take_update n u t (due n u t d) before q)
    where
      earlier : {j : ℕ} {u : Update} {t : ℕ} → Due x b slots n j u t → Due x b slots (suc n) j u t
      earlier d = record { below = omega (arith, d.below); slot = d.slot; inside = d.inside; unsettled = d.unsettled }

pub splittable_below : (s : Settings) (d : ℕ) (b : Body) → splittable s d b ≡ true → d < s.depth
unfolding splittable
splittable_below s d b e = ltb-true d s.depth (and_parts _ _ e).1

module _ {k : ℕ} (small : k ≤ 32) (s : Settings) (limit : s.depth ≤ k) where
  pub refined_preserved : (x : Name) (c : Copy) → Preserved s (λ j u t. InBucket x (account u)) (Refined k x c)
  refined_preserved x c = record {
    splits = λ j u t i c' y b at e p. refined_within small p (account u) i b at
        (refined_split p.coherent (account u) y (ap name_of at) small b (omega (arith, splittable_below s y.depth b e)));
    carries = λ j u t i c' y b at e p. refined_within small p (account u) i b at
        (refined_replaced p.coherent (account u) y (ap name_of at) small (carry_out s j u t b));
  }

  -- the bucket x with body b that account a is in, resized
  module _ {c : Copy} (h : Coherent k c) (a : ℕ) (x : Name) (at : leaf_of c a ≡ kept x) (b : Body) (slots : ℕ → Slot) where
    pub refined_take_slots : (n : ℕ) → Refined k x c (take_slots s x b slots n (replace_leaf x (made x b) c))
    refined_take_slots n =
        preserved_take_slots (refined_preserved x c) x b slots n (λ j u t d. d.inside) (replace_leaf x (made x b) c)
        (refined_replaced h a x (ap name_of at) small b)

-- ---- the swap

body_if_some : (x : Name) (l : Leaf) (b : Body) → body_if x l ≡ Some b → l ≡ made x b
body_if_some x (kept y) b = λ e. absurd (none_some refl e)
body_if_some x (made y v) b =
    if_elim (λ (o : Option Body). o ≡ Some b → made y v ≡ made x b) (same y x) (Some v) None
    (λ f e. let g : y ≡ x = same_true y x f in cc) (λ f e. absurd (none_some refl e))

module _ {k : ℕ} (small : k ≤ 32) {c : Copy} (h : Coherent k c) where
  -- the first entry of a bucket is the entry of an account of the bucket
  first_leaf : (x : Name) (a : ℕ) → InBucket x a → x.depth ≤ c.depth
      → (r : ℕ) × (InBucket x r) × (c.leaves (x.prefix * 2 ^ (c.depth - x.depth)) ≡ leaf_of c r)
  unfolding leaf_of
  first_leaf x a i l =
      let m : x.depth ≤ 32 = omega (arith, h.bound) in
      let q : x.prefix < 2 ^ x.depth = rw i at (bits_below x.depth a m) in (
        representative x.depth x.prefix,
        bits_representative x.depth x.prefix m q,
        ap c.leaves (sym (first-entry x.depth c.depth x.prefix l (omega (arith, h.bound)) q)),
      )

  body_at : (a : ℕ) (x : Name) → name_of (leaf_of c a) ≡ x → body_made c x ≡ body_if x (leaf_of c a)
  unfolding body_made
  body_at a x at =
      let r = first_leaf x a (own-leaf h a x at a at) (depth_x h a x at) in
      ap (body_if x) (r.2 ∙ same_leaf h a x at r.0 r.1)

  pub body_made_made : (a : ℕ) (x : Name) (b : Body) → leaf_of c a ≡ made x b → body_made c x ≡ Some b
  body_made_made a x b at = body_at a x (ap name_of at) ∙ ap (body_if x) at ∙ if_true _ _ (eq_same x x refl)

  pub body_made_kept : (a : ℕ) (x : Name) → leaf_of c a ≡ kept x → body_made c x ≡ None
  body_made_kept a x at = body_at a x (ap name_of at) ∙ ap (body_if x) at

  -- a name that has a body is that of the leaf of all its accounts
  pub body_made_some : (x : Name) (b : Body) → body_made c x ≡ Some b → (a : ℕ) → InBucket x a → leaf_of c a ≡ made x b
  unfolding body_made
  body_made_some x b e a i =
      let l : c.leaves (x.prefix * 2 ^ (c.depth - x.depth)) ≡ made x b = body_if_some x _ b e in
      let m : x.depth ≤ c.depth = rw l at (h.shallow (x.prefix * 2 ^ (c.depth - x.depth))) in
      let r = first_leaf x a i m in
      let z : leaf_of c r.0 ≡ made x b = sym r.2 ∙ l in
      same_leaf h r.0 x (ap name_of z) a i ∙ z

-- ---- copies of directories

pub leaf_of_copy_of : (d : Directory) (a : ℕ) → leaf_of (copy_of d) a ≡ kept (bucket_of d a)
unfolding leaf_of copy_of bucket_of
leaf_of_copy_of d a = refl

pub bucket_of_directory_of : (c : Copy) (a : ℕ) → bucket_of (directory_of c) a ≡ name_of (leaf_of c a)
unfolding leaf_of directory_of bucket_of
bucket_of_directory_of c a = refl

-- each account's bucket has the account, and is one for all that it has
pub record Partition (k : ℕ) (names : ℕ → Name) : Type 0 where
  pub bound : (a : ℕ) → (names a).depth ≤ k
  pub named : (a : ℕ) → InBucket (names a) a
  pub shared : (a e : ℕ) → InBucket (names a) e → names e ≡ names a

pub partition_name : {k : ℕ} {names : ℕ → Name} → Partition k names → (a : ℕ) → names a ≡ name_at (names a).depth a
partition_name g a = name_path refl (sym (g.named a))

-- the buckets of a directory
pub partition_of : {k : ℕ} (d : Directory) → Coherent k (copy_of d) → Partition k (bucket_of d)
unfolding leaf_of copy_of bucket_of
partition_of d h = record {
  bound = λ a. omega (arith, depth_at_le h a, h.bound);
  named = h.named;
  shared = λ a e i. ap name_of (h.shared a e i);
}

-- what becomes current is coherent
pub coherent_directory_of : {k : ℕ} (c : Copy) → Coherent k c → Coherent k (copy_of (directory_of c))
unfolding leaf_of copy_of directory_of
coherent_directory_of c h = record {
  bound = h.bound;
  shallow = h.shallow;
  named = h.named;
  shared = λ a e i. ap (λ (l : Leaf). kept (name_of l)) (h.shared a e i);
  reached = h.reached;
}

pub coherent_first : (k : ℕ) → Coherent k (copy_of first_directory)
unfolding leaf_of copy_of first_directory
coherent_first k = record {
  bound = omega arith;
  shallow = λ e. omega arith;
  named = λ a. bits_zero a;
  shared = λ a e i. refl;
  reached = (0, omega arith);
}
