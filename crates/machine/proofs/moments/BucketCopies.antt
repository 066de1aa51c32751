-- One working copy for each current bucket: an update taken in its bucket's copy, and what it means to the plain table. Splits change no
-- account's part of the table, and the update is carried out unless its bucket holds it back. Rests on working copies and on buckets by
-- account.
use Prim.Native.Nat.{ℕ, suc, ◌≤◌, ◌<◌}
use native.Mathlib.Omega.{arith}
use mathlib.Core.Path.{◌≡◌, refl, ap, sym, ◌∙◌, subst}
use mathlib.Core.Logic.{◌≢◌}
use mathlib.Core.Bool.{Bool, true, false}
use lib.Dec.{eqb}
use Rattle.interface.specs.declared.Settings.{Settings}
use Rattle.machine.specs.Choice.{when◌then◌else◌}
use Rattle.machine.specs.Sequential.{Table, account, first_bits, having}
use Rattle.machine.specs.Records.{Name, same, Body, Leaf, kept, made, Copy, Cells}
use Rattle.machine.specs.BucketPass.{holds_back, carry_out}
use Rattle.machine.specs.DirectoryPass.{leaf_of, name_of, replace_leaf, half, split_while, carry_leaf, take_update}
use Rattle.machine.proofs.laws.Base.{if_elim, if_true, if_eq, if_ne, eq_elim}
use Rattle.machine.proofs.laws.Cells.{eq_same, same_false, same_elim}
use Rattle.machine.proofs.laws.Bits.{bits_mono}
use Rattle.machine.proofs.laws.Copies.{InBucket, depth_at, half_leaf, leaf_split, leaf_replaced, Coherent, depth_at_le, same_leaf, Partition, refined_split, split_while_keeps, depth_x, splittable_below}
use Rattle.machine.proofs.laws.Tables.{having_having}
use Rattle.machine.specs.Tasks.{Task, leaf}
use Rattle.machine.proofs.moments.Statuses.{UnsettledUpdate, Linearized, linearized_split, linearized_carry, PartAt, linearized_later}
use Rattle.machine.proofs.laws.Resolve.{made_body}

-- ---- splits

-- account a's leaf l has been split into l', any number of times
record LeafSplitFrom (a : ℕ) (l l' : Leaf) : Type 0 where
  deeper : (name_of l).depth ≤ (name_of l').depth
  settled : (made_body l').settled ≡ (made_body l).settled
  part : (t : Table) → PartAt a l t → PartAt a l' t

leaf_split_none : (a : ℕ) (l : Leaf) → LeafSplitFrom a l l
leaf_split_none a l = record { deeper = omega arith; settled = refl; part = λ t h. h }

leaf_split_half :
    {a : ℕ} {l : Leaf} (y : Name) (v : Body) → y.depth < 32 → LeafSplitFrom a l (made y v) → LeafSplitFrom a l (half_leaf y v a)
unfolding half
leaf_split_half {a} y v w p =
    let d : ℕ = suc y.depth in
    record {
      deeper = omega (arith, p.deeper);
      settled = p.settled;
      part = λ t h. ap (having d (first_bits d a)) (p.part t h) ∙ having_having y.depth d a t (omega arith) w;
    }

-- D has come from C by splits
record SplitFrom (s : Settings) (C D : Copy) : Type 0 where
  coherent : Coherent s.depth D
  leaf_from : (a : ℕ) → LeafSplitFrom a (leaf_of C a) (leaf_of D a)

split_from_while : (s : Settings) → s.depth ≤ 32 → (C : Copy) (e f : ℕ) (D : Copy) → SplitFrom s C D → SplitFrom s C (split_while s f e D)
split_from_while s small C e = split_while_keeps s (SplitFrom s C) e (λ D y v at g p.
    let h : Coherent s.depth D = p.coherent in
    let w : y.depth < s.depth = splittable_below s y.depth v g in
    record {
      coherent = (refined_split h e y (ap name_of at) small v w).coherent;
      leaf_from = λ a. rw (leaf_split y v D a (depth_x h e y (ap name_of at)) (omega (arith, h.bound)) (omega arith))
          (eq_elim (LeafSplitFrom a (leaf_of C a)) _ _ _ _
          (λ i. leaf_split_half y v (omega arith)
          (subst (LeafSplitFrom a (leaf_of C a)) (same_leaf h e y (ap name_of at) a i ∙ at) (p.leaf_from a)))
          (λ n. p.leaf_from a));
    })

-- ---- a copy for each bucket

-- each account's leaf in the copy of its bucket
abbrev pub own_leaf : (ℕ → Copy) → ℕ → Leaf
own_leaf H a = leaf_of (H a) a

-- H a is what is made of account a's bucket
pub record BucketCopies (s : Settings) (c : Cells) (H : ℕ → Copy) : Type 0 where
  pub one : (a e : ℕ) → leaf c e ≡ leaf c a → H e ≡ H a
  pub coherent : (a : ℕ) → Coherent s.depth (H a)
  pub low : (a : ℕ) → (leaf c a).depth ≤ depth_at (H a) a

-- the copy C instead of that of account e's bucket
abbrev pub replace_copy : Cells → ℕ → Copy → (ℕ → Copy) → ℕ → Copy
replace_copy c e C H a = when same (leaf c a) (leaf c e) then C else H a

module _ (s : Settings) (small : s.depth ≤ 32) (c : Cells) (g : Partition s.depth (leaf c)) (H : ℕ → Copy)
    (h : BucketCopies s c H) where
  -- what is in one leaf is in one bucket
  copies_bucket : (a e : ℕ) → InBucket (name_of (own_leaf H a)) e → leaf c e ≡ leaf c a
  copies_bucket a e i =
      let l : depth_at (H a) a ≤ 32 = omega (arith, depth_at_le (h.coherent a) a, (h.coherent a).bound) in
      g.shared a e (bits_mono (leaf c a).depth (depth_at (H a) a) e a (h.low a) l (i ∙ sym ((h.coherent a).named a)) ∙ g.named a)

  copies_leaf : (a e : ℕ) → InBucket (name_of (own_leaf H a)) e → own_leaf H e ≡ own_leaf H a
  copies_leaf a e i = ap (λ (C : Copy). leaf_of C e) (h.one a e (copies_bucket a e i)) ∙ (h.coherent a).shared a e i

  copies_partition : Partition s.depth (λ a. name_of (own_leaf H a))
  copies_partition = record {
    bound = λ a. omega (arith, depth_at_le (h.coherent a) a, (h.coherent a).bound);
    named = λ a. (h.coherent a).named a;
    shared = λ a e i. ap name_of (copies_leaf a e i);
  }

  copies_replaced : (e : ℕ) (C : Copy) → SplitFrom s (H e) C → BucketCopies s c (replace_copy c e C H)
  copies_replaced e C z = record {
    one = λ a b q.
        ap (λ (x : Name). when same x (leaf c e) then C else H b) q ∙ ap (λ (D : Copy). when same (leaf c a) (leaf c e) then C else D)
        (h.one a b q);
    coherent = λ a. same_elim (Coherent s.depth) (leaf c a) (leaf c e) C (H a) (λ q. z.coherent) (λ n. h.coherent a);
    low = λ a. same_elim (λ (D : Copy). (leaf c a).depth ≤ depth_at D a) (leaf c a) (leaf c e) C (H a)
        (λ q. omega (arith, h.low a, (z.leaf_from a).deeper, ap (λ (D : Copy). depth_at D a) (h.one e a q))) (λ n. h.low a);
  }

-- ---- one update taken

-- worker j's update, taken in the copy of its account's bucket
module _ (s : Settings) (small : s.depth ≤ 32) (c : Cells) (tasks : ℕ → Task) (t : Table)
    (g : Partition s.depth (leaf c)) (H : ℕ → Copy) (h : BucketCopies s c H) (j : ℕ) (w : UnsettledUpdate s c tasks j) where
  abbrev mine : ℕ
  mine = account w.wanted

  -- each leaf, with C for that bucket
  abbrev With : Copy → ℕ → Leaf
  With C = own_leaf (replace_copy c mine C H)

  abbrev carried_out : Body → Body
  carried_out = carry_out s j w.wanted (tasks j).ticket

  carried :
      (C : Copy) → SplitFrom s (H mine) C → (y : Name) (v : Body) → leaf_of C mine ≡ made y v → holds_back s y.depth v ≡ false
      → Linearized s c tasks t (With C) j
      → Linearized s c tasks t (With (replace_leaf y (made y (carried_out v)) C)) (suc j)
  unfolding when◌then◌else◌
  carried C z y v at room =
      linearized_carry s c tasks small (copies_partition s small c g K copies_ok) w
      (ap (λ (l : Leaf). holds_back s (name_of l).depth (made_body l)) here ∙ room) names inside outside
    where
      D : Copy
      D = replace_leaf y (made y (carried_out v)) C

      K : ℕ → Copy
      K = replace_copy c mine C H

      copies_ok : BucketCopies s c K
      copies_ok = copies_replaced s small c g H h mine C z

      here : With C mine ≡ made y v
      here = ap (λ (E : Copy). leaf_of E mine) (if_true C (H mine) (eq_same (leaf c mine) (leaf c mine) refl)) ∙ at

      leaf_in : (a : ℕ) → InBucket y a → With C a ≡ made y v
      leaf_in a i = copies_leaf s small c g K copies_ok mine a (rw here i) ∙ here

      law : (a : ℕ) → With D a ≡ when eqb (first_bits y.depth a) y.prefix then made y (carried_out v) else With C a
      law a = go (same (leaf c a) (leaf c mine)) refl
        where
          go : (b : Bool) → same (leaf c a) (leaf c mine) ≡ b
              → leaf_of (when b then D else H a) a
              ≡ when eqb (first_bits y.depth a) y.prefix then made y (carried_out v) else leaf_of (when b then C else H a) a
          go true x =
              let low : y.depth ≤ C.depth = omega (arith, depth_at_le z.coherent mine, ap (λ (l : Leaf). (name_of l).depth) at) in
              leaf_replaced y _ C a low (omega (arith, z.coherent.bound))
          go false x =
              sym (if_ne _ _ _ _ (λ i. same_false (leaf c a) (leaf c mine) x (copies_bucket s small c g K copies_ok mine a (rw here i))))

      names : (a : ℕ) → name_of (With D a) ≡ name_of (With C a)
      names a = rw (law a) (eq_elim (λ (l : Leaf). name_of l ≡ name_of (With C a)) _ _ _ _ (λ i. ap name_of (sym (leaf_in a i))) (λ n. refl))

      inside : (a : ℕ) → name_of (With C a) ≡ name_of (With C mine) → made_body (With D a) ≡ carried_out (made_body (With C a))
      inside a x =
          let i : InBucket y a = subst (λ (n : Name). InBucket n a) (x ∙ ap name_of here) ((copies_ok.coherent a).named a) in
          ap made_body (law a ∙ if_eq _ _ _ _ i) ∙ ap (λ (l : Leaf). carried_out (made_body l)) (sym (leaf_in a i))

      outside : (a : ℕ) → name_of (With C a) ≢ name_of (With C mine) → made_body (With D a) ≡ made_body (With C a)
      outside a n = ap made_body (law a ∙ if_ne _ _ _ _ (λ i. n (ap name_of (leaf_in a i ∙ sym here))))

  pub taking :
      Linearized s c tasks t (own_leaf H) j
      → Linearized s c tasks t (own_leaf (replace_copy c mine (take_update s j w.wanted (tasks j).ticket (H mine)) H)) (suc j)
  unfolding take_update carry_leaf
  taking q = go (leaf_of C mine) refl
    where
      C : Copy
      C = split_while s s.depth mine (H mine)

      z : SplitFrom s (H mine) C
      z =
          split_from_while s small (H mine) mine s.depth (H mine)
          (record { coherent = h.coherent mine; leaf_from = λ a. leaf_split_none a _ })

      leaf_splits : (a : ℕ) → LeafSplitFrom a (own_leaf H a) (With C a)
      leaf_splits a = same_elim (λ (D : Copy). LeafSplitFrom a (own_leaf H a) (leaf_of D a)) (leaf c a) (leaf c mine) C (H a)
          (λ x. subst (λ (D : Copy). LeafSplitFrom a (leaf_of D a) (leaf_of C a)) (sym (h.one mine a x)) (z.leaf_from a))
          (λ n. leaf_split_none a _)

      mid : Linearized s c tasks t (With C) j
      mid = linearized_split s c tasks (omega arith) (λ a. (leaf_splits a).part) (λ a. (leaf_splits a).settled) q

      go : (l : Leaf) → leaf_of C mine ≡ l → Linearized s c tasks t (With (carry_leaf s j w.wanted (tasks j).ticket C l)) (suc j)
      go (kept y) at = linearized_later s c tasks mid
      go (made y v) at =
          if_elim (λ (D : Copy). Linearized s c tasks t (With D) (suc j)) (holds_back s y.depth v) C
          (replace_leaf y (made y (carried_out v)) C) (λ f. linearized_later s c tasks mid) (λ f. carried C z y v at f mid)
