-- A bucket of the words in the middle of a directory swap gets another body: so does the leaf of the working copy that they stand for.
-- Rests on words that stand for a working copy.
use Prim.Native.Nat.{ℕ, ◌≤◌, ◌<◌}
use native.Mathlib.Omega.{arith}
use native.Mathlib.Decide.{ℕ_discrete}
use mathlib.Core.Path.{◌≡◌, ap, sym, ◌∙◌, subst}
use mathlib.Core.Logic.{◌≢◌}
use mathlib.Core.List.{List}
use lib.Dec.{eqb}
use Rattle.interface.specs.declared.Settings.{Settings}
use Rattle.machine.specs.Choice.{when◌then◌else◌}
use Rattle.machine.specs.Sequential.{first_bits}
use Rattle.machine.specs.Records.{Name, Body, Leaf, made, Copy, Cells}
use Rattle.machine.specs.DirectoryPass.{leaf_of, name_of, replace_leaf}
use Rattle.machine.proofs.laws.Base.{if_eq, if_ne}
use Rattle.machine.proofs.laws.Bits.{bits_below}
use Rattle.machine.proofs.laws.Copies.{InBucket, NotInBucket, leaf_replaced, depth_at_le, same_leaf, own-leaf, refined_replaced}
use Rattle.simulation.specs.Meaning.{name_in, Directs, Refers}
use Rattle.simulation.proofs.frames.Frames.{name_same}
use Rattle.simulation.proofs.swap.Halves.{SameRecord, Restated, frame_trans, same_trans}
use Rattle.simulation.proofs.swap.InPlace.{Content, KeepsLeaf, Mid, content_same}

module _ (s : Settings) (l₀ : List ℕ) (c₀ : Cells) (small : s.depth ≤ 32) where
  -- account a₀'s bucket x, in record r, has another body
  module _ (l l' : List ℕ) (c : Copy) (mid : Mid s l₀ c₀ l c) (a₀ : ℕ) (x : Name) (there : name_of (leaf_of c a₀) ≡ x) (b : Body)
      (stored : Restated s l l' (mid.index a₀)) (content : (a : ℕ) → InBucket x a → Content s l₀ c₀ l' (mid.index a₀) a (made x b))
      (held : (j r : ℕ) → j < s.workers → Refers s l₀ j r → SameRecord s l l' r) where
    abbrev c' : Copy
    c' = replace_leaf x (made x b) c

    leaf_law : (a : ℕ) → leaf_of c' a ≡ when eqb (first_bits x.depth a) x.prefix then made x b else leaf_of c a
    leaf_law a =
        let k = subst (λ (y : Name). y.depth ≤ c.depth) there (depth_at_le mid.coherent a₀) in
        leaf_replaced x (made x b) c a k (omega (arith, mid.coherent.bound))

    inside_leaf : (a : ℕ) → InBucket x a → leaf_of c' a ≡ made x b
    inside_leaf a i = leaf_law a ∙ if_eq _ _ _ _ i

    outside_leaf : (a : ℕ) → NotInBucket x a → leaf_of c' a ≡ leaf_of c a
    outside_leaf a o = leaf_law a ∙ if_ne _ _ _ _ o

    old_name : (a : ℕ) → InBucket x a → name_of (leaf_of c a) ≡ x
    old_name a i = ap name_of (same_leaf mid.coherent a₀ x there a i) ∙ there

    same_name : (a : ℕ) → name_of (leaf_of c' a) ≡ name_of (leaf_of c a)
    same_name a = go (ℕ_discrete (first_bits x.depth a) x.prefix)
      where
        go : Dec (InBucket x a) → name_of (leaf_of c' a) ≡ name_of (leaf_of c a)
        go (yes i) = ap name_of (inside_leaf a i) ∙ sym (old_name a i)
        go (no o) = ap name_of (outside_leaf a o)

    directs : (a : ℕ) → Directs s l' a (mid.index a)
    directs a = record {
      in_pool = (mid.keeps a).directs.in_pool;
      names = stored.entries _ (bits_below s.depth a small) ∙ (mid.keeps a).directs.names;
    }

    -- an account outside has another record
    other : (a : ℕ) → NotInBucket x a → mid.index a ≢ mid.index a₀
    other a o q = o (own-leaf mid.coherent a₀ x there a
        (sym (mid.keeps a).named ∙ ap (λ (r : ℕ). name_in s l r) q ∙ (mid.keeps a₀).named ∙ there))

    keeps_leaf : (a : ℕ) → Dec (InBucket x a) → KeepsLeaf s l₀ c₀ l' a (mid.index a) (leaf_of c' a)
    keeps_leaf a (yes i) =
        let q : mid.index a ≡ mid.index a₀ = mid.apart a a₀ (old_name a i ∙ sym there) in
        subst (λ (y : Leaf). KeepsLeaf s l₀ c₀ l' a (mid.index a) y) (sym (inside_leaf a i)) (record {
          directs = directs a;
          named = ap (λ (r : ℕ). name_in s l' r) q ∙ stored.name ∙ (mid.keeps a₀).named ∙ there;
          content = subst (λ (r : ℕ). Content s l₀ c₀ l' r a (made x b)) (sym q) (content a i);
        })
    keeps_leaf a (no o) =
        let h : SameRecord s l l' (mid.index a) = stored.others _ (mid.keeps a).directs.in_pool (other a o) in
        subst (λ (y : Leaf). KeepsLeaf s l₀ c₀ l' a (mid.index a) y) (sym (outside_leaf a o)) (record {
          directs = directs a;
          named = name_same s l l' _ h ∙ (mid.keeps a).named;
          content = content_same s l₀ c₀ l l' _ a (leaf_of c a) h (mid.keeps a).content;
        })

    pub replaced_mid : Mid s l₀ c₀ l' c'
    unfolding replace_leaf
    replaced_mid = record {
      frame = frame_trans s mid.frame stored.frame;
      depth = stored.depth ∙ mid.depth;
      coherent = (refined_replaced mid.coherent a₀ x there small b).coherent;
      index = mid.index;
      keeps = λ a. keeps_leaf a (ℕ_discrete (first_bits x.depth a) x.prefix);
      apart = λ a e h. mid.apart a e (sym (same_name a) ∙ h ∙ same_name e);
      held = λ j r jn h. same_trans s l₀ l l' r (mid.held j r jn h) (held j r jn h);
    }
