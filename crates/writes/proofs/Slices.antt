-- An item put into an array and one taken out, as overlays of it; and so in a slice of the words that a call has written.
-- Rests on the laws of parts and overlays.
use Prim.Native.Nat.{ℕ, suc, ◌+◌, ◌-◌, ◌≤◌, ◌<◌}
use native.Mathlib.Nat.{add_assoc}
use native.Mathlib.Omega.{arith}
use mathlib.Core.Path.{◌≡◌, sym, ◌∙◌, ap}
use mathlib.Core.List.{List, ◌∷◌, ◌++◌, append_assoc}
use lib.ListN.{length, take, drop}
use lib.Seq.{drop-drop}
use borrow.Rule.Slice.PartMut.{put_mid}
use borrow.Author.Tests.{lt-ltb, le-leb}
use Rattle.machine.proofs.laws.Base.{if_true, and_true}
use Rattle.arrays.specs.Arrays.{inserted_in, removed_from}
use Rattle.lists.specs.Parts.{part, overlay}
use Rattle.lists.proofs.PartLaws.{overlay_inner, length_overlay, length_part, get_d_part, part_ext}

-- ---- an item put into an array and one taken out, as overlays of it

pub inserted_overlay : (a : List ℕ) (c i v : ℕ) → c < length a → i ≤ c → inserted_in a c i v ≡ overlay a i (v ∷ part a i (c - i))
unfolding inserted_in overlay part
inserted_overlay a c i v h k =
    let n : length (take (c - i) (drop i a)) ≡ c - i = length_part a i (c - i) (omega arith) in
    let e : suc c ≡ i + suc (length (take (c - i) (drop i a))) = omega arith in
    if_true _ a (and_true (lt-ltb c (length a) h) (le-leb i c k)) ∙ ap (λ (k : ℕ). take i a ++ v ∷ take (c - i) (drop i a) ++ drop k a) e

pub removed_overlay : (a : List ℕ) (c i : ℕ) → c ≤ length a → i < c → removed_from a c i ≡ overlay a i (part a (i + 1) (c - i - 1))
unfolding removed_from overlay part
removed_overlay a c i h k =
    let next : suc i ≡ i + 1 = omega arith in
    let left : c - (i + 1) ≡ c - i - 1 = omega arith in
    let n : length (take (c - i - 1) (drop (i + 1) a)) ≡ c - i - 1 = length_part a (i + 1) (c - i - 1) (omega arith) in
    let e : c - 1 ≡ i + length (take (c - i - 1) (drop (i + 1) a)) = omega arith in
    if_true _ a (and_true (le-leb c (length a) h) (lt-ltb i c k))
    ∙ ap (λ (o : ℕ). take i a ++ take (c - o) (drop o a) ++ drop (c - 1) a) next
    ∙ ap (λ (o : ℕ). take i a ++ take o (drop (i + 1) a) ++ drop (c - 1) a) left
    ∙ ap (λ (o : ℕ). take i a ++ take (c - i - 1) (drop (i + 1) a) ++ drop o a) e

-- ---- a slice of the words written: the k words at `at`, which a call has made m

module _ (l m : List ℕ) (at k c : ℕ) (fits : at + k ≤ length l) where
  -- a run of the slice
  part_part : (i n : ℕ) → i + n ≤ k → part (part l at k) i n ≡ part l (at + i) n
  part_part i n h =
      let e : length (part l at k) ≡ k = length_part l at k fits in
      part_ext (part l at k) i n (part l (at + i) n) (omega arith) (length_part l (at + i) n (omega arith))
      (λ j g. get_d_part l at k (i + j) (omega arith) ∙ rw (← add_assoc) (sym (get_d_part l (at + i) n j g)))

  slice_written : length m ≡ k → put_mid at k l m ≡ overlay l at m
  unfolding overlay
  slice_written n = rw (drop-drop k at l, ← n) (sym (append_assoc (take at l) m _))

  -- overlaid with a run
  slice_overlaid : (i : ℕ) (xs : List ℕ) → i + length xs ≤ k → m ≡ overlay (part l at k) i xs → put_mid at k l m ≡ overlay l (at + i) xs
  slice_overlaid i xs h e =
      let n : length (part l at k) ≡ k = length_part l at k fits in
      slice_written (ap length e ∙ length_overlay (part l at k) i xs (omega arith) ∙ n)
      ∙ ap (overlay l at) e ∙ overlay_inner l at k fits i xs h

  pub slice_raised :
      (i v : ℕ) → k ≡ c + 1 → i ≤ c → m ≡ inserted_in (part l at k) c i v
      → put_mid at k l m ≡ overlay l (at + i) (v ∷ part l (at + i) (c - i))
  slice_raised i v e h f =
      let n = length_part l at k fits in
      let r = length_part l (at + i) (c - i) (omega arith) in
      slice_overlaid i _ (omega arith)
      (f ∙ inserted_overlay (part l at k) c i v (omega arith) h
      ∙ ap (λ (xs : List ℕ). overlay (part l at k) i (v ∷ xs)) (part_part i (c - i) (omega arith)))

  pub slice_lowered :
      (i : ℕ) → k ≡ c → i < c → m ≡ removed_from (part l at k) c i
      → put_mid at k l m ≡ overlay l (at + i) (part l (at + i + 1) (c - i - 1))
  slice_lowered i e h f =
      let n = length_part l at k fits in
      let r = length_part l (at + i + 1) (c - i - 1) (omega arith) in
      slice_overlaid i _ (omega arith)
      (f ∙ removed_overlay (part l at k) c i (omega arith) h
      ∙ ap (overlay (part l at k) i) (part_part (i + 1) (c - i - 1) (omega arith) ∙ rw (← add_assoc)))
