-- Laws of runs of words that a loop writes one word at a time: a run laid over words, the first items of an array stored, a run copied.
-- Rests on the laws of parts and overlays.
use Prim.Native.Nat.{ℕ, ◌+◌, ◌≤◌, ◌<◌}
use mathlib.Core.Path.{◌≡◌, sym, ◌∙◌, ap}
use mathlib.Core.Logic.{◌⊎◌, inl, inr, ⊎_elim}
use mathlib.Core.List.{List, ◌++◌}
use native.Mathlib.Omega.{arith}
use lib.ListN.{length, take, drop, get_or, set, length-append, length-drop}
use lib.Seq.{length-take-le, get_or-drop, set-append_left, take-set-lt, drop-set-lt, take-suc, get_or-take}
use native.Mathlib.Numerals.{add-one}
use Rattle.lists.specs.Parts.{part, overlay}
use Rattle.lists.proofs.PartLaws.{overlay_more, overlay_nil, length_overlay, get_d_overlay_in, get_d_overlay_before, get_d_overlay_after}
use Rattle.memory.specs.Words.{stored}

-- ---- a run laid over words

module _ (l : List ℕ) (at : ℕ) (xs : List ℕ) (v : ℕ) where
  -- a word before the run, written under it
  pub set_before : (i : ℕ) → i < at → at ≤ length l → set (overlay l at xs) i v ≡ overlay (set l i v) at xs
  unfolding overlay
  set_before i h k =
      let n = length-take-le at l k in
      let m = length-append (take at l) xs in
      rw (
        set-append_left (take at l ++ xs) (drop (at + length xs) l) i v (omega arith),
        set-append_left (take at l) xs i v (omega arith),
        take-set-lt at l i v h,
        drop-set-lt (at + length xs) l i v (omega arith),
      )

-- ---- the first k items of an array stored

pub stored_none : (l : List ℕ) (at : ℕ) (a : List ℕ) → stored l at a 0 ≡ l
unfolding stored
stored_none l at a = overlay_nil l at

pub stored_more :
    (w l : List ℕ) (at : ℕ) (a : List ℕ) (i : ℕ) → w ≡ stored l at a i → at + i < length l → i < length a
    → set w (at + i) (get_or a i 0) ≡ stored l at a (i + 1)
unfolding stored
stored_more w l at a i e h m =
    let n = length-take-le i a (omega arith) in
    ap (λ (u : List ℕ). set u (at + i) (get_or a i 0)) e
    ∙ ap (λ (j : ℕ). set (overlay l at (take i a)) (at + j) (get_or a i 0)) (sym n)
    ∙ overlay_more l at (take i a) (get_or a i 0) (omega arith)
    ∙ ap (overlay l at) (rw add-one (sym (take-suc a i 0 m)))

-- what the words w are after that, where m were the words before it
pub record Run (m w : List ℕ) (at : ℕ) (a : List ℕ) (k : ℕ) : Type 0 where
  pub long : length w ≡ length m
  pub inside : (i : ℕ) → i < k → get_or w (at + i) 0 ≡ get_or a i 0
  pub elsewhere : (i : ℕ) → (i < at) ⊎ (at + k ≤ i) → get_or w i 0 ≡ get_or m i 0

pub stored_run : (m : List ℕ) (at : ℕ) (a : List ℕ) (k : ℕ) → at + k ≤ length m → k ≤ length a → Run m (stored m at a k) at a k
unfolding stored
stored_run m at a k h f =
    let n = length-take-le k a f in
    let fits : at + length (take k a) ≤ length m = omega arith in
    record {
      long = length_overlay m at (take k a) fits;
      inside = λ i p. get_d_overlay_in m at (take k a) fits i (omega arith) ∙ get_or-take k a i 0 p;
      elsewhere = λ i p. ⊎_elim (get_d_overlay_before m at (take k a) fits i)
          (λ e. get_d_overlay_after m at (take k a) fits i (omega arith)) p;
    }

-- ---- a run copied to another place

pub copy_more :
    (w l : List ℕ) (from to k i : ℕ) → w ≡ overlay l to (part l from i) → from + k ≤ length l → to + k ≤ length l
    → (from + k ≤ to) ⊎ (to ≤ from)
    → i < k → set w (to + i) (get_or w (from + i) 0) ≡ overlay l to (part l from (i + 1))
unfolding part stored
copy_more w l from to k i e f g apart h =
    let n = length-drop from l in
    let other : (from + i < to) ⊎ (to + i ≤ from + i) = ⊎_elim (λ p. inl (omega arith)) (λ p. inr (omega arith)) apart in
    let same : get_or w (from + i) 0 ≡ get_or (drop from l) i 0 =
    ap (λ (u : List ℕ). get_or u (from + i) 0) e
    ∙ (stored_run l to (drop from l) i (omega arith) (omega arith)).elsewhere (from + i) other
    ∙ sym (get_or-drop from l i 0) in
    ap (set w (to + i)) same ∙ stored_more w l to (drop from l) i e (omega arith) (omega arith)
