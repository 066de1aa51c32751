-- Parts written over a buffer, one behind the other; digits from the last to the first. Rests on the definitions of specs/Decimals.
use Prim.Native.Nat.{ℕ, zero, suc, ◌+◌, ◌-◌, ◌/◌, ◌%◌, ◌≤◌, ◌<◌}
use mathlib.Core.Path.{◌≡◌, refl, ◌∙◌, ap}
use mathlib.Core.List.{List, [], ◌∷◌, ◌++◌, append_assoc}
use native.Mathlib.Nat.{add_assoc}
use native.Mathlib.Numerals.{add-one}
use native.Mathlib.Omega.{arith}
use lib.ListN.{length, take, drop, set, length-append}
use lib.Seq.{drop_at, length-take-le, set_split, append_snoc, take-set-le}
use Rattle.lists.specs.Parts.{overlay}
use Rattle.lists.proofs.PartLaws.{set_overlay, length_overlay, overlay_join}
use Rattle.decimals.specs.Ascii.{zero_digit}
use Rattle.decimals.specs.Decimals.{digit, digits}
use Rattle.decimals.proofs.DecimalLaws.{length_digits}

module _ (l : List ℕ) (at : ℕ) (xs : List ℕ) where
  -- a part right behind what is written, and a byte
  pub next : {m o : List ℕ} (k : ℕ) (ys : List ℕ) → at + length xs ≤ length l → m ≡ overlay l at xs → o ≡ overlay m k ys
      → at + length xs ≡ k
      → o ≡ overlay l at (xs ++ ys)
  next k ys h e f g = f ∙ rw (e, ← g) (overlay_join l at xs ys (omega arith))

  pub next_byte : {m : List ℕ} (k b : ℕ) → at + length xs < length l → m ≡ overlay l at xs → at + length xs ≡ k
      → set m k b ≡ overlay l at (xs ++ b ∷ [])
  next_byte {m} k b h e g =
      next k (b ∷ []) (omega arith) e (set_overlay m k b (let n = ap length e ∙ length_overlay l at xs (omega arith) in omega arith)) g

pub byte_then : (l : List ℕ) (at b : ℕ) (ys : List ℕ) → at < length l → overlay (set l at b) (at + 1) ys ≡ overlay l at (b ∷ ys)
byte_then l at b ys h = next l at (b ∷ []) (at + 1) ys (omega arith) (set_overlay l at b h) refl refl

-- ---- digits from the last to the first

-- a byte behind a part that is still to be written
last_first : (l : List ℕ) (at : ℕ) (xs : List ℕ) (b k : ℕ) → at + length xs ≡ k → k < length l
    → overlay (set l k b) at xs ≡ overlay l at (xs ++ b ∷ [])
unfolding overlay
last_first l at xs b k e h =
    rw (
      e,
      take-set-le at l k b (omega arith),
      set_split l k b h,
      drop_at (take k l) (b ∷ drop (suc k) l) k
          (length-take-le k l (omega arith)),
    )
    (rw (length-append xs (b ∷ []), ← add_assoc at (length xs) 1, e, add-one, ← append_assoc (take at l) xs (b ∷ []), append_snoc))

pub spelled : (l : List ℕ) (at i n : ℕ) → 0 < i → at + i ≤ length l
    → overlay (set l (at + (i - 1)) (zero_digit + n % 10)) at (digits (i - 1) (n / 10)) ≡ overlay l at (digits i n)
unfolding digits digit
spelled l at zero n h k = absurd (omega arith)
spelled l at (suc i) n h k =
    let e : suc i - 1 ≡ i = omega arith in
    rw e (last_first l at (digits i (n / 10)) (zero_digit + n % 10) (at + i) (rw (length_digits i (n / 10))) (omega arith))
