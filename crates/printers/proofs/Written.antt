-- Texts of a word and numbers written over a buffer, and what a printer leaves. Rests on the definitions of specs/Written.
use Prim.Native.Nat.{ℕ, ◌+◌, ◌-◌, ◌≤◌, ◌<◌}
use mathlib.Core.Path.{◌≡◌, refl, sym, ◌∙◌}
use mathlib.Core.Bool.{Bool, true, false}
use mathlib.Core.List.{List, [], ◌∷◌, ◌++◌}
use native.Mathlib.Omega.{arith}
use lib.Dec.{leb}
use lib.ListN.{length, set, length-append}
use lib.Seq.{take-length, paste}
use borrow.Author.Tests.{le-leb, lt-leb, leb-true, leb-false}
use Rattle.machine.specs.Choice.{when◌then◌else◌}
use Rattle.lists.specs.Parts.{overlay}
use Rattle.decimals.specs.declared.Decimal.{Decimal}
use Rattle.decimals.specs.Ascii.{line_feed, space}
use Rattle.decimals.specs.Signs.{decimal_text}
use Rattle.decimals.proofs.Overlays.{next, next_byte}
use Rattle.printers.specs.Written.{pair_text, fits, Wrote}

-- a whole copy
pub overlay_paste : (l : List ℕ) (at : ℕ) (xs : List ℕ) → paste l at xs (length xs) ≡ overlay l at xs
unfolding overlay
overlay_paste l at xs = rw (take-length xs)

-- a word, a part behind it and a line feed
pub word_part_feed : (l : List ℕ) (at : ℕ) (xs ys : List ℕ) (k : ℕ) {m o : List ℕ} → at + (length xs + k + 1) ≤ length l → k ≡ length ys
    → m ≡ overlay l at xs → o ≡ overlay m (at + length xs) ys
    → set o (at + length xs + k) line_feed ≡ overlay l at (xs ++ ys ++ line_feed ∷ [])
word_part_feed l at xs ys k h e p q =
    let n = length-append xs ys in
    next_byte l at (xs ++ ys) (at + length xs + k) line_feed (omega arith) (next l at xs (at + length xs) ys (omega arith) p q refl)
    (omega arith)

-- two parts, a space between them, and a line feed
pub part_space_part_feed : (l : List ℕ) (at : ℕ) (xs ys : List ℕ) (j k : ℕ) {m o : List ℕ} → at + (j + 1 + k + 1) ≤ length l → j ≡ length xs
    → k ≡ length ys
    → m ≡ overlay l at xs → o ≡ overlay (set m (at + j) space) (at + j + 1) ys
    → set o (at + j + 1 + k) line_feed ≡ overlay l at (xs ++ space ∷ [] ++ ys ++ line_feed ∷ [])
part_space_part_feed l at xs ys j k h e f p q =
    let n = length-append xs (space ∷ []) in
    let r = length-append (xs ++ space ∷ []) ys in
    let w = next_byte l at xs (at + j) space (omega arith) p (omega arith) in
    next_byte l at (xs ++ space ∷ [] ++ ys) (at + j + 1 + k) line_feed (omega arith)
    (next l at (xs ++ space ∷ []) (at + j + 1) ys (omega arith) w q (omega arith)) (omega arith)

pub pair_length : (a b : Decimal) → length (pair_text a b) ≡ length (decimal_text a) + 1 + length (decimal_text b) + 1
unfolding pair_text
pair_length a b = simp length-append

-- ---- what a printer leaves

-- the text, where it has room
pub wrote : (l : List ℕ) (at : ℕ) (xs : List ℕ) (r : ℕ) (after : List ℕ) → at + length xs ≤ length l → r ≡ length xs
    → after ≡ overlay l at xs → Wrote l at xs r after
unfolding fits when◌then◌else◌
wrote l at xs r after h c b =
    record { count = rw (le-leb (at + length xs) (length l) h) c; buffer = rw (le-leb (at + length xs) (length l) h) b }

pub wrote_nothing : (l : List ℕ) (at : ℕ) (xs : List ℕ) → length l < at + length xs → Wrote l at xs 0 l
unfolding fits when◌then◌else◌
wrote_nothing l at xs h = record { count = rw (lt-leb (at + length xs) (length l) h); buffer = rw (lt-leb (at + length xs) (length l) h) }

-- the same for a text that is known by an equation
pub retold : {l : List ℕ} {at : ℕ} {xs ys : List ℕ} {r : ℕ} {after : List ℕ} → xs ≡ ys → Wrote l at xs r after → Wrote l at ys r after
retold e w = rw (sym e) w

-- ---- the test for room

pub has_room : (r : Bool) (n m : ℕ) → r ≡ leb n m → r ≡ true → n ≤ m
has_room r n m e f = leb-true n m (sym e ∙ f)

pub no-room : (r : Bool) (n m : ℕ) → r ≡ leb n m → r ≡ false → m < n
no-room r n m e f = leb-false n m (sym e ∙ f)

-- the same without a sum that could be too large
pub room_in_rest : (at size len : ℕ) → at ≤ len → leb size (len - at) ≡ leb (at + size) len
room_in_rest at size len h = by (leb size (len - at)) refl
  where
    by : (t : Bool) → leb size (len - at) ≡ t → t ≡ leb (at + size) len
    by true e = let k = leb-true size (len - at) e in sym (le-leb (at + size) len (omega arith))
    by false e = let k = leb-false size (len - at) e in sym (lt-leb (at + size) len (omega arith))
