-- A total and the word that keeps it: each is read back from the other, at every value; a negative total's word is 2 ^ 63 or more.
-- Rests on the library's laws of signed integers.
use Prim.Native.Nat.{ℕ, ◌≤◌, ◌<◌, ◌^◌, ◌-◌}
use mathlib.Core.Path.{◌≡◌, refl, ◌∙◌, ap}
use mathlib.Core.Bool.{true, false}
use native.Mathlib.Omega.{arith}
use lib.IntN.{ℤ, pos, negsuc}
use lib.Signed.{lt_z}
use mir.Syntax.{w64}
use mir.Val.{SFits, to_z, of_z}
use mir.Facts.{to_z-of_z, of_z-to_z}
use borrow.Author.Tests.{ltb-true}

-- ---- what the word of a total gives back, and the total of a word

pub total_back : (x : ℤ) → SFits w64 x → to_z w64 (of_z w64 x) ≡ x
total_back x h = to_z-of_z h

pub word_back : (w : ℕ) → w < 2 ^ 64 → of_z w64 (to_z w64 w) ≡ w
word_back w h = of_z-to_z {w = w64} {n = w} (record { fits = h })

-- the two ends of the range, and the two totals next to each other at 0
pub greatest-total : of_z w64 (pos (2 ^ 63 - 1)) ≡ 2 ^ 63 - 1
greatest-total = refl

pub least-total : of_z w64 (negsuc (2 ^ 63 - 1)) ≡ 2 ^ 63
least-total = refl

pub zero_total : of_z w64 (pos 0) ≡ 0
zero_total = refl

pub total_below_zero : of_z w64 (negsuc 0) ≡ 2 ^ 64 - 1
total_below_zero = refl

-- ---- the sign of a total, in its word

high_of : (x : ℤ) → SFits w64 x → lt_z x (pos 0) ≡ true → 2 ^ 63 ≤ of_z w64 x
high_of (pos n) f e = let h = ltb-true n 0 e in omega arith
high_of (negsuc n) f e = let h = f.sfits in omega arith

low_of : (x : ℤ) → SFits w64 x → lt_z x (pos 0) ≡ false → of_z w64 x < 2 ^ 63
low_of (pos n) f e = f.sfits
low_of (negsuc n) f e = let z : true ≡ false = e in let q : ◌≡◌ {A = ℕ} 0 1 = cc in omega arith

pub high : (x : ℤ) → SFits w64 x → lt_z (to_z w64 (of_z w64 x)) (pos 0) ≡ true → 2 ^ 63 ≤ of_z w64 x
high x f e = high_of x f (rw (to_z-of_z f) at e)

pub low : (x : ℤ) → SFits w64 x → lt_z (to_z w64 (of_z w64 x)) (pos 0) ≡ false → of_z w64 x < 2 ^ 63
low x f e = low_of x f (rw (to_z-of_z f) at e)

-- a total as a list of totals keeps it
pub total_kept : (r : ℤ) (x y : ℕ) → r ≡ to_z w64 x → x < 2 ^ 64 → x ≡ y → to_z w64 (of_z w64 r) ≡ to_z w64 y
total_kept r x y e f h = ap (to_z w64) (ap (of_z w64) e ∙ of_z-to_z {w = w64} {n = x} (record { fits = f }) ∙ h)
