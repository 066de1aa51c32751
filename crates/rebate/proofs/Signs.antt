-- The sign of a total, by the code's test. Rests on the library's laws of signed integers and on the definition of the rebate.
use Prim.Native.Nat.{ℕ, ◌^◌, ◌<◌}
use native.Mathlib.Omega.{arith}
use mathlib.Core.Path.{◌≡◌, refl}
use mathlib.Core.Bool.{true, false, true≢false}
use lib.IntN.{ℤ, pos, negsuc}
use lib.Signed.{lt_z}
use mir.Syntax.{w64}
use mir.Val.{SFits, to_z, of_z}
use mir.Facts.{to_z-of_z}
use borrow.Author.Tests.{ltb-true}
use Rattle.rebate.specs.Rebate.{rebate_on}

-- a total that is not negative is an amount of 63 bits
pub record Amount (x : ℤ) : Type 0 where
  pub amount : ℕ
  pub small : amount < 2 ^ 63
  pub total : x ≡ pos amount
  -- as the code has it
  pub read : to_z w64 (of_z w64 x) ≡ pos amount

amount-of : (x : ℤ) → SFits w64 x → lt_z x (pos 0) ≡ false → Amount x
amount-of (pos n) f e = record { amount = n; small = f.sfits; total = refl; read = to_z-of_z f }
amount-of (negsuc n) f e = absurd (true≢false e)

pub not_negative : (x : ℤ) → SFits w64 x → lt_z (to_z w64 (of_z w64 x)) (pos 0) ≡ false → Amount x
not_negative x f e = amount-of x f (rw (to_z-of_z f) at e)

none_of : (x : ℤ) → lt_z x (pos 0) ≡ true → 0 ≡ rebate_on x
unfolding rebate_on
none_of (pos n) e = let h = ltb-true n 0 e in absurd (omega arith)
none_of (negsuc n) e = refl

pub none_below : (x : ℤ) → SFits w64 x → lt_z (to_z w64 (of_z w64 x)) (pos 0) ≡ true → 0 ≡ rebate_on x
none_below x f e = none_of x (rw (to_z-of_z f) at e)
