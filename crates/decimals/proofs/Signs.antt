-- The sign and the size of an i64, as the code finds them, and its text. Rests on the definitions of specs/Signs.
use Prim.Native.Nat.{ℕ}
use mathlib.Core.Path.{◌≡◌, refl, sym, ap}
use mathlib.Core.Bool.{Bool, true, false}
use mathlib.Core.List.{◌∷◌}
use native.Mathlib.Omega.{arith}
use lib.IntN.{ℤ, pos, negsuc, nat_abs}
use lib.Signed.{lt_z}
use mir.Syntax.{w64}
use mir.Val.{SFits, to_z, of_z}
use mir.Facts.{to_z-of_z}
use borrow.Author.Tests.{le-ltb}
use Rattle.machine.specs.Choice.{when◌then◌else◌}
use Rattle.decimals.specs.declared.Decimal.{Decimal}
use Rattle.decimals.specs.Ascii.{minus_sign}
use Rattle.decimals.specs.Decimals.{decimal, signed_decimal}
use Rattle.decimals.specs.Signs.{sign_of, decimal_text}

pub signed_text : (x : ℤ) → decimal_text (sign_of x) ≡ signed_decimal x
unfolding decimal_text sign_of signed_decimal when◌then◌else◌
signed_text (pos n) = refl
signed_text (negsuc n) = refl

split_sign : (x : ℤ) → sign_of x ≡ record { minus = lt_z x (pos 0); size = nat_abs x }
unfolding sign_of
split_sign (pos n) = ap (λ (b : Bool). record { minus = b; size = n }) (sym (le-ltb n 0 (omega arith)))
split_sign (negsuc n) = refl

-- by the code's test
pub by_sign : (x : ℤ) {size : ℕ} → SFits w64 x → size ≡ nat_abs (to_z w64 (of_z w64 x))
    → record { minus = lt_z (to_z w64 (of_z w64 x)) (pos 0); size = size } ≡ sign_of x
by_sign x f e = rw (e, to_z-of_z f) (sym (split_sign x))

-- ---- the text of a number

pub text_minus : (d : Decimal) → d.minus ≡ true → decimal_text d ≡ minus_sign ∷ decimal d.size
unfolding decimal_text when◌then◌else◌
text_minus d e = rw e

pub text_plain : (d : Decimal) → d.minus ≡ false → decimal_text d ≡ decimal d.size
unfolding decimal_text when◌then◌else◌
text_plain d e = rw e
