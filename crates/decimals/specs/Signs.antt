-- The source's numbers, a sign and a size, and their text. Rests on specs/Decimals.
use Rattle.std.specs.Prelude.{ℕ, suc, true, false, List, ◌∷◌, ℤ, pos, negsuc}
use Rattle.machine.specs.Choice.{when◌then◌else◌}
use Rattle.decimals.specs.declared.Decimal.{Decimal}
use Rattle.decimals.specs.Ascii.{minus_sign}
use Rattle.decimals.specs.Decimals.{decimal}

unfoldable pub sign_of : ℤ → Decimal
sign_of (pos n) = record { minus = false; size = n }
sign_of (negsuc n) = record { minus = true; size = suc n }

unfoldable pub decimal_text : Decimal → List ℕ
decimal_text d = when d.minus then minus_sign ∷ decimal d.size else decimal d.size
