-- The source's cents, a sign and a size, in units with two decimals. Rests on the source's numbers.
use Rattle.std.specs.Prelude.{ℕ, ◌/◌, List, ◌∷◌, ◌++◌}
use Rattle.decimals.specs.declared.Decimal.{Decimal}
use Rattle.decimals.specs.Ascii.{point}
use Rattle.decimals.specs.Decimals.{digits}
use Rattle.decimals.specs.Signs.{decimal_text}

-- the whole units, with the sign of the cents
unfoldable pub units_of : Decimal → Decimal
units_of d = record { minus = d.minus; size = d.size / 100 }

unfoldable pub units_text : Decimal → List ℕ
units_text d = decimal_text (units_of d) ++ point ∷ digits 2 d.size
