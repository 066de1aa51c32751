-- Which bytes are a decimal number. 01, The driver: "in decimal"; "Numbers have no leading zeros; a total may start
-- with a minus, but -0 is no number"; 02, No. 1: "an amount being ranged and read like a total". Rests on the bytes by
-- name and on the tests of the machine's specs/Choice.
use Rattle.std.specs.Prelude.{ℕ, zero, suc, ◌+◌, ◌-◌, ◌*◌, ◌^◌, Bool, List, [], ◌∷◌, leb, eqb, ℤ, pos, negsuc, Option, Some, None}
use Rattle.machine.specs.Choice.{when◌then◌else◌, ◌and◌}
use Rattle.decimals.specs.Ascii.{minus_sign, zero_digit, nine_digit}

unfoldable pub is_digit : ℕ → Bool
is_digit b = leb zero_digit b and leb b nine_digit

-- what the digits say after those that said v; nothing where a byte is no digit
unfoldable pub digits_after : ℕ → List ℕ → Option ℕ
digits_after v [] = Some v
digits_after v (b ∷ bs) = when is_digit b then digits_after (v * 10 + (b - zero_digit)) bs else None

-- a zero is a number by itself only
unfoldable pub zero_then : List ℕ → Option ℕ
zero_then [] = Some 0
zero_then (b ∷ bs) = None

-- the number that the bytes are in decimal, if they are one: a digit at least, and no leading zero
unfoldable pub numeral : List ℕ → Option ℕ
numeral [] = None
numeral (b ∷ bs) = when eqb b zero_digit then zero_then bs else digits_after 0 (b ∷ bs)

unfoldable pub plus : Option ℕ → Option ℤ
plus None = None
plus (Some n) = Some (pos n)

-- "-0 is no number"
unfoldable pub minus : Option ℕ → Option ℤ
minus None = None
minus (Some zero) = None
minus (Some (suc n)) = Some (negsuc n)

-- "a total may start with a minus"
unfoldable pub signed_numeral : List ℕ → Option ℤ
signed_numeral [] = None
signed_numeral (b ∷ bs) = when eqb b minus_sign then minus (numeral bs) else plus (numeral (b ∷ bs))

-- ---- ranges

unfoldable pub up_to : ℕ → Option ℕ → Option ℕ
up_to most None = None
up_to most (Some v) = when leb v most then Some v else None

unfoldable pub from : ℕ → Option ℕ → Option ℕ
from least None = None
from least (Some v) = when leb least v then Some v else None

-- "a total a 64-bit signed number": the greatest, and the size of the least
abbrev pub greatest_total : ℕ
greatest_total = 2 ^ 63 - 1

abbrev pub least_total_size : ℕ
least_total_size = 2 ^ 63

unfoldable pub in64 : Option ℤ → Option ℤ
in64 None = None
in64 (Some (pos n)) = when leb n greatest_total then Some (pos n) else None
in64 (Some (negsuc n)) = when leb (suc n) least_total_size then Some (negsuc n) else None
