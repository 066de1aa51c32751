-- Decimal numbers written as bytes. 01, The driver: "in decimal"; "Numbers have no leading zeros".
-- Rests on specs/Ascii.
use Rattle.std.specs.Prelude.{ℕ, zero, suc, ◌+◌, ◌/◌, ◌%◌, true, false, List, [], ◌∷◌, ◌++◌, ltb, ℤ, pos, negsuc}
use Rattle.decimals.specs.Ascii.{minus_sign, zero_digit}

-- the byte of a digit below 10
unfoldable pub digit : ℕ → ℕ
digit d = zero_digit + d

-- the last k digits of n, the most significant first
unfoldable pub digits : ℕ → ℕ → List ℕ
digits zero n = []
digits (suc k) n = digits k (n / 10) ++ digit (n % 10) ∷ []

-- how many digits n has, if they are at most suc most
unfoldable pub digit_count_up_to : ℕ → ℕ → ℕ
digit_count_up_to zero n = 1
digit_count_up_to (suc most) n = elim (ltb n 10) [ true ↦ 1 | false ↦ suc (digit_count_up_to most (n / 10)) ]

-- how many digits n has: never more than suc n, as each takes a tenth
unfoldable pub digit_count : ℕ → ℕ
digit_count n = digit_count_up_to n n

-- the most digits that a number of 64 bits has
abbrev pub most_digits : ℕ
most_digits = 20

-- n in decimal
unfoldable pub decimal : ℕ → List ℕ
decimal n = digits (digit_count n) n

unfoldable pub signed_decimal : ℤ → List ℕ
signed_decimal (pos n) = decimal n
signed_decimal (negsuc n) = minus_sign ∷ decimal (suc n)
