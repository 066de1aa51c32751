-- What a reader of the exported file finds in it. 02, No. 14: "Every exported line must determine its account and
-- total." Rests on the numerals and on texts cut at a byte.
use Rattle.std.specs.Prelude.{ℕ, ◌+◌, ◌*◌, List, [], ◌∷◌, eqb, ℤ, Option, Some, None}
use Rattle.machine.specs.Choice.{when◌then◌else◌}
use Rattle.decimals.specs.Ascii.{line_feed, carriage_return, comma, minus_sign, point}
use Rattle.numerals.specs.Numerals.{digits_after, numeral, plus, minus}
use Rattle.numerals.specs.Cut.{parts_at}

-- ---- a total

unfoldable pub two_digits : List ℕ → Option ℕ
two_digits [] = None
two_digits (b ∷ []) = None
two_digits (b ∷ c ∷ []) = digits_after 0 (b ∷ c ∷ [])
two_digits (b ∷ c ∷ d ∷ bs) = None

unfoldable pub in_cents : Option ℕ → Option ℕ → Option ℕ
in_cents None c = None
in_cents (Some u) None = None
in_cents (Some u) (Some c) = Some (u * 100 + c)

-- what stands before a point, and behind it
unfoldable pub cents_of : List (List ℕ) → Option ℕ
cents_of [] = None
cents_of (u ∷ []) = None
cents_of (u ∷ c ∷ []) = in_cents (numeral u) (two_digits c)
cents_of (u ∷ c ∷ p ∷ ps) = None

-- the cents that units with two decimals are
unfoldable pub read_units : List ℕ → Option ℕ
read_units field = cents_of (parts_at point ([] ∷ []) field)

unfoldable pub read_total : List ℕ → Option ℤ
read_total [] = None
read_total (b ∷ bs) = when eqb b minus_sign then minus (read_units bs) else plus (read_units (b ∷ bs))

-- ---- lines

unfoldable pub row_of : Option ℕ → Option ℤ → Option (ℕ × ℤ)
row_of None t = None
row_of (Some a) None = None
row_of (Some a) (Some t) = Some (a, t)

unfoldable pub read_fields : List (List ℕ) → Option (ℕ × ℤ)
read_fields [] = None
read_fields (a ∷ []) = None
read_fields (a ∷ t ∷ []) = row_of (numeral a) (read_total t)
read_fields (a ∷ t ∷ f ∷ fs) = None

-- what stands before a carriage return, with nothing behind it
unfoldable pub read_ended : List (List ℕ) → Option (ℕ × ℤ)
read_ended [] = None
read_ended (x ∷ []) = None
read_ended (x ∷ [] ∷ []) = read_fields (parts_at comma ([] ∷ []) x)
read_ended (x ∷ (b ∷ bs) ∷ []) = None
read_ended (x ∷ y ∷ p ∷ ps) = None

-- the account and the total of a line, from its bytes before the line feed
unfoldable pub read_line : List ℕ → Option (ℕ × ℤ)
read_line line = read_ended (parts_at carriage_return ([] ∷ []) line)

unfoldable pub behind : Option (ℕ × ℤ) → Option (List (ℕ × ℤ)) → Option (List (ℕ × ℤ))
behind None rs = None
behind (Some r) None = None
behind (Some r) (Some rs) = Some (r ∷ rs)

unfoldable pub read_lines : List (List ℕ) → Option (List (ℕ × ℤ))
read_lines [] = Some []
read_lines (l ∷ ls) = behind (read_line l) (read_lines ls)

-- ---- whole texts

-- the rows of a text without header
unfoldable pub read_rows : List ℕ → Option (List (ℕ × ℤ))
read_rows text = read_lines (parts_at line_feed [] text)

-- all lines but the first
unfoldable pub behind_header : List (List ℕ) → Option (List (ℕ × ℤ))
behind_header [] = None
behind_header (h ∷ ls) = read_lines ls

unfoldable pub read_file : List ℕ → Option (List (ℕ × ℤ))
read_file text = behind_header (parts_at line_feed [] text)
