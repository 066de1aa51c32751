-- The exported file. 02, No. 14: "Write the listing as RFC 4180 records, lines ended by CR LF, header `account,total`,
-- totals in units with two decimals, as -12.05 for -1205 and 0.07 for 7. The lowest 64-bit total too." Rests on the
-- decimals.
use Rattle.std.specs.Prelude.{ℕ, suc, ◌/◌, List, [], ◌∷◌, ◌++◌, ℤ, pos, negsuc}
use Rattle.interface.specs.Numbers.{bytes}
use Rattle.decimals.specs.Ascii.{line_feed, carriage_return, comma, minus_sign, point}
use Rattle.decimals.specs.Decimals.{digits, decimal}

-- "RFC 4180 records, lines ended by CR LF": fields with a comma between them; none of these is in need of quotes
unfoldable pub csv_record : List (List ℕ) → List ℕ
csv_record [] = carriage_return ∷ line_feed ∷ []
csv_record (f ∷ []) = f ++ carriage_return ∷ line_feed ∷ []
csv_record (f ∷ g ∷ fs) = f ++ comma ∷ csv_record (g ∷ fs)

-- "header `account,total`"
unfoldable pub header : List ℕ
header = csv_record (bytes "account" ∷ bytes "total" ∷ [])

-- so many cents "in units with two decimals"
unfoldable pub in_units : ℕ → List ℕ
in_units n = decimal (n / 100) ++ point ∷ digits 2 n

-- "as -12.05 for -1205 and 0.07 for 7"
unfoldable pub total_field : ℤ → List ℕ
total_field (pos n) = in_units n
total_field (negsuc n) = minus_sign ∷ in_units (suc n)

-- an account and its total
unfoldable pub csv_row : ℕ → ℤ → List ℕ
csv_row a t = csv_record (decimal a ∷ total_field t ∷ [])

unfoldable pub csv_rows : List (ℕ × ℤ) → List ℕ
csv_rows [] = []
csv_rows (r ∷ rs) = csv_row r.0 r.1 ++ csv_rows rs

unfoldable pub csv_file : List (ℕ × ℤ) → List ℕ
csv_file rs = header ++ csv_rows rs

-- ---- sizes

-- `account,total` with CR LF
abbrev pub header_size : ℕ
header_size = 15

-- `4294967295,-92233720368547758.08` with CR LF is a longest row
abbrev pub longest_row : ℕ
longest_row = 34
