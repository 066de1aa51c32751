-- What is printed behind the bytes of a buffer that are used. 01, The driver: "`T` prints account and total, ascending,
-- then `end` and the count." Rests on the table's listing and on the replies' texts.
use Rattle.std.specs.Prelude.{ℕ, ◌+◌, List, [], ◌∷◌, ℤ, length, Result, Ok, Err}
use Rattle.interface.specs.Numbers.{number_of}
use Rattle.machine.specs.Choice.{when◌then◌else◌}
use Rattle.sorting.specs.RowLists.{rows_at}
use Rattle.rows.specs.Rows.{Shown, listing_words}
use Rattle.replies.specs.declared.Reply.{Reply}
use Rattle.lists.specs.Parts.{overlay}
use Rattle.printers.specs.Written.{fits}
use Rattle.replies.specs.Printed.{printed_reply, printed_row, printed_end}
use Rattle.interface.specs.declared.Refusal.{Refusal}

-- ---- output

-- a buffer, of which the first bytes are used
pub record Output : Type 0 where
  pub bytes : List ℕ
  pub used : ℕ

abbrev pub output_of : List ℕ → ℕ → Output
output_of bytes used = record { bytes = bytes; used = used }

-- a text behind the used bytes, where it has room
unfoldable pub emitted : Output → List ℕ → Output
emitted o xs =
    when fits o.bytes o.used xs then record { bytes = overlay o.bytes o.used xs; used = o.used + length xs }
    else o

unfoldable pub put_rows : Output → List (ℕ × ℤ) → Output
put_rows o [] = o
put_rows o (e ∷ t) = put_rows (emitted o (printed_row e.0 e.1)) t

-- the listing's rows and its end, or its refusal
unfoldable pub put_listed : Output → List ℕ → List ℤ → Result ℕ Refusal → Output
put_listed o accounts totals (Ok n) = emitted (put_rows o (rows_at accounts totals 0 n)) (printed_end n)
put_listed o accounts totals (Err r) = emitted o (printed_reply (Reply.Refused (number_of r)))

-- ---- listings

-- what the program lends, and its output
pub record DriverState : Type 0 where
  pub words : List ℕ
  pub accounts : List ℕ
  pub totals : List ℤ
  pub output : Output

-- these words and lists, and a buffer with so many bytes used
abbrev pub state_of : List ℕ → List ℕ → List ℤ → List ℕ → ℕ → DriverState
state_of words accounts totals bytes used =
    record { words = words; accounts = accounts; totals = totals; output = output_of bytes used }

-- after the listing answered so
unfoldable pub listed_as : DriverState → Shown → DriverState
listed_as s x = record {
  words = s.words;
  accounts = x.accounts;
  totals = x.totals;
  output = put_listed s.output x.accounts x.totals x.listed;
}

unfoldable pub listed : DriverState → DriverState
listed s = listed_as s (listing_words s.words s.accounts s.totals)
