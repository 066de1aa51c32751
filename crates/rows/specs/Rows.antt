-- The listing on the words, for any words: for each entry of the directory at depth M, those accounts of its bucket
-- whose first M bits are the entry; all of them by account, ascending. Rests on the rows of one entry, and on sorting.
use Rattle.std.specs.Prelude.{ℕ, zero, suc, ◌^◌, ◌||◌, List, [], ◌++◌, ltb, length, ℤ, Result, Ok, Err}
use Rattle.interface.specs.declared.Settings.{Settings}
use Rattle.interface.specs.declared.Refusal.{Refusal}
use Rattle.machine.specs.Choice.{when◌then◌else◌}
use Rattle.layout.specs.Shape.{strange, shape_of}
use Rattle.sorting.specs.Sorting.{sorted}
use Rattle.sorting.specs.RowLists.{accounts_with, totals_with}
use Rattle.entries.specs.Entries.{rows_of}

-- the rows of k entries from e on, in the directory's order
unfoldable pub rows_from : List ℕ → Settings → ℕ → ℕ → List (ℕ × ℤ)
rows_from l s e zero = []
rows_from l s e (suc k) = rows_of l s e ++ rows_from l s (suc e) k

unfoldable pub unsorted : List ℕ → Settings → List (ℕ × ℤ)
unsorted l s = rows_from l s 0 (2 ^ s.depth)

-- "it writes accounts ascending with their totals": by number, whatever their places are
unfoldable pub rows : List ℕ → Settings → List (ℕ × ℤ)
rows l s = sorted (unsorted l s)

-- the most rows that words which pass 8 have: 256 buckets of 16
abbrev pub greatest_count : ℕ
greatest_count = 4_096

-- the two lists and the answer
pub record Shown : Type 0 where
  pub accounts : List ℕ
  pub totals : List ℤ
  pub listed : Result ℕ Refusal

-- the rows at the start of both lists, nothing past them; where a list is too short for them, nothing at all
unfoldable pub shown : List ℕ → List ℤ → List (ℕ × ℤ) → Shown
shown accounts totals r =
    when ltb (length accounts) (length r) || ltb (length totals) (length r)
    then record { accounts = accounts; totals = totals; listed = Err Refusal.Narrow }
    else record {
      accounts = accounts_with accounts 0 r;
      totals = totals_with totals 0 r;
      listed = Ok (length r);
    }

-- "The listing checks 8, 10."
unfoldable pub listing_words : List ℕ → List ℕ → List ℤ → Shown
listing_words l accounts totals =
    when strange l then record { accounts = accounts; totals = totals; listed = Err Refusal.Strange }
    else shown accounts totals (rows l (shape_of l))
