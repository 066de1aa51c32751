-- The plain table over a log's places: an account stands at the first place whose operation is about it. Two words a
-- place: 0, or 1 and the account's total. Rests on the words of a log.
use Rattle.std.specs.Prelude.{ℕ, zero, suc, ◌+◌, ◌*◌, Bool, List, eqb, leb, ℤ, get_or, set, Option, Some, None}
use Rattle.std.specs.Int.{w64}
use Rattle.std.proofs.Common.{to_z, of_z}
use Rattle.machine.specs.Choice.{when◌then◌else◌}
use Rattle.machine.specs.Sequential.{first_bits}
use Rattle.logs.specs.Log.{word_at, logged_account, count_of}

-- ---- places

unfoldable pub account_logged : List ℕ → ℕ → ℕ
account_logged l i = word_at l i logged_account

-- the first place of the account, of k from j on, or the one after them
unfoldable pub first_from : List ℕ → ℕ → ℕ → ℕ → ℕ
first_from l a zero j = j
first_from l a (suc k) j = when eqb (account_logged l j) a then j else first_from l a k (suc j)

-- the first place whose operation is about the account of that at i
unfoldable pub first_place : List ℕ → ℕ → ℕ
first_place l i = first_from l (account_logged l i) i 0

-- ---- balances

-- the words of a place
abbrev pub balance_words : ℕ
balance_words = 2

unfoldable pub there_at : List ℕ → ℕ → ℕ
there_at x j = get_or x (j * balance_words) 0

unfoldable pub total_at : List ℕ → ℕ → ℕ
total_at x j = get_or x (j * balance_words + 1) 0

unfoldable pub balance_of : ℕ → ℕ → Option ℤ
balance_of there total = when eqb there 0 then None else Some (to_z w64 total)

-- the total of the account whose first place this is, if it is there
unfoldable pub balance_at : List ℕ → ℕ → Option ℤ
balance_at x j = balance_of (there_at x j) (total_at x j)

unfoldable pub put_words : List ℕ → ℕ → ℕ → ℕ → List ℕ
put_words x j there total = set (set x (j * balance_words) there) (j * balance_words + 1) total

-- the same with another balance
unfoldable pub put_balance : List ℕ → ℕ → Option ℤ → List ℕ
put_balance x j None = put_words x j 0 0
put_balance x j (Some v) = put_words x j 1 (of_z w64 v)

-- ---- crowding

-- how many accounts with these first M bits are there, at the first n places
unfoldable pub agreeing : List ℕ → ℕ → ℕ → List ℕ → ℕ → ℕ
agreeing l M q x zero = 0
agreeing l M q x (suc j) =
    when eqb (there_at x j) 0 then agreeing l M q x j
    else when eqb (first_bits M (account_logged l j)) q then suc (agreeing l M q x j)
    else agreeing l M q x j

-- "where b others agree with it in the first M bits"
unfoldable pub crowds_at : List ℕ → ℕ → ℕ → List ℕ → ℕ → Bool
crowds_at l b M x i = leb b (agreeing l M (first_bits M (account_logged l i)) x (count_of l))
