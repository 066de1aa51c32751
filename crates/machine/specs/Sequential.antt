-- The sequential specification: document 01's plain table, with document 02's posts, rule of crowding and places of
-- accounts. Rests on the enum of answers alone.
use Rattle.std.specs.Prelude.{ℕ, ◌-◌, ◌*◌, ◌/◌, ◌%◌, ◌^◌, ◌<◌, Bool, true, false, ◌&&◌, List, [], ◌∷◌, ltb, leb, eqb, length, ℤ, pos, negsuc, ◌+ℤ◌, Option, Some, None}
use Rattle.std.specs.Int.Signed.{le_z}
use Rattle.interface.specs.declared.Answer.{Answer}
use Rattle.interface.specs.declared.Answer.TheVariants.{Added, Replaced, Removed, Absent, Found, Posted, Crowded, Overrun}
use Rattle.interface.specs.declared.Answer.TheVariants as Answer
use Rattle.machine.specs.Choice.{when◌then◌else◌, ◌and◌}

-- ---- operations

-- "Operations are insert, delete and lookup on accounts." An insert has a total. "Please add kind 4, post" (02, No. 1):
-- a post has an amount. Inserts, deletes and posts are updates.
pub data Update : Type 0 where
  insert : ℕ → ℤ → Update
  delete : ℕ → Update
  post : ℕ → ℤ → Update

pub data Operation : Type 0 where
  update : Update → Operation
  lookup : ℕ → Operation

-- the account that an update is about
abbrev pub account : Update → ℕ
account (insert a v) = a
account (delete a) = a
account (post a v) = a

-- ---- the place of an account and its bits

-- "Place an account by its number times 2,654,435,761 modulo 4,294,967,296" (02, No. 8): the field's multiplicative
-- hash, whose first bits are the account's.
abbrev pub place_factor : ℕ
place_factor = 2_654_435_761

unfoldable pub place : ℕ → ℕ
place a = a * place_factor % 2 ^ 32

-- "The way back from place to number": the product of the two factors is 1 modulo 2 ^ 32.
abbrev pub account_factor : ℕ
account_factor = 244_002_641

unfoldable pub account_at : ℕ → ℕ
account_at p = p * account_factor % 2 ^ 32

-- "the place's first bits choose the bucket": "the account's first d bits, most significant first", of 32
unfoldable pub first_bits : ℕ → ℕ → ℕ
first_bits d a = place a / 2 ^ (32 - d)

-- ---- tables

-- "It holds accounts, each once, each with a total": pairs of account and total, ascending by account.
abbrev pub Table : Type 0
Table = List (ℕ × ℤ)

-- the account's total, if the account is there
unfoldable pub find : Table → ℕ → Option ℤ
find [] a = None
find (e ∷ t) a = when eqb e.0 a then Some e.1 else find t a

-- the table with the account's total set
unfoldable pub put : Table → ℕ → ℤ → Table
put [] a v = (a, v) ∷ []
put (e ∷ t) a v = when ltb a e.0 then (a, v) ∷ e ∷ t else when eqb a e.0 then (a, v) ∷ t else e ∷ put t a v

-- the table without the account
unfoldable pub remove : Table → ℕ → Table
remove [] a = []
remove (e ∷ t) a = when eqb e.0 a then t else e ∷ remove t a

-- the accounts whose first d bits are q
unfoldable pub having : ℕ → ℕ → Table → Table
having d q [] = []
having d q (e ∷ t) = when eqb (first_bits d e.0) q then e ∷ having d q t else having d q t

-- ---- what an update does where there is room for it

-- one answer where the account is there, the other where it is missing
unfoldable pub present : Option ℤ → Answer → Answer → Answer
present (Some v) there missing = there
present None there missing = missing

-- "an account not there starts from 0"
unfoldable pub total_or0 : Option ℤ → ℤ
total_or0 (Some v) = v
total_or0 None = pos 0

-- "the 64-bit signed range"
abbrev pub least_total : ℤ
least_total = negsuc 9_223_372_036_854_775_807

abbrev pub greatest_total : ℤ
greatest_total = pos 9_223_372_036_854_775_807

unfoldable pub is_total : ℤ → Bool
is_total v = le_z least_total v && le_z v greatest_total

-- "the amount is added to the account's total"
unfoldable pub sum : Table → ℕ → ℤ → ℤ
sum t a v = total_or0 (find t a) +ℤ v

-- "Insert answers added, or replaced where the account was there; delete answers removed or absent." A post's "answer
-- is posted with the new total"; overrun is "given exactly for" a "sum outside the 64-bit signed range".
unfoldable pub result : Update → Table → Answer
result (insert a v) t = present (find t a) Replaced Added
result (delete a) t = present (find t a) Removed Absent
result (post a v) t = when is_total (sum t a v) then Posted (sum t a v) else Overrun

-- "sets the account's total"; "takes the account out, or .. changes nothing"; "an account not there .. is made, also by
-- an amount of 0"; a sum outside the range "is turned down and the table stays as before"
unfoldable pub changed : Update → Table → Table
changed (insert a v) t = put t a v
changed (delete a) t = remove t a
changed (post a v) t = when is_total (sum t a v) then put t a (sum t a v) else t

-- ---- what the plain table does with one operation

-- "Lookup answers found with the account's total, or none where the account isn't there."
unfoldable pub looked : Option ℤ → Answer
looked (Some v) = Found v
looked None = Answer.None

abbrev pub is_none : Option ℤ → Bool
is_none (Some v) = false
is_none None = true

-- "a new account" (02, No. 2): an insert or a post whose account is not there
unfoldable pub creates : Update → Table → Bool
creates (insert a v) t = is_none (find t a)
creates (delete a) t = false
creates (post a v) t = is_none (find t a)

-- The answer, and the table afterwards; the test says that there is no room for a new account. Crowded is the field's
-- overflow at the greatest depth. "Crowded is left for a new account": "closing or correcting an account must work
-- however many neighbours it has".
unfoldable pub tried : Bool → Update → Table → Answer × Table
tried no_room u t = when no_room and creates u t then (Crowded, t) else (result u t, changed u t)

-- "where b others agree with it in the first M bits"
unfoldable pub crowds : ℕ → ℕ → ℕ → Table → Bool
crowds b M a t = leb b (length (having M (first_bits M a) t))

-- the answer, and the table afterwards
unfoldable pub serve : ℕ → ℕ → Operation → Table → Answer × Table
serve b M (lookup a) t = (looked (find t a), t)
serve b M (update u) t = tried (crowds b M (account u) t) u t

-- ---- ascending tables

-- every account of the table is above x
abbrev pub AccountsAbove : ℕ → Table → Type 0
AccountsAbove x [] = Unit {0}
AccountsAbove x (e ∷ t) = (x < e.0) × AccountsAbove x t

abbrev pub Ascending : Table → Type 0
Ascending [] = Unit {0}
Ascending (e ∷ t) = AccountsAbove e.0 t × Ascending t
