-- What a user reads off demand 3: an account's total is its last insert's, with every amount posted since, each once.
-- Rests on the claim of demand 3.
use Rattle.std.specs.Prelude.{ℕ, zero, suc, ◌≤◌, ◌<◌, ◌≡◌, Bool, true, false, List, [], ◌∷◌, map, eqb, length, ℤ, pos, ◌+ℤ◌, Option, Some, None}
use Rattle.interface.specs.declared.Settings.{Settings}
use Rattle.interface.specs.declared.Answer.{Answer}
use Rattle.interface.specs.declared.Answer.TheVariants.{Added, Replaced, Removed, Absent, Found, Posted, Crowded, Overrun}
use Rattle.interface.specs.declared.Answer.TheVariants as Answer
use Rattle.interface.specs.declared.Completion.{Completion}
use Rattle.machine.specs.Choice.{when◌then◌else◌, ◌and◌}
use Rattle.machine.specs.Sequential.{Table, Update, insert, delete, post, account, Operation, update, lookup, find}
use Rattle.machine.specs.Records.{Machine}
use Rattle.machine.specs.Calls.{settings, opens, opening, lists}
use Rattle.machine.specs.Systems.{Entry, System, machines, asked}
use Rattle.machine.specs.History.{Member, Distinct, entry_at, answers_to, table_at, state_at, OpeningsRefused, Ended, Linearizable}
use Rattle.opening.specs.Opening.{open_words}
use Rattle.simulation.specs.LentWords.{lent_words, FromOpening}

-- ---- what an operation did to an account

-- an update is carried out where it is answered added, replaced, removed or posted; any other answer says that the
-- table stayed as it was
unfoldable pub carried_out : Answer → Bool
carried_out Added = true
carried_out Replaced = true
carried_out Removed = true
carried_out Absent = false
carried_out (Found total) = false
carried_out Answer.None = false
carried_out (Posted total) = true
carried_out Crowded = false
carried_out Overrun = false

-- an insert carried out sets the total, a post adds its amount, a delete leaves the account not there
pub data Booking : Type 0 where
  sets : ℤ → Booking
  adds : ℤ → Booking
  closes : Booking
  nothing : Booking

unfoldable pub booking_of : Update → Booking
booking_of (insert a v) = sets v
booking_of (delete a) = closes
booking_of (post a v) = adds v

-- what an operation with this answer did to account a
unfoldable pub booking : ℕ → Option Operation → Answer → Booking
booking a None r = nothing
booking a (Some (lookup c)) r = nothing
booking a (Some (update u)) r = when carried_out r and eqb (account u) a then booking_of u else nothing

-- ---- an account's total by its bookings, the latest first

-- the account is there: its latest booking is an insert or a post
unfoldable pub is_there : List Booking → Bool
is_there [] = false
is_there (sets v ∷ older) = true
is_there (adds v ∷ older) = true
is_there (closes ∷ older) = false
is_there (nothing ∷ older) = is_there older

-- the total of the last insert since the account was last not there, 0 if there is none
unfoldable pub last_inserted : List Booking → ℤ
last_inserted [] = pos 0
last_inserted (sets v ∷ older) = v
last_inserted (adds v ∷ older) = last_inserted older
last_inserted (closes ∷ older) = pos 0
last_inserted (nothing ∷ older) = last_inserted older

-- the amounts posted after that insert; with none, since the account was last not there, the post that made it included
unfoldable pub posted_since : List Booking → ℤ
posted_since [] = pos 0
posted_since (sets v ∷ older) = pos 0
posted_since (adds v ∷ older) = posted_since older +ℤ v
posted_since (closes ∷ older) = pos 0
posted_since (nothing ∷ older) = posted_since older

-- the account's total, if it is there
unfoldable pub balance : List Booking → Option ℤ
balance bs = when is_there bs then Some (last_inserted bs +ℤ posted_since bs) else None

-- ---- the operations that have taken effect

-- the items of a list put in front of another one by one, so that the last stands first
unfoldable pub onto : {A : Type 0} → List A → List A → List A
onto [] ys = ys
onto (x ∷ xs) ys = onto xs (x ∷ ys)

module _ (s : Settings) (es : List Entry) (moments : ℕ → List ℕ) where
  -- before index i, the latest first: each by its call's index, with the plain table's answer
  unfoldable pub served : ℕ → List (ℕ × Answer)
  served zero = []
  served (suc i) = onto (answers_to s es (table_at s es [] moments i) (moments i)) (served i)

  -- what each did to account a
  unfoldable pub bookings : ℕ → ℕ → List Booking
  bookings i a = map (λ x. booking a (asked (entry_at es x.0)) x.1) (served i)

-- ---- the claim

module _ (s : Settings) (x : System) (m : x.State) (es : List Entry) where
  pub record Balanced : Type 0 where
    -- "by the one choice of moments"
    pub linearizable : Linearizable s x m [] es
    -- at any point of the list, its end included, each account that the plain table has comes from its bookings
    pub totals :
        (p a : ℕ)
        → find (table_at s es [] linearizable.moments p) a ≡ balance (bookings s es linearizable.moments p a)
    -- and so do the totals that a listing shows there
    pub listed :
        (p y z : ℕ) (t : Table) → p ≤ length es → x.listing (state_at s x m [] es p) y z ≡ lists t
        → (a : ℕ) → find t a ≡ balance (bookings s es linearizable.moments p a)
    -- no operation counts twice
    pub once : (p : ℕ) → Distinct (map (λ r. r.0) (served s es linearizable.moments p))
    -- an answered one counts, with the answer that its worker got
    pub counted :
        (p c i j : ℕ) (o : Operation) (r : Completion) → Ended s x m [] es c i j o r → i < p
        → Member (c, r.answer) (served s es linearizable.moments p)

-- "for every list"
abbrev pub AlwaysBalanced : Settings → (x : System) → x.State → Type 0
AlwaysBalanced s x m = (es : List Entry) → OpeningsRefused s x m [] es → Balanced s x m es

-- on the machine
abbrev pub Ledger : Type 0
Ledger =
    (n b M lent : ℕ) (s : Settings) (m : Machine) → opening n b M lent ≡ opens s m
    → AlwaysBalanced s (machines s lent) m

-- for the calls on lent words
abbrev pub LedgerOnWords : Type 0
LedgerOnWords =
    (l : List ℕ) (n b M : ℕ) (es : List Entry) → FromOpening l n b M es
    → Balanced (settings n b M) lent_words (open_words l n b M).0 es
