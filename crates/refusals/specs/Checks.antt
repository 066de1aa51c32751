-- Document 01's checks, for any words: each under its number, those of each call in their order, and what it is for a
-- call to be turned down by them. Rests on the header, on a worker's words and on the listing's rows.
use Rattle.std.specs.Prelude.{ℕ, ◌+◌, ◌≡◌, Bool, not, ◌||◌, ◌&&◌, List, [], ◌∷◌, ltb, leb, eqb, length, ℤ, Option, Some, None}
use Rattle.interface.specs.Limits.{in_range, greatest_ticket}
use Rattle.interface.specs.Numbers.{kind_none, kind_insert, kind_delete, kind_lookup, kind_post}
use Rattle.interface.specs.declared.Refusal.{Refusal}
use Rattle.machine.specs.Choice.{when◌then◌else◌}
use Rattle.machine.specs.Calls.{settings}
use Rattle.fields.specs.Fields.{worker_kind, worker_ticket}
use Rattle.fields.specs.Regions.{worker_at, words_needed}
use Rattle.layout.specs.Shape.{word, strange, shape_of}
use Rattle.rows.specs.Rows.{rows}

-- ---- "Numbers under which a call is turned down"

-- a test, and the refusal where it comes out true
abbrev pub Check : Type 0
Check = Bool × Refusal

-- "settings: n, b or M is outside its range"
abbrev pub check1 : ℕ → ℕ → ℕ → Check
check1 n b M = (not (in_range n b M), Refusal.Settings)

-- "short: fewer words lent than needed"
abbrev pub check2 : List ℕ → ℕ → ℕ → ℕ → Check
check2 l n b M = (ltb (length l) (words_needed (settings n b M)), Refusal.Short)

-- "stranger: worker number is n or more (workers count from 0)"
abbrev pub check3 : List ℕ → ℕ → Check
check3 l w = (leb (shape_of l).workers w, Refusal.Stranger)

-- a word of worker w's own record
abbrev pub own_word : List ℕ → ℕ → ℕ → ℕ
own_word l w i = word l (worker_at (shape_of l).workers w + i)

-- "busy: a call to a worker whose operation has no answer yet"
abbrev pub check4 : List ℕ → ℕ → Check
check4 l w = (not (eqb (own_word l w worker_kind) kind_none), Refusal.Busy)

-- "idle: a step for a worker without operation"
abbrev pub check5 : List ℕ → ℕ → Check
check5 l w = (eqb (own_word l w worker_kind) kind_none, Refusal.Idle)

-- "insert or delete"; a post "takes a ticket number as an insert does" (02, No. 1)
abbrev pub is_update_kind : ℕ → Bool
is_update_kind kind = eqb kind kind_insert || eqb kind kind_delete || eqb kind kind_post

-- "kind: not 1 insert, 2 delete, 3 lookup"; "kind 4, post" (02, No. 1)
abbrev pub check6 : ℕ → Check
check6 kind = (not (is_update_kind kind || eqb kind kind_lookup), Refusal.Kind)

-- spent: an insert or a delete "when a worker's numbers up to 18,446,744,073,709,551,615 don't suffice" (02, No. 6),
-- and a post: "7 counts it"
abbrev pub check7 : List ℕ → ℕ → ℕ → Check
check7 l w kind = (is_update_kind kind && leb greatest_ticket (own_word l w worker_ticket), Refusal.Spent)

-- "strange: memory fails the checks listed in docs/", one of which is that no greatest depth is above 8
abbrev pub check8 : List ℕ → Check
check8 l = (strange l, Refusal.Strange)

-- "narrow: listing: accounts or totals list shorter than the count"
abbrev pub check10 : List ℕ → List ℕ → List ℤ → Check
check10 l accounts totals =
    let count : ℕ = length (rows l (shape_of l)) in
    (ltb (length accounts) count || ltb (length totals) count, Refusal.Narrow)

-- ---- the checks of a call, in their order

-- the words needed "are told by a public call, which answers 1 for wrong settings"
unfoldable pub needed_checks : ℕ → ℕ → ℕ → List Check
needed_checks n b M = check1 n b M ∷ []

-- "Opening checks 1, 2"
unfoldable pub opening_checks : List ℕ → ℕ → ℕ → ℕ → List Check
opening_checks l n b M = check1 n b M ∷ check2 l n b M ∷ []

-- "A call checks 8, 3, 4, 6, 7."
unfoldable pub call_checks : List ℕ → ℕ → ℕ → List Check
call_checks l w kind = check8 l ∷ check3 l w ∷ check4 l w ∷ check6 kind ∷ check7 l w kind ∷ []

-- "A step checks 8, 3, 5.", and so do up to so many steps
unfoldable pub step_checks : List ℕ → ℕ → List Check
step_checks l w = check8 l ∷ check3 l w ∷ check5 l w ∷ []

-- "The listing checks 8, 10"
unfoldable pub listing_checks : List ℕ → List ℕ → List ℤ → List Check
listing_checks l accounts totals = check8 l ∷ check10 l accounts totals ∷ []

-- the refusal of the first check whose test comes out true
unfoldable pub refusal_by : List Check → Option Refusal
refusal_by [] = None
refusal_by (c ∷ cs) = when c.0 then Some c.1 else refusal_by cs

-- ---- turned down by them

-- A call that was lent `lent` left `x.0` of it and answered `x.1`. `refused r` is the answer for refusal r; `Refuses`
-- holds of the answers that a caller takes for a refusal.
pub record TurnedDown {L A : Type 0} (refused : Refusal → A) (Refuses : A → Type 0) (checks : List Check) (lent : L)
    (x : L × A) : Type 0 where
  -- "Every bad call is refused under its number"
  pub bad : (r : Refusal) → refusal_by checks ≡ Some r → x.1 ≡ refused r
  -- and no other is refused
  pub other : refusal_by checks ≡ None → Refuses x.1 → ⊥
  -- "All but 9 change no memory and no list."
  pub kept : Refuses x.1 → x.0 ≡ lent
