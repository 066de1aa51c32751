-- The lent words with the library's calls, as a system that a list of entries is given to, and the lists that demands 2
-- and 3 speak of. Rests on the definitions that the calls' contracts equal, and on lists of entries.
use Rattle.std.specs.Prelude.{ℕ, ◌^◌, ◌<◌, ◌≡◌, List, [], ◌∷◌, map, length, ℤ, Ok, Err}
use Rattle.std.specs.Int.{w64}
use Rattle.std.proofs.Common.{SFits}
use Rattle.interface.specs.declared.Refusal.{Refusal}
use Rattle.machine.specs.Choice.{when◌then◌else◌}
use Rattle.machine.specs.Calls.{settings, Listing, lists, declines, listing_of}
use Rattle.machine.specs.Systems.{System, Entry, calling, stepping, showing, reopening}
use Rattle.machine.specs.History.{OpeningsRefused}
use Rattle.lists.specs.Parts.{overlay}
use Rattle.layout.specs.Shape.{strange, shape_of}
use Rattle.turns.specs.Turns.{step_words}
use Rattle.calls.specs.Calls.{call_words}
use Rattle.opening.specs.Opening.{open_words}
use Rattle.rows.specs.Rows.{Shown, rows}

-- ---- the system

-- the listing over lists of so many accounts and totals: the table it shows, or its refusal
unfoldable pub listing_on : List ℕ → ℕ → ℕ → Listing
listing_on l accounts totals =
    when strange l then declines Refusal.Strange else listing_of (rows l (shape_of l)) accounts totals

-- the two lists after it, and its answer
abbrev pub shown_as : List ℕ → List ℤ → Listing → Shown
shown_as accounts totals (declines r) = record { accounts = accounts; totals = totals; listed = Err r }
shown_as accounts totals (lists t) =
    record {
      accounts = overlay accounts 0 (map (λ x. x.0) t);
      totals = overlay totals 0 (map (λ x. x.1) t);
      listed =
          Ok (length t);
    }

-- the state is the whole memory that is lent
abbrev pub lent_words : System
lent_words = record { State = List ℕ; opening = open_words; call = call_words; step = step_words; listing = listing_on }

-- ---- the lists

-- an account of 32 bits and a total of 64, as the calls take them
abbrev pub Typed : Entry → Type 0
Typed (calling w kind a v) = (a < 2 ^ 32) × SFits w64 v
Typed (stepping w) = Unit {0}
Typed (showing x y) = Unit {0}
Typed (reopening n b M) = Unit {0}

abbrev pub AllTyped : List Entry → Type 0
AllTyped [] = Unit {0}
AllTyped (e ∷ es) = Typed e × AllTyped es

-- "It starts from the memory that an accepted opening left, for any settings. Each entry is lent the whole memory as
-- the one before left it": the list es after the opening with n, b and M of a memory that held l
pub record FromOpening (l : List ℕ) (n b M : ℕ) (es : List Entry) : Type 0 where
  pub accepted : (open_words l n b M).1 ≡ Ok tt
  pub typed : AllTyped es
  pub refused : OpeningsRefused (settings n b M) lent_words (open_words l n b M).0 [] es
