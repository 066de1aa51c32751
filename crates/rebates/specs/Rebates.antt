-- The rebates on the totals of a table, for any words: as the listing, with rebates in the place of totals. Rests on
-- the listing's rows, and on the rebate on a total.
use Rattle.std.specs.Prelude.{ℕ, ◌<◌, ◌≡◌, ◌||◌, List, map, ltb, ℤ, pos, length, get_or, Result, Ok, Err}
use Rattle.interface.specs.declared.Refusal.{Refusal}
use Rattle.lists.specs.Parts.{overlay}
use Rattle.machine.specs.Choice.{when◌then◌else◌}
use Rattle.layout.specs.Shape.{strange, shape_of}
use Rattle.sorting.specs.RowLists.{accounts_with}
use Rattle.rows.specs.Rows.{rows, listing_words}
use Rattle.rebate.specs.Rebate.{rebate_on}

-- a list of rebates with those on the totals of the rows, from position k on
abbrev pub rebates_with : List ℕ → ℕ → List (ℕ × ℤ) → List ℕ
rebates_with rebates k r = overlay rebates k (map (λ x. rebate_on x.1) r)

-- the two lists and the answer
pub record Rebated : Type 0 where
  pub accounts : List ℕ
  pub rebates : List ℕ
  pub listed : Result ℕ Refusal

-- the accounts and their rebates at the start of both lists, nothing past them; where a list is too short for them,
-- nothing at all
unfoldable pub rebated : List ℕ → List ℕ → List (ℕ × ℤ) → Rebated
rebated accounts rebates r =
    when ltb (length accounts) (length r) || ltb (length rebates) (length r)
    then record { accounts = accounts; rebates = rebates; listed = Err Refusal.Narrow }
    else record {
      accounts = accounts_with accounts 0 r;
      rebates = rebates_with rebates 0 r;
      listed = Ok (length r);
    }

-- "due on each account's total": checks 8, 10, as the listing
unfoldable pub rebates_words : List ℕ → List ℕ → List ℕ → Rebated
rebates_words l accounts rebates =
    when strange l then record { accounts = accounts; rebates = rebates; listed = Err Refusal.Strange }
    else rebated accounts rebates (rows l (shape_of l))

-- Beside a listing of the same words into a list of totals as long: the same answer and accounts, and each rebate is
-- the one on the total at its place.
pub record BesideListing (l accounts rebates : List ℕ) (totals : List ℤ) : Type 0 where
  pub listed : (rebates_words l accounts rebates).listed ≡ (listing_words l accounts totals).listed
  pub same_accounts : (rebates_words l accounts rebates).accounts ≡ (listing_words l accounts totals).accounts
  pub due :
      (k i : ℕ) → (listing_words l accounts totals).listed ≡ Ok k → i < k
      → get_or (rebates_words l accounts rebates).rebates i 0
      ≡ rebate_on (get_or (listing_words l accounts totals).totals i (pos 0))

-- holds for every list of totals that is as long as that of rebates
abbrev pub AsListed : Type 0
AsListed =
    (l accounts rebates : List ℕ) (totals : List ℤ) → length rebates ≡ length totals
    → BesideListing l accounts rebates totals
