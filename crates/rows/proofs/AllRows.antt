-- A listing that answers a count has written all rows; one into lists that are long enough for any table's refuses strange words alone.
-- Rests on the definition of the listing, and on how many rows there can be.
use Prim.Native.Nat.{ℕ, ◌≤◌}
use native.Mathlib.Omega.{arith}
use mathlib.Core.Path.{◌≡◌, refl}
use mathlib.Core.Bool.{true, false, ◌||◌}
use mathlib.Core.List.{List}
use lib.Dec.{ltb}
use lib.IntN.{ℤ}
use lib.ListN.{length, replicate, length-replicate}
use borrow.Author.Tests.{le-ltb}
use Rattle.interface.specs.declared.Refusal.{Refusal}
use Rattle.machine.proofs.laws.Base.{if_elim, no_both}
use Rattle.layout.specs.Shape.{strange, shape_of}
use Rattle.sorting.specs.RowLists.{rows_at}
use Rattle.sorting.proofs.Rows.{rows_read}
use Rattle.rows.specs.Rows.{rows, greatest_count, Shown, shown, listing_words}
use Rattle.rows.proofs.RowLaws.{rows_few}
use Rattle.std.specs.Prelude.{Ok, Err}

-- every row of words that pass 8 is among the first n of two lists
pub record AllRows (l : List ℕ) (n : ℕ) (accounts : List ℕ) (totals : List ℤ) : Type 0 where
  pub passed : strange l ≡ false
  pub count : n ≡ length (rows l (shape_of l))
  pub few : n ≤ greatest_count
  pub read : rows_at accounts totals 0 n ≡ rows l (shape_of l)

-- the words are strange, and that is why
pub record OnlyStrange (l : List ℕ) (why : Refusal) : Type 0 where
  pub fails : strange l ≡ true
  pub reason : why ≡ Refusal.Strange

module _ (l accounts : List ℕ) (totals : List ℤ) where
  abbrev r : List (ℕ × ℤ)
  r = rows l (shape_of l)

  module _ (n : ℕ) where
    abbrev Counted : Shown → Type 0
    Counted x = x.listed ≡ Ok n → AllRows l n x.accounts x.totals

    refused_counted : (why : Refusal) → Counted (record { accounts = accounts; totals = totals; listed = Err why })
    refused_counted why e = let z : ◌≡◌ {A = ℕ} 0 1 = cc in absurd (omega arith)

    shown_counted : strange l ≡ false → Counted (shown accounts totals r)
    unfolding shown
    shown_counted passed =
        if_elim Counted (ltb (length accounts) (length r) || ltb (length totals) (length r)) _ _ (λ _. refused_counted Refusal.Narrow)
        (λ _ e.
        let c : n ≡ length r = cc in
        let m = rows_few l passed in
        record { passed = passed; count = c; few = omega arith; read = rw c (rows_read accounts totals r _ _ (refl, refl)) })

    pub rows_counted : (x : Shown) → x ≡ listing_words l accounts totals → Counted x
    unfolding listing_words
    rows_counted x made = rw made (if_elim Counted (strange l) _ _ (λ _. refused_counted Refusal.Strange) shown_counted)

  module _ (why : Refusal) (long : greatest_count ≤ length accounts) (long' : greatest_count ≤ length totals) where
    abbrev Refused : Shown → Type 0
    Refused x = x.listed ≡ Err why → OnlyStrange l why

    shown_refused : strange l ≡ false → Refused (shown accounts totals r)
    unfolding shown
    shown_refused passed =
        let n = rows_few l passed in
        let wide : ltb (length accounts) (length r) || ltb (length totals) (length r) ≡ false =
        rw (le-ltb (length accounts) (length r) (omega arith), le-ltb (length totals) (length r) (omega arith)) in
        if_elim Refused (ltb (length accounts) (length r) || ltb (length totals) (length r)) _ _ (λ t. absurd (no_both t wide))
        (λ _ e. let z : ◌≡◌ {A = ℕ} 0 1 = cc in absurd (omega arith))

    pub rows_refused : (x : Shown) → x ≡ listing_words l accounts totals → Refused x
    unfolding listing_words
    rows_refused x made = rw made (if_elim Refused (strange l) _ _ (λ t e. record { fails = t; reason = cc }) shown_refused)

-- zeros for every table's rows; that it holds for any length spares computing them
pub zeros_long : {A : Type 0} (x : A) → greatest_count ≤ length (replicate greatest_count x)
zeros_long x = omega (arith, length-replicate greatest_count x)
