-- Rows with their rebates: one row more written, and what the listing says of the rebates.
-- Rests on the laws of the listing's rows and of overlays.
use Prim.Native.Nat.{ℕ, ◌+◌, ◌≤◌, ◌<◌}
use mathlib.Core.Path.{◌≡◌, sym, ◌∙◌}
use mathlib.Core.Logic.{◌⊎◌, ⊎_elim}
use mathlib.Core.Bool.{or-true}
use mathlib.Core.List.{List, [], ◌∷◌, map}
use lib.IntN.{ℤ}
use lib.ListN.{length, set}
use borrow.Author.Tests.{lt-ltb, le-ltb}
use Rattle.interface.specs.declared.Refusal.{Refusal}
use Rattle.machine.specs.Choice.{when◌then◌else◌}
use Rattle.machine.proofs.laws.Base.{if_true, if_false}
use Rattle.lists.specs.Parts.{overlay}
use Rattle.lists.proofs.PartLaws.{set_overlay}
use Rattle.layout.specs.Shape.{shape_of}
use Rattle.sorting.specs.RowLists.{accounts_with, row_at, rows_at}
use Rattle.sorting.proofs.FirstRows.{rows_more, rows_count}
use Rattle.rows.specs.Rows.{rows}
use Rattle.rows.proofs.RowLaws.{written_behind}
use Rattle.rows.proofs.AllRows.{AllRows, OnlyStrange}
use Rattle.rebates.specs.Rebates.{rebates_with, rebated, rebates_words}
use Rattle.std.specs.Prelude.{Ok, Err}

-- ---- the first rows of two lists

module _ (accounts : List ℕ) (totals : List ℤ) where
  -- something of each of the first i rows is written, and then of one row more
  pub row_behind :
      {B : Type 0} (f : ℕ × ℤ → B) (a w : List B) (i : ℕ) → w ≡ overlay a 0 (map f (rows_at accounts totals 0 i)) → i < length w
      → set w i (f (row_at accounts totals i)) ≡ overlay a 0 (map f (rows_at accounts totals 0 (i + 1)))
  row_behind f a w i e h =
      written_behind f a w _ i (rows_at accounts totals 0 i) (row_at accounts totals i ∷ []) _ e (sym (rows_count accounts totals 0 i))
      (set_overlay w i (f (row_at accounts totals i)) h) (rows_more accounts totals i)

-- ---- the rebates, by the listing

-- a listing that refuses strange words alone
pub rebates_refused : {l : List ℕ} {why : Refusal} → OnlyStrange l why
    → (a b : List ℕ) → record { accounts = a; rebates = b; listed = Err why } ≡ rebates_words l a b
unfolding rebates_words
rebates_refused o a b = rw o.reason (sym (if_true _ _ o.fails))

module _ {l : List ℕ} {n : ℕ} {accounts : List ℕ} {totals : List ℤ} (all : AllRows l n accounts totals) (a b : List ℕ) where
  rebates_of_rows : rebated a b (rows l (shape_of l)) ≡ rebates_words l a b
  unfolding rebates_words
  rebates_of_rows = sym (if_false _ _ all.passed)

  pub rebates_narrow :
      (length a < n) ⊎ (length b < n) → record { accounts = a; rebates = b; listed = Err Refusal.Narrow } ≡ rebates_words l a b
  unfolding rebated when◌then◌else◌
  rebates_narrow h =
      ⊎_elim (λ m. rw (lt-ltb _ _ (rw all.count at m))) (λ m. rw (lt-ltb _ _ (rw all.count at m), or-true)) h ∙ rebates_of_rows

  pub rebates_all :
      (a' b' : List ℕ) → n ≤ length a → n ≤ length b → a' ≡ accounts_with a 0 (rows_at accounts totals 0 n)
      → b' ≡ rebates_with b 0 (rows_at accounts totals 0 n)
      → record { accounts = a'; rebates = b'; listed = Ok n } ≡ rebates_words l a b
  unfolding rebated when◌then◌else◌
  rebates_all a' b' h k e f =
      rw (e, f, all.read, all.count) ((rw (
        le-ltb (length a) (length (rows l (shape_of l))) (rw all.count at h),
        le-ltb (length b) (length (rows l (shape_of l))) (rw all.count at k),
      )) ∙ rebates_of_rows)
