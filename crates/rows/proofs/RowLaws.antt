-- Laws of the listing's rows: one entry more, how many there can be, and rows written behind rows; both refusals and the listing itself.
-- Rests on the definition of rows, on the checks behind 8, and on the laws of overlays.
use Prim.Native.Nat.{ℕ, zero, suc, ◌+◌, ◌-◌, ◌%◌, ◌*◌, ◌^◌, ◌≤◌, ◌<◌}
use native.Mathlib.Nat.{add-zero, mod-eq_of_lt}
use native.Mathlib.Numerals.{add-one}
use native.Mathlib.Omega.{arith}
use mathlib.Core.Path.{◌≡◌, sym, ◌∙◌, ap}
use mathlib.Core.Logic.{◌⊎◌, ⊎_elim}
use mathlib.Core.Bool.{Bool, true, false, or-true}
use mathlib.Core.List.{List, ◌++◌, map, append-nil, append_assoc, map-append}
use lib.ListN.{length, length-append, length-map}
use lib.IntN.{ℤ}
use lib.Pow.{pow_mono}
use borrow.Author.Tests.{lt-ltb, le-ltb}
use Rattle.interface.specs.declared.Settings.{Settings}
use Rattle.interface.specs.declared.Refusal.{Refusal}
use Rattle.machine.specs.Choice.{when◌then◌else◌}
use Rattle.machine.proofs.laws.Base.{if_true, if_false}
use Rattle.lists.specs.Parts.{overlay}
use Rattle.layout.specs.Shape.{strange, shape_of, Fits}
use Rattle.layout.proofs.Checks.{fits_of, depth-of}
use Rattle.sorting.specs.Sorting.{sorted}
use Rattle.sorting.specs.RowLists.{RowsWritten, rows_at}
use Rattle.sorting.proofs.Insertion.{sorted_length}
use Rattle.sorting.proofs.Rows.{written_sorted}
use Rattle.rows.specs.Rows.{rows_from, unsorted, rows, greatest_count, shown, listing_words}
use Rattle.entries.specs.Entries.{rows_of}
use Rattle.entries.proofs.EntryLaws.{entry_limit, span_limit}
use Rattle.lists.proofs.PartLaws.{overlay_join, length_overlay}
use Rattle.std.specs.Prelude.{Ok, Err}

-- ---- the entries

module _ (l : List ℕ) (s : Settings) where
  entries_last : (e k : ℕ) → rows_from l s e (suc k) ≡ rows_from l s e k ++ rows_of l s (e + k)
  unfolding rows_from
  entries_last e zero = rw (add-zero, append-nil)
  entries_last e (suc k) =
      let n : suc e + k ≡ e + suc k = omega arith in
      ap (λ (r : List (ℕ × ℤ)). rows_of l s e ++ r) (entries_last (suc e) k)
      ∙ sym (append_assoc (rows_of l s e) (rows_from l s (suc e) k) (rows_of l s (suc e + k)))
      ∙ ap (λ (m : ℕ). rows_of l s e ++ rows_from l s (suc e) k ++ rows_of l s m) n

  pub entries_more : (e : ℕ) → rows_from l s 0 (e + 1) ≡ rows_from l s 0 e ++ rows_of l s e
  entries_more e =
      let k : 0 + e ≡ e = omega arith in
      rw add-one (entries_last 0 e ∙ ap (λ (n : ℕ). rows_from l s 0 e ++ rows_of l s n) k)

  entries_grow : (e k : ℕ) → length (rows_from l s 0 e) ≤ length (rows_from l s 0 (e + k))
  entries_grow e zero = rw add-zero (omega arith)
  entries_grow e (suc k) =
      let h = entries_grow e k in
      let n : e + suc k ≡ suc (e + k) = omega arith in
      rw (n, entries_last 0 (e + k), length-append) (omega arith)

  pub counted_entry : (e : ℕ) → length (rows_from l s 0 (e + 1)) ≡ length (rows_from l s 0 e) + length (rows_of l s e)
  counted_entry e = ap length (entries_more e) ∙ length-append (rows_from l s 0 e) (rows_of l s e)

  -- there is room for the rows of one entry more
  pub entry_room : (e n : ℕ) → e < 2 ^ s.depth → length (unsorted l s) ≤ n → length (rows_from l s 0 e) + length (rows_of l s e) ≤ n
  unfolding unsorted
  entry_room e n h m =
      let k : e + 1 + (2 ^ s.depth - (e + 1)) ≡ 2 ^ s.depth = omega arith in
      let x = counted_entry e in
      let y = rw k at (entries_grow (e + 1) (2 ^ s.depth - (e + 1))) in
      omega arith

  entries_limit : Fits l s → (e k : ℕ) → length (rows_from l s e k) ≤ 16 * k
  unfolding rows_from
  entries_limit f e zero = omega arith
  entries_limit f e (suc k) =
      let n = entry_limit l s e f in
      let h = entries_limit f (suc e) k in
      rw length-append (omega arith)

-- words that pass 8 have no more rows than 256 buckets of 16
pub rows_few : (l : List ℕ) → strange l ≡ false → length (rows l (shape_of l)) ≤ greatest_count
unfolding rows unsorted
rows_few l e =
    let n : 2 ^ (shape_of l).depth ≤ 256 = pow_mono (depth-of l e) in
    let h = entries_limit l (shape_of l) (fits_of l e) 0 (2 ^ (shape_of l).depth) in
    omega (arith, sorted_length (unsorted l (shape_of l)))

-- rows written behind rows
pub written_behind :
    {A B : Type 0} (f : A → B) (a w v : List B) (k : ℕ) (xs ys zs : List A) → w ≡ overlay a 0 (map f xs) → k ≡ length xs
    → v ≡ overlay w k (map f ys)
    → zs ≡ xs ++ ys → v ≡ overlay a 0 (map f zs)
written_behind f a w v k xs ys zs e n h g =
    let m : k ≡ 0 + length (map f xs) = simp length-map (omega arith) in
    h ∙ rw (e, m, g, map-append) (overlay_join a 0 (map f xs) (map f ys) (omega arith))

-- there is room for the written rows to be sorted, and sorted they are as if written so
module _ (l : List ℕ) (s : Settings) (k : ℕ) (count : k ≡ length (unsorted l s)) (accounts : List ℕ) (totals : List ℤ) (a : List ℕ)
    (t : List ℤ) (written : RowsWritten accounts totals 0 (unsorted l s) a t) where
  abbrev r : List (ℕ × ℤ)
  r = unsorted l s

  pub sort_room : k ≤ length accounts → k ≤ length totals → (k ≤ length a) × (k ≤ length t)
  sort_room h n = (
    rw (written.0, length_overlay accounts 0 (map (λ x. x.0) r) (simp length-map (omega arith))) h,
    rw (written.1, length_overlay totals 0 (map (λ x. x.1) r) (simp length-map (omega arith))) n,
  )

  pub sorted_written :
      (b : List ℕ) (u : List ℤ) → RowsWritten a t 0 (sorted (rows_at a t 0 k)) b u → RowsWritten accounts totals 0 (sorted r) b u
  sorted_written b u after = written_sorted accounts totals r a t b u written (rw count at after)

-- the entries of the directory at depth d, as the code computes their number
pub span_is : (d : ℕ) → d ≤ 15 → 1 * 2 ^ d % 18_446_744_073_709_551_616 ≡ 2 ^ d
span_is d h =
    let n = span_limit d h in
    let e : 1 * 2 ^ d ≡ 2 ^ d = omega arith in
    rw e (mod-eq_of_lt (omega arith))

-- ---- the listing

module _ (l a : List ℕ) (t : List ℤ) (x : Bool) (tested : x ≡ strange l) where
  pub listing_strange : x ≡ true → record { accounts = a; totals = t; listed = Err Refusal.Strange } ≡ listing_words l a t
  unfolding listing_words
  listing_strange e = sym (if_true _ _ (sym tested ∙ e))

  module _ (g : Settings) (k : ℕ) (passed : x ≡ false) (read : g ≡ shape_of l) (counted : k ≡ length (unsorted l g)) where
    count : k ≡ length (rows l g)
    unfolding rows
    count = counted ∙ sym (sorted_length (unsorted l g))

    listing_shown : shown a t (rows l g) ≡ listing_words l a t
    unfolding listing_words
    listing_shown = rw read (sym (if_false _ _ (sym tested ∙ passed)))

    pub listing_narrow :
        (length a < k) ⊎ (length t < k) → record { accounts = a; totals = t; listed = Err Refusal.Narrow } ≡ listing_words l a t
    unfolding shown when◌then◌else◌
    listing_narrow h =
        ⊎_elim (λ n. rw (lt-ltb _ _ (rw count at n))) (λ n. rw (lt-ltb _ _ (rw count at n), or-true)) h ∙ listing_shown

    pub listing_all :
        (b : List ℕ) (u : List ℤ) → k ≤ length a → k ≤ length t → RowsWritten a t 0 (sorted (unsorted l g)) b u
        → record { accounts = b; totals = u; listed = Ok k } ≡ listing_words l a t
    unfolding rows shown when◌then◌else◌
    listing_all b u n m w =
        rw (w.0, w.1, count) ((rw (
          le-ltb (length a) (length (rows l g)) (rw count at n),
          le-ltb (length t) (length (rows l g))
              (rw count at m),
        )) ∙ listing_shown)
