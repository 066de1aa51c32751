-- Each row of any words has an account of 32 bits and a total of 64. Rests on the rows' definitions.
use Prim.Native.Nat.{ℕ, zero, suc, ◌+◌, ◌^◌, ◌<◌}
use native.Mathlib.Nat.{mod-lt}
use native.Mathlib.Omega.{arith}
use mathlib.Core.Path.{◌≡◌, refl}
use mathlib.Core.Bool.{Bool, true, false}
use mathlib.Core.List.{List, [], ◌∷◌}
use lib.Dec.{ltb}
use lib.IntN.{ℤ}
use lib.Signed.{mag}
use mir.Syntax.{w64}
use mir.Val.{to_z}
use borrow.Author.Tests.{ltb-true, ltb-false}
use Rattle.interface.specs.declared.Settings.{Settings}
use Rattle.fields.specs.Fields.{totals_from}
use Rattle.machine.proofs.laws.Base.{if_elim}
use Rattle.layout.specs.Shape.{word}
use Rattle.lists.specs.Every.{Every}
use Rattle.lists.proofs.EveryLaws.{every_append}
use Rattle.sorting.specs.Sorting.{insert_row, sorted}
use Rattle.entries.specs.Entries.{entry_record, row_at, rows_in, rows_of}
use Rattle.rows.specs.Rows.{rows_from, unsorted, rows}

pub record Small (r : ℕ × ℤ) : Type 0 where
  pub account : r.0 < 2 ^ 32
  pub total : mag r.1 < 2 ^ 63

pub small_total : (x : ℕ) → mag (to_z w64 x) < 2 ^ 63
small_total x = by (ltb x (2 ^ 63)) refl
  where
    by : (t : Bool) → ltb x (2 ^ 63) ≡ t → mag (to_z w64 x) < 2 ^ 63
    by true e = let h = ltb-true x (2 ^ 63) e in rw e h
    by false e = let h = ltb-false x (2 ^ 63) e in rw e (omega arith)

module _ (l : List ℕ) (s : Settings) where
  small_row : (q i : ℕ) → Small (row_at l s q i)
  unfolding row_at
  small_row q i = record { account = mod-lt _ (omega arith); total = small_total (word l (totals_from q s.capacity + i)) }

  small_in : (e q i c : ℕ) → Every Small (rows_in l s e q i c)
  unfolding rows_in Every
  small_in e q i zero = tt
  small_in e q i (suc c) =
      let rest = small_in e q (suc i) c in
      if_elim (Every Small) _ _ _ (λ h. (small_row q i, rest)) (λ h. rest)

  small-of : (e : ℕ) → Every Small (rows_of l s e)
  unfolding rows_of
  small-of e = small_in e (entry_record l s e) 0 _

  small_from : (e k : ℕ) → Every Small (rows_from l s e k)
  unfolding rows_from Every
  small_from e zero = tt
  small_from e (suc k) = every_append Small (rows_of l s e) _ (small-of e) (small_from (suc e) k)

module _ (P : ℕ × ℤ → Type 0) where
  every_inserted : (x : ℕ × ℤ) (r : List (ℕ × ℤ)) → P x → Every P r → Every P (insert_row x r)
  unfolding insert_row Every
  every_inserted x [] h t = (h, tt)
  every_inserted x (y ∷ r) h t = if_elim (Every P) _ _ _ (λ e. (h, t)) (λ e. (t.0, every_inserted x r h t.1))

  every_sorted : (r : List (ℕ × ℤ)) → Every P r → Every P (sorted r)
  unfolding sorted Every
  every_sorted [] h = tt
  every_sorted (x ∷ r) h = every_inserted x (sorted r) h.0 (every_sorted r h.1)

pub rows_small : (l : List ℕ) (s : Settings) → Every Small (rows l s)
unfolding rows unsorted
rows_small l s = every_sorted Small _ (small_from l s 0 (2 ^ s.depth))
