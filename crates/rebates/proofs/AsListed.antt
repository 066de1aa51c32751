-- The rebates beside a listing of the same words: the same choice on both sides, and each rebate is on its total.
-- Rests on the definitions of both, and on the laws of overlays.
use Prim.Native.Nat.{ℕ, ◌<◌}
use native.Mathlib.Omega.{arith}
use mathlib.Core.Path.{◌≡◌, refl, sym, ◌∙◌, ap}
use mathlib.Core.Bool.{◌||◌}
use mathlib.Core.List.{List, map}
use lib.Dec.{ltb}
use lib.IntN.{ℤ, pos}
use lib.ListN.{length, length-map, get_or, get_or-append, get_or-map}
use Rattle.machine.proofs.laws.Base.{if_elim₂}
use Rattle.lists.specs.Parts.{overlay}
use Rattle.lists.proofs.PartLaws.{overlay_first}
use Rattle.layout.specs.Shape.{strange, shape_of}
use Rattle.sorting.specs.RowLists.{totals_with}
use Rattle.rows.specs.Rows.{rows, Shown, shown, listing_words}
use Rattle.rebate.specs.Rebate.{rebate_on, rounded, due_by, inside}
use Rattle.rebates.specs.Rebates.{rebates_with, Rebated, rebated, rebates_words, AsListed}
use Rattle.std.specs.Prelude.{Ok}

-- rebates, and a listing
abbrev Beside : Rebated → Shown → Type 0
Beside x y =
    (x.listed ≡ y.listed) × ((x.accounts ≡ y.accounts)
    × ((k i : ℕ) → y.listed ≡ Ok k → i < k → get_or x.rebates i 0 ≡ rebate_on (get_or y.totals i (pos 0))))

-- what was written of a row stands at its place
written_at :
    {A : Type 0} (f : ℕ × ℤ → A) (d : A) (l : List A) (r : List (ℕ × ℤ)) (i : ℕ) → i < length r → f (0, pos 0) ≡ d
    → get_or (overlay l 0 (map f r)) i d ≡ f (get_or r i (0, pos 0))
written_at f d l r i h e =
    rw (← e, overlay_first l (map f r), get_or-append (map f r) _ (f (0, pos 0)) i (rw length-map h)) (get_or-map f r i (0, pos 0))

-- a rebate stands where its total does; that on 0 is 0
due-at :
    (rebates : List ℕ) (totals : List ℤ) (r : List (ℕ × ℤ)) (i : ℕ) → i < length r
    → get_or (rebates_with rebates 0 r) i 0 ≡ rebate_on (get_or (totals_with totals 0 r) i (pos 0))
unfolding rebate_on rounded due_by inside
due-at rebates totals r i h =
    written_at (λ x. rebate_on x.1) 0 rebates r i h refl ∙ ap rebate_on (sym (written_at (λ x. x.1) (pos 0) totals r i h refl))

rebated_beside :
    (accounts rebates : List ℕ) (totals : List ℤ) (r : List (ℕ × ℤ)) → length rebates ≡ length totals
    → Beside (rebated accounts rebates r) (shown accounts totals r)
unfolding rebated shown
rebated_beside accounts rebates totals r e =
    rw e (if_elim₂ Beside (ltb (length accounts) (length r) || ltb (length totals) (length r)) _ _ _ _
    (λ t. (refl, (refl, λ k i f g. let z : ◌≡◌ {A = ℕ} 0 1 = cc in absurd (omega arith))))
    (λ t. (refl, (refl, λ k i f g. let c : length r ≡ k = cc in due-at rebates totals r i (omega arith)))))

pub as_listed : AsListed
unfolding rebates_words listing_words
as_listed l accounts rebates totals e =
    let h : Beside (rebates_words l accounts rebates) (listing_words l accounts totals) =
    if_elim₂ Beside (strange l) _ _ _ _
    (λ t. (refl, (refl, λ k i f g. let z : ◌≡◌ {A = ℕ} 0 1 = cc in absurd (omega arith))))
    (λ t. rebated_beside accounts rebates totals (rows l (shape_of l)) e) in
    record { listed = h.0; same_accounts = h.1.0; due = h.1.1 }
