-- `spell_decimal`: the digits, behind a minus or not.
-- Rests on the laws that it cites and on the contracts of what is called.
use Prim.Native.Nat.{ℕ, suc}
use mathlib.Core.Path.{◌≡◌, sym, ◌∙◌, ap}
use mathlib.Core.List.{List, ◌∷◌}
use native.Mathlib.Omega.{arith}
use lib.ListN.{length, length-set}
use Rattle.decimals.specs.Ascii.{minus_sign}
use Rattle.decimals.specs.Decimals.{digits, decimal}
use Rattle.lists.specs.Parts.{overlay}
use Rattle.decimals.specs.Signs.{decimal_text}
use Rattle.decimals.proofs.DecimalLaws.{length_digits}
use Rattle.decimals.proofs.Signs.{text_minus, text_plain}
use Rattle.decimals.proofs.Overlays.{byte_then}
use Rattle.decimals.proofs.spell_decimal.Goals as goal
use Rattle.decimals.proofs.spell_decimal.Goals.{After-digit_count-k, Else-d, Then-d}

text_of : (c : After-digit_count-k)
    → digits c.digit_count-k.result c.args.d.size ≡ decimal c.args.d.size
unfolding decimal
text_of c = ap (λ (k : ℕ). digits k c.args.d.size) c.digit_count-k.ensures.0

below_size : (c : Then-d) → length (decimal_text c.args.d) ≡ suc c.digit_count-k.result
below_size c =
    ap length (text_minus c.args.d c.if-d.true)
    ∙ ap (λ (l : List ℕ). suc (length l)) (sym (text_of (goal.at.Then-d c).After-digit_count-k)) ∙ ap suc (length_digits _ _)

above_size : (c : Else-d) → length (decimal_text c.args.d) ≡ c.digit_count-k.result
above_size c =
    ap length (text_plain c.args.d c.if-d.false) ∙ ap length (sym (text_of (goal.at.Else-d c).After-digit_count-k)) ∙ length_digits _ _

pub bounds-out-at : goal.bounds-out-at
bounds-out-at c = let e = below_size c in omega (arith, c.requires)

pub overflow_add-at : goal.overflow_add-at
overflow_add-at c = let e = below_size (goal.at.overflow_add-at c).Then-d in omega (arith, c.requires)

pub spell-requires : goal.spell-requires
spell-requires c = let e = below_size (goal.at.spell-requires c).Then-d in simp length-set (omega (arith, c.requires))

pub spell-requires-else-d : goal.spell-requires-else-d
spell-requires-else-d c = let e = above_size (goal.at.spell-requires-else-d c).Else-d in omega (arith, c.requires)

pub shape_of-out-then-d : goal.shape_of-out-then-d
shape_of-out-then-d c = c.spell.auto.out ∙ simp length-set

pub returns-then-d : goal.returns-then-d
returns-then-d c =
    let l = c.args.out.now in
    let at = c.args.at in
    let e = below_size (goal.at.returns-then-d c).Then-d in
    c.spell.ensures
    ∙ byte_then l at minus_sign (digits c.digit_count-k.result c.args.d.size) (omega (arith, c.requires))
    ∙ ap (λ (t : List ℕ). overlay l at (minus_sign ∷ t)) (text_of (goal.at.returns-then-d c).After-digit_count-k)
    ∙ ap (overlay l at) (sym (text_minus c.args.d c.if-d.true))

pub returns-else-d : goal.returns-else-d
returns-else-d c =
    let l = c.args.out.now in
    let at = c.args.at in
    c.spell-else-d.ensures
    ∙ ap (overlay l at) (text_of (goal.at.returns-else-d c).After-digit_count-k)
    ∙ ap (overlay l at) (sym (text_plain c.args.d c.if-d.false))
