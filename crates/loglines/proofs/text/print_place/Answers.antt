-- `print_place`: a space, and the digits behind it.
-- Rests on the laws that it cites and on the contracts of what is called.
use mathlib.Core.Path.{◌∙◌, ap}
use Prim.Native.Nat.{ℕ, ◌+◌}
use native.Mathlib.Omega.{arith}
use lib.ListN.{length-set, set}
use Rattle.lists.specs.Parts.{overlay}
use Rattle.decimals.specs.Ascii.{space}
use Rattle.decimals.specs.Decimals.{digits, decimal}
use Rattle.decimals.proofs.DecimalLaws.{length_decimal}
use Rattle.decimals.proofs.Overlays.{byte_then}
use Rattle.loglines.specs.Texts.{place_text}
use Rattle.loglines.proofs.text.print_place.Goals as goal

pub spell-requires : goal.spell-requires
spell-requires c = simp length-set (omega (arith, c.digit_count-k.ensures.1))

pub shape_of-out : goal.shape_of-out
shape_of-out c =
    c.spell.auto.out ∙ simp length-set

pub returns : goal.returns
unfolding place_text decimal
returns c =
    let l = c.args.out.now in
    let at = c.args.at in
    let n = c.args.place in
    let k = c.digit_count-k.ensures in
    let size = length_decimal n in (
      c.spell.ensures
          ∙ ap (λ (j : ℕ). overlay (set l at space) (at + 1) (digits j n)) k.0
          ∙ byte_then l at space (decimal n) (omega arith),
      (omega arith, omega arith),
    )
