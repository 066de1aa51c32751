-- `spell_pair`: a number, a space, a number and a line feed, each behind the one before.
-- Rests on the laws that it cites and on the contracts of what is called.
use Prim.Native.Nat.{◌+◌, ◌≤◌}
use mathlib.Core.Path.{◌∙◌}
use native.Mathlib.Omega.{arith}
use lib.ListN.{length, length-set}
use Rattle.decimals.specs.Signs.{decimal_text}
use Rattle.printers.specs.Written.{pair_text}
use Rattle.printers.proofs.Written.{part_space_part_feed, pair_length}
use Rattle.printers.proofs.spell_pair.Goals as goal
use Rattle.printers.proofs.spell_pair.Goals.{After-width}

room_for : (c : After-width)
    → c.args.at + (c.width.result + 1 + length (decimal_text c.args.b) + 1)
    ≤ length c.args.out.now
room_for c = omega (arith, c.requires, pair_length c.args.a c.args.b, c.width.ensures.0)

pub spell_decimal-requires : goal.spell_decimal-requires
spell_decimal-requires c = let h = room_for (goal.at.spell_decimal-requires c).After-width in omega (arith, c.width.ensures.0)

pub bounds-out-space : goal.bounds-out-space
bounds-out-space c = let h = room_for (goal.at.bounds-out-space c).After-width in omega (arith, c.spell_decimal.auto.out)

pub spell_decimal-requires-2 : goal.spell_decimal-requires-2
spell_decimal-requires-2 c =
    let h = room_for (goal.at.spell_decimal-requires-2 c).After-width in
    simp length-set (omega (arith, c.spell_decimal.auto.out))

pub bounds-out-feed : goal.bounds-out-feed
bounds-out-feed c =
    let h = room_for (goal.at.bounds-out-feed c).After-width in
    let k = simp length-set at c.spell_decimal-2.auto.out in
    omega (arith, c.width-2.ensures.0, k, c.spell_decimal.auto.out)

pub shape_of-out : goal.shape_of-out
shape_of-out c =
    simp length-set (c.spell_decimal-2.auto.out ∙ simp length-set c.spell_decimal.auto.out)

pub returns : goal.returns
unfolding pair_text
returns c =
    let h = room_for (goal.at.returns c).After-width in
    let k = c.width-2.ensures.0 in
    part_space_part_feed c.args.out.now c.args.at (decimal_text c.args.a) (decimal_text c.args.b) c.width.result
    c.width-2.result (omega arith) c.width.ensures.0 k c.spell_decimal.ensures c.spell_decimal-2.ensures
