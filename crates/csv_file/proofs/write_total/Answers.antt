-- `write_total`: the units, a point and two digits, each behind the one before.
-- Rests on the laws that it cites and on the contracts of what is called.
use Prim.Native.Nat.{◌+◌, ◌≤◌}
use mathlib.Core.Path.{◌∙◌, ap}
use native.Mathlib.Omega.{arith}
use lib.ListN.{length, length-set}
use Rattle.decimals.specs.declared.Decimal.{Decimal}
use Rattle.decimals.specs.Signs.{decimal_text}
use Rattle.csv_file.proofs.UnitLaws.{text_length, units_written}
use Rattle.csv_file.proofs.write_total.Goals as goal
use Rattle.csv_file.proofs.write_total.Goals.{After-width}

room_for : (c : After-width)
    → c.args.at + (c.width.result + 3) ≤ length c.args.out.now
room_for c =
    let e = ap (λ (d : Decimal). length (decimal_text d)) c.units-whole.ensures in
    omega (arith, c.requires, text_length c.args.d, c.width.ensures.0)

pub spell_decimal-requires : goal.spell_decimal-requires
spell_decimal-requires c = let h = room_for (goal.at.spell_decimal-requires c).After-width in omega (arith, c.width.ensures.0)

pub bounds-out-point : goal.bounds-out-point
bounds-out-point c =
    let h = room_for (goal.at.bounds-out-point c).After-width in
    omega (arith, c.spell_decimal.auto.out)

pub spell-requires : goal.spell-requires
spell-requires c =
    let h = room_for (goal.at.spell-requires c).After-width in
    simp length-set (omega (arith, c.spell_decimal.auto.out))

pub shape_of-out : goal.shape_of-out
shape_of-out c =
    c.spell.auto.out ∙ simp length-set c.spell_decimal.auto.out

pub returns : goal.returns
returns c =
    let u = c.units-whole in
    let h = room_for (goal.at.returns c).After-width in
    let k = text_length c.args.d in
    let e = ap (λ (d : Decimal). length (decimal_text d)) u.ensures in
    let n = c.width.ensures.0 in (
      units_written c.args.out.now c.args.at c.args.d u.result c.width.result u.ensures n (omega arith)
          c.spell_decimal.ensures c.spell.ensures,
      omega arith,
    )
