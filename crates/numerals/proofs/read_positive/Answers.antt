-- `read_positive`: the size is read up to the greatest total.
-- Rests on the laws that it cites and on the contracts of what is called.
use mathlib.Core.Path.{sym, ◌∙◌, ap}
use Rattle.std.specs.Prelude.{Some}
use native.Mathlib.Omega.{arith}
use mir.Syntax.{w64}
use mir.Val.{SFits}
use mir.Facts.{to_z_pos, to_z-of_z}
use borrow.Author.Rules.{rules}
use Rattle.numerals.specs.Numerals.{plus, greatest_total}
use Rattle.numerals.proofs.NumeralLaws.{limited, plus_limit}
use Rattle.numerals.proofs.read_positive.Goals as goal

pub returns-in_err-size : goal.returns-in_err-size
unfolding plus
returns-in_err-size c = rw (plus_limit, ← c.in_err-size.ensures) c.from_residual.ensures

pub returns : goal.returns
unfolding plus
returns c =
    let fits : SFits w64 c.cast_signed.result = search rules in
    rw (plus_limit, ← c.in_ok-size.ensures, to_z-of_z fits)
    (ap Some (c.cast_signed.ensures ∙ to_z_pos w64 (omega (arith, limited greatest_total _ _ (sym c.in_ok-size.ensures)))))
