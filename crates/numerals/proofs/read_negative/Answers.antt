-- `read_negative`: the size is read up to that of the least total, and is not 0.
-- Rests on the laws that it cites and on the contracts of what is called.
use mathlib.Core.Path.{◌≡◌, sym, ◌∙◌, ap}
use Prim.Native.Nat.{suc, ◌-◌, ◌^◌}
use Rattle.std.specs.Prelude.{Some}
use native.Mathlib.Omega.{arith}
use native.Mathlib.Nat.{pos_of_ne-zero}
use mir.Syntax.{w64}
use mir.Val.{SFits, to_z}
use mir.Facts.{to_z-neg, to_z-of_z}
use borrow.Author.Rules.{rules}
use Rattle.numerals.specs.Numerals.{minus, least_total_size}
use Rattle.numerals.proofs.NumeralLaws.{limited, minus_limit, minus_some}
use Rattle.numerals.proofs.read_negative.Goals as goal

pub returns-in_err-size : goal.returns-in_err-size
unfolding minus
returns-in_err-size c = rw (minus_limit, ← c.in_err-size.ensures) c.from_residual.ensures

pub returns-then-size-eq0 : goal.returns-then-size-eq0
unfolding minus
returns-then-size-eq0 c = rw (minus_limit, ← c.in_ok-size.ensures, c.if-size-eq0.true)

pub returns : goal.returns
returns c =
    let n = c.in_ok-size.size in
    let fits : SFits w64 c.cast_signed.result = search rules in
    let few = limited least_total_size _ _ (sym c.in_ok-size.ensures) in
    let e : c.wrapping_neg.result ≡ 2 ^ 64 - suc (n - 1) = omega arith in
    rw (minus_limit, ← c.in_ok-size.ensures, minus_some n (pos_of_ne-zero c.if-size-eq0.false), to_z-of_z fits)
    (ap Some (c.cast_signed.ensures ∙ ap (to_z w64) e ∙ to_z-neg w64 (n - 1) (omega arith)))
