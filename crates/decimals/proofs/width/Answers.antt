-- `width`: the digits, and one byte for a minus.
-- Rests on the laws that it cites and on the contracts of what is called.
use Prim.Native.Nat.{suc}
use mathlib.Core.Path.{sym, ◌∙◌, ap}
use native.Mathlib.Omega.{arith}
use lib.ListN.{length}
use Rattle.decimals.proofs.DecimalLaws.{length_decimal}
use Rattle.decimals.proofs.Signs.{text_minus, text_plain}
use Rattle.decimals.proofs.width.Goals as goal

pub returns-then-d : goal.returns-then-d
returns-then-d c =
    let d = c.args.d in
    let e = ap length (text_minus d c.if-d.true) ∙ ap suc (length_decimal d.size) in
    let k = c.digit_count-k.ensures in
    (omega (arith, k.0), omega (arith, k.1))

pub returns-else-d : goal.returns-else-d
returns-else-d c =
    let d = c.args.d in
    let e = ap length (text_plain d c.if-d.false) ∙ length_decimal d.size in
    let k = c.digit_count-k.ensures in
    (k.0 ∙ sym e, omega (arith, k.1))
