-- `read_number`: no byte, a zero, or digits that do not start with one.
-- Rests on the laws that it cites and on the contracts of what is called.
use Prim.Native.Nat.{ℕ}
use mathlib.Core.Bool.{Bool}
use mathlib.Core.List.{List}
use mathlib.Core.Path.{sym, ◌∙◌, ap}
use Rattle.std.specs.Prelude.{◌==◌}
use Rattle.std.specs.Bool.{then_some}
use lib.ListN.{length}
use native.Mathlib.Omega.{arith}
use Rattle.numerals.specs.Numerals.{up_to}
use Rattle.numerals.proofs.Parts.{part_from}
use Rattle.numerals.proofs.NumeralLaws.{no_bytes, zero_first, no_leading_zero}
use Rattle.numerals.proofs.read_number.Goals as goal

pub returns-in-empty : goal.returns-in-empty
unfolding up_to
returns-in-empty c = sym (ap (up_to c.args.most) (no_bytes c.args.field.now (omega arith)))

pub returns-in-48 : goal.returns-in-48
returns-in-48 c =
    let f = c.args.field.now in
    c.then_some.ensures
    ∙ ap (λ (t : Bool). then_some t 0) (c.is_empty.ensures ∙ ap (λ (l : List ℕ). length l == 0) (part_from f 1))
    ∙ sym (zero_first c.args.most f (omega arith) (omega arith))

pub returns-in-len1-up : goal.returns-in-len1-up
returns-in-len1-up c = c.read_digits.ensures ∙ ap (up_to c.args.most) (sym (no_leading_zero c.args.field.now (omega arith) (omega arith)))
