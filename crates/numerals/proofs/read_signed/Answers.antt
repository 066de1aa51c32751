-- `read_signed`: by the first byte.
-- Rests on the laws that it cites and on the contracts of what is called.
use Prim.Native.Nat.{ℕ}
use mathlib.Core.List.{List}
use mathlib.Core.Path.{sym, ◌∙◌, ap}
use native.Mathlib.Omega.{arith}
use Rattle.numerals.specs.Numerals.{numeral, minus, in64}
use Rattle.numerals.proofs.Parts.{part_from}
use Rattle.numerals.proofs.NumeralLaws.{signed_empty, signed_minus, signed_plus}
use Rattle.numerals.proofs.read_signed.Goals as goal

pub returns-in-empty : goal.returns-in-empty
unfolding in64
returns-in-empty c = sym (ap in64 (signed_empty c.args.field.now (omega arith)))

pub returns-in-45 : goal.returns-in-45
returns-in-45 c =
    let f = c.args.field.now in
    c.read_negative.ensures
    ∙ ap (λ (l : List ℕ). in64 (minus (numeral l))) (part_from f 1)
    ∙ ap in64 (sym (signed_minus f (omega arith) (omega arith)))

pub returns-in-len1-up : goal.returns-in-len1-up
returns-in-len1-up c = c.read_positive.ensures ∙ ap in64 (sym (signed_plus c.args.field.now (omega arith) (omega arith)))
