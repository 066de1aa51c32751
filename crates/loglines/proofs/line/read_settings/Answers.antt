-- `read_settings`: two fields, and no third.
-- Rests on the laws that it cites and on the contracts of what is called.
use Prim.Native.Nat.{◌+◌}
use mathlib.Core.Path.{sym, ◌∙◌}
use native.Mathlib.Omega.{arith}
use lib.Seq.{length-take-le}
use Rattle.numerals.proofs.Parts.{part_from}
use Rattle.commands.specs.Commands.{small_of}
use Rattle.loglines.proofs.LineLaws.{one_setting, more_settings, two_settings}
use Rattle.loglines.proofs.line.read_settings.Goals as goal

pub returns-then-line-end : goal.returns-then-line-end
returns-then-line-end c = one_setting _ (rw (sym c.first_field-end.ensures) c.if-line-end.true)

pub returns-then-first_field-second : goal.returns-then-first_field-second
returns-then-first_field-second c =
    let l = c.args.line.now in
    let n = c.first_field-end.result in
    more_settings l n c.first_field-end.ensures c.if-line-end.false
    (rw (part_from l (n + 1)) at (rw c.first_field.ensures at c.if-first_field-second.true))

pub slice_bounds-read_pair-end : goal.slice_bounds-read_pair-end
slice_bounds-read_pair-end c = sym (length-take-le _ _ (omega arith))

pub returns : goal.returns
unfolding small_of
returns c =
    let l = c.args.line.now in
    let n = c.first_field-end.result in
    c.read_pair.ensures ∙ rw (part_from l (n + 1))
    (two_settings l n c.first_field-end.ensures c.if-line-end.false
    (rw (part_from l (n + 1)) at (rw c.first_field.ensures at c.if-first_field-second.false)))
