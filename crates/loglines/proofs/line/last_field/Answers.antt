-- `last_field`: one field, and its word behind the others.
-- Rests on the laws that it cites and on the contracts of what is called.
use mathlib.Core.Path.{◌≡◌, sym, ◌∙◌, ap}
use Rattle.std.specs.Prelude.{Some}
use native.Mathlib.Omega.{arith}
use lib.ListN.{length, set, length-set}
use lib.Seq.{take_all, take-suc-set}
use Rattle.loglines.proofs.LineLaws.{too_many, last_read, last_unread}
use Rattle.loglines.proofs.line.last_field.Goals as goal

pub returns-then-first_field-rest : goal.returns-then-first_field-rest
returns-then-first_field-rest c = too_many _ _ (rw c.first_field.ensures at c.if-first_field-rest.true)

pub returns-in_err-words : goal.returns-in_err-words
returns-in_err-words c =
    c.from_residual.ensures
    ∙ last_unread _ _ (rw c.first_field.ensures at c.if-first_field-rest.false) (sym c.in_err-words.ensures)

pub returns : goal.returns
returns c =
    let ws = c.args.words in
    let v = c.in_ok-words.field-0 in
    let n : length ws ≡ 8 = omega arith in
    let e = length-set ws 7 v in
    ap Some (sym (take_all 8 (set ws 7 v) (omega arith)) ∙ take-suc-set ws 7 v (omega arith))
    ∙ last_read _ _ v (rw c.first_field.ensures at c.if-first_field-rest.false) (sym c.in_ok-words.ensures)
