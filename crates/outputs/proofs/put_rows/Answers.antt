-- `put_rows`: the loop's invariant is that putting the rows left comes to putting all.
use mathlib.Core.Path.{◌∙◌, ap}
use lib.IntN.{ℤ, pos}
use lib.ListN.{get_or}
use mir.Val.{SFits}
use mir.Syntax.{w64}
use mir.Facts.{to_z-of_z}
use borrow.Author.Rules.{rules}
use Rattle.replies.specs.Printed.{printed_row}
use Rattle.outputs.specs.Outputs.{Output, emitted}
use Rattle.outputs.proofs.Outputs.{rows_start, rows_end, rows_next}
use Rattle.outputs.proofs.put_rows.Goals as goal

pub loop-i-init : goal.loop-i-init
loop-i-init c = rows_start _ _ _ _

pub loop-i-preserved : goal.loop-i-preserved
loop-i-preserved c =
    let a = c.args in
    let o : Output = record { bytes = c.loop-i.out; used = c.loop-i.used } in
    let row = printed_row (get_or a.accounts.now c.loop-i.i 0) in
    let fits : SFits w64 (get_or a.totals.now c.loop-i.i (pos 0)) = search rules in
    let e = c.put_row-used.ensures ∙ ap (λ (z : ℤ). emitted o (row z)) (to_z-of_z fits) in
    rows_next a.accounts.now a.totals.now o _ c.loop-i.i a.count c.loop-i-test.true e ∙ c.loop-i.invariant

pub returns : goal.returns
returns c = rows_end _ _ _ _ _ c.loop-i-test.false ∙ c.loop-i.invariant
