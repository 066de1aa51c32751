-- `file_size` adds the rows' sizes.
use native.Mathlib.Nat.{le_antisymm}
use native.Mathlib.Omega.{arith}
use mathlib.Core.Path.{refl, sym, ◌∙◌, ap}
use lib.IntN.{ℤ, pos}
use lib.ListN.{length, get_or}
use mir.Val.{SFits}
use mir.Syntax.{w64}
use mir.Facts.{to_z-of_z}
use borrow.Author.Rules.{rules}
use Rattle.sorting.specs.RowLists.{rows_at}
use Rattle.csv_file.specs.Csv.{csv_row, csv_rows}
use Rattle.export.proofs.Files.{file-size, lines_size}
use Rattle.export.proofs.file_size.Goals as goal

pub loop-i-init : goal.loop-i-init
unfolding csv_rows rows_at
loop-i-init c = record { size = refl; small = search rules }

pub overflow_add-size : goal.overflow_add-size
overflow_add-size c = omega (arith, c.row_size-size.ensures.1)

pub loop-i-preserved : goal.loop-i-preserved
loop-i-preserved c =
    let a = c.args.accounts.now in
    let t = c.args.totals.now in
    let i = c.loop-i.i in
    let fits : SFits w64 (get_or t i (pos 0)) = search rules in
    let e = c.row_size-size.ensures.0 ∙ ap (λ (z : ℤ). length (csv_row (get_or a i 0) z)) (to_z-of_z fits) in
    let n = lines_size a t i in
    record { size = omega arith; small = omega (arith, c.row_size-size.ensures.1) }

pub returns : goal.returns
returns c =
    let l = c.loop-i in
    rw (le_antisymm l.auto.i-end c.loop-i-test.false) at l.invariant.size ∙ sym (file-size _)
