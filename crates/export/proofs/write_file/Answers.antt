-- `write_file` writes the rows one by one.
use Prim.Native.Nat.{◌+◌, ◌≤◌}
use native.Mathlib.Nat.{le_antisymm}
use native.Mathlib.Omega.{arith}
use mathlib.Core.Path.{refl, sym, ◌∙◌}
use lib.IntN.{pos}
use lib.ListN.{length, get_or}
use mir.Val.{SFits}
use mir.Syntax.{w64}
use mir.Facts.{to_z-of_z}
use borrow.Author.Rules.{rules}
use Rattle.lists.proofs.PartLaws.{overlay_nil}
use Rattle.sorting.specs.RowLists.{rows_at}
use Rattle.csv_file.specs.Csv.{header_size, csv_rows}
use Rattle.export.proofs.Files.{file-size, file_written, lines, line-room, line_behind}
use Rattle.export.proofs.write_file.Goals as goal
use Rattle.export.proofs.write_file.Goals.{Start}

room_for : (s : Start)
    → header_size + length (lines s.args.accounts.now s.args.totals.now s.args.k) ≤ length s.args.out.now
room_for s = omega (arith, s.requires, file-size (rows_at s.args.accounts.now s.args.totals.now 0 s.args.k))

pub write_header-requires : goal.write_header-requires
write_header-requires c = let h = room_for (goal.at.write_header-requires c).Start in omega arith

pub loop-i-init : goal.loop-i-init
unfolding csv_rows rows_at
loop-i-init c = (refl, sym (overlay_nil _ _))

pub write_row-at-requires : goal.write_row-at-requires
write_row-at-requires c =
    let h = room_for (goal.at.write_row-at-requires c).Start in
    let i = c.loop-i.i in
    let n = line-room c.args.accounts.now c.args.totals.now i c.args.k c.loop-i-test.true in
    let fits : SFits w64 (get_or c.args.totals.now i (pos 0)) = search rules in
    rw (to_z-of_z fits) (omega (arith, c.write_header.auto.out, c.loop-i.invariant))

pub loop-i-preserved : goal.loop-i-preserved
loop-i-preserved c =
    let h = room_for (goal.at.loop-i-preserved c).Start in
    let l = c.loop-i in
    let fits : SFits w64 (get_or c.args.totals.now l.i (pos 0)) = search rules in
    line_behind _ _ _ _ _ _ _ l.i _ (to_z-of_z fits)
    (omega (arith, c.write_header.auto.out)) l.invariant c.write_row-at.ensures

pub returns : goal.returns
returns c =
    let l = c.loop-i in
    let e = le_antisymm l.auto.i-end c.loop-i-test.false in (
      file_written _ _ _ _ c.write_header.ensures (rw e at l.invariant.1),
      rw e at l.invariant.0 ∙ sym (file-size _),
    )
