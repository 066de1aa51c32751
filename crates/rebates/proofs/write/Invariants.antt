-- `write` writes the rows one by one. The loop's invariant: the first i rows are written. Rests on the laws of rows with their rebates.
use mathlib.Core.Path.{◌≡◌}
use Rattle.sorting.specs.RowLists.{accounts_with, rows_at}
use Rattle.rebates.specs.Rebates.{rebates_with}
use Rattle.rebates.proofs.write.Given as goal

abbrev pub invariant-loop-i : goal.invariant-loop-i
invariant-loop-i l = record {
  accounts : l.accounts ≡ accounts_with l.initial.accounts 0 (rows_at l.listed l.totals 0 l.i);
  rebates : l.rebates ≡ rebates_with l.initial.rebates 0 (rows_at l.listed l.totals 0 l.i);
}
