-- `put_rows`: the loop's invariant is that putting the rows left comes to putting all.
-- Rests on the laws of rows.
use Prim.Native.Nat.{◌-◌}
use mathlib.Core.Path.{◌≡◌}
use Rattle.outputs.specs.Outputs.{put_rows}
use Rattle.sorting.specs.RowLists.{rows_at}
use Rattle.outputs.proofs.put_rows.Given as goal

abbrev pub invariant-loop-i : goal.invariant-loop-i
invariant-loop-i l =
    put_rows (record { bytes = l.out; used = l.used }) (rows_at l.accounts l.totals l.i (l.count - l.i))
    ≡ put_rows (record { bytes = l.initial.out; used = l.initial.used }) (rows_at l.accounts l.totals 0 l.count)
