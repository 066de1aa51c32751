-- `count` counts the rows of every entry. The loop's invariant: k rows belong to the first e entries. Rests on the laws of rows.
use Prim.Native.Nat.{◌≤◌, ◌*◌}
use mathlib.Core.Path.{◌≡◌}
use lib.ListN.{length}
use Rattle.rows.specs.Rows.{rows_from}
use Rattle.rows.proofs.count.Given as goal

abbrev pub invariant-loop-e : goal.invariant-loop-e
invariant-loop-e l = record {
  few : l.k ≤ 16 * l.e;
  count : l.k ≡ length (rows_from l.words l.g 0 l.e);
}
