-- `count_in` counts the rows of one entry. The loop's invariant: k rows are among the first i accounts. Rests on the laws of rows.
use Prim.Native.Nat.{◌≤◌}
use mathlib.Core.Path.{◌≡◌}
use lib.ListN.{length}
use Rattle.entries.specs.Entries.{rows_in}
use Rattle.entries.proofs.EntryLaws.{Looked}
use Rattle.entries.proofs.count_in.Given as goal

abbrev pub invariant-loop-i : goal.invariant-loop-i
invariant-loop-i l = record {
  looked : Looked l.words l.g l.e l.q l.c;
  few : l.k ≤ l.i;
  count : l.k ≡ length (rows_in l.words l.g l.e l.q 0 l.i);
}
