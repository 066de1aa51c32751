-- `file_size` adds the rows' sizes. The loop's invariant: the size of the file of the first i rows, which is small. Rests on the laws of
-- files.
use Prim.Native.Nat.{◌+◌, ◌*◌, ◌≤◌}
use mathlib.Core.Path.{◌≡◌}
use lib.ListN.{length}
use Rattle.csv_file.specs.Csv.{header_size, longest_row}
use Rattle.export.proofs.Files.{lines}
use Rattle.export.proofs.file_size.Given as goal

abbrev pub invariant-loop-i : goal.invariant-loop-i
invariant-loop-i l = record {
  size : l.size ≡ header_size + length (lines l.accounts l.totals l.i);
  small : l.size ≤ header_size + longest_row * l.i;
}
