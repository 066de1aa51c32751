-- `write_file` writes the rows one by one. The loop's invariant: the first i rows stand behind the header. Rests on the laws of files.
use Prim.Native.Nat.{◌+◌}
use mathlib.Core.Path.{◌≡◌}
use lib.ListN.{length}
use Rattle.lists.specs.Parts.{overlay}
use Rattle.csv_file.specs.Csv.{header_size}
use Rattle.export.proofs.Files.{lines}
use Rattle.export.proofs.write_file.Given as goal

abbrev pub invariant-loop-i : goal.invariant-loop-i
invariant-loop-i l =
    (l.at ≡ header_size + length (lines l.accounts l.totals l.i)) × (l.out ≡ overlay l.initial.out header_size (lines l.accounts l.totals l.i))
