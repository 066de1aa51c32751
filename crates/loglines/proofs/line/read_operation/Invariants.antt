-- `read_operation`: k fields are read, and the others follow.
-- Rests on the laws that it cites and on the contracts of what is called.
use Prim.Native.Nat.{◌≤◌}
use mathlib.Core.Path.{◌≡◌}
use lib.ListN.{length, take, drop}
use Rattle.lines.specs.Grammar.{fields_of}
use Rattle.loglines.specs.Lines.{operation_line, operation_from}
use Rattle.loglines.proofs.line.read_operation.Given as goal

abbrev pub invariant-loop-k : goal.invariant-loop-k
invariant-loop-k l =
    (l.from ≤ length l.line)
    × ((length l.words ≡ 8) × (operation_from (take l.k l.words) l.k (fields_of (drop l.from l.line)) ≡ operation_line l.line))
