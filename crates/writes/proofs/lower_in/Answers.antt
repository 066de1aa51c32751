-- `lower_in` lowers a part of the words.
-- Rests on the laws of a slice that is written.
use Prim.Native.Nat.{◌+◌, ◌-◌}
use native.Mathlib.Omega.{arith}
use Rattle.lists.specs.Parts.{part}
use Rattle.writes.proofs.Slices.{slice_lowered}
use Rattle.writes.proofs.lower_in.Goals as goal

pub returns : goal.returns
unfolding part
returns c =
    let s = c.args in
    slice_lowered s.words.now _ s.at (s.at + s.c - s.at) s.c (omega arith) s.i (omega arith) (omega arith)
    c.lower.ensures
