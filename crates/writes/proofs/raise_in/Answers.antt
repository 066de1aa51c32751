-- `raise_in` raises a part of the words.
-- Rests on the laws of a slice that is written.
use Prim.Native.Nat.{◌+◌, ◌-◌}
use native.Mathlib.Omega.{arith}
use Rattle.lists.specs.Parts.{part}
use Rattle.writes.proofs.Slices.{slice_raised}
use Rattle.writes.proofs.raise_in.Goals as goal

pub returns : goal.returns
unfolding part
returns c =
    let s = c.args in
    slice_raised s.words.now _ s.at (s.at + s.c + 1 - s.at) s.c (omega arith) s.i s.v (omega arith)
    (omega arith) c.raise.ensures
