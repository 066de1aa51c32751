-- `flip` changes the worker's bit in the toggle of the record that it holds.
-- Rests on the bound of a held record.
use Prim.Native.Nat.{◌+◌, ◌≤◌}
use native.Mathlib.Omega.{arith}
use lib.ListN.{length}
use Rattle.fields.specs.Fields.{widest_record}
use Rattle.engine.specs.Engine.{flipped_at}
use Rattle.layout.proofs.Positions.{held_inside}
use Rattle.engine.proofs.flip.Goals as goal
use Rattle.engine.proofs.flip.Goals.{After-held_by-q}

-- the record that the worker holds is inside the words
inside : (c : After-held_by-q) → c.held_by-q.result + widest_record ≤ length c.args.words.now
inside c = rw c.held_by-q.ensures (held_inside c.requires.0 _)

pub overflow_add-q : goal.overflow_add-q
overflow_add-q c = let h = inside (goal.at.overflow_add-q c).After-held_by-q in omega arith

pub overflow_add-q-2 : goal.overflow_add-q-2
overflow_add-q-2 c = let h = inside (goal.at.overflow_add-q-2 c).After-held_by-q in omega arith

pub get-requires : goal.get-requires
get-requires c = let h = inside (goal.at.get-requires c).After-held_by-q in omega arith

pub put-requires : goal.put-requires
put-requires c = let h = inside (goal.at.put-requires c).After-held_by-q in omega arith

pub returns : goal.returns
unfolding flipped_at
returns c =
    rw (c.put.ensures, c.flip_bit.ensures, c.get.ensures, c.held_by-q.ensures)
