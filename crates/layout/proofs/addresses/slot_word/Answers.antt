-- `slot_word` reads a word of a slot, as a worker has read it.
-- Rests on the address of a worker's words.
use native.Mathlib.Omega.{arith}
use Rattle.layout.proofs.Positions.{placed}
use Rattle.layout.proofs.addresses.slot_word.Goals as goal

pub overflow_add-worker_at : goal.overflow_add-worker_at
overflow_add-worker_at c = let b = placed c.requires.0 _ c.requires.1.0 in omega arith

pub overflow_add-worker_at-2 : goal.overflow_add-worker_at-2
overflow_add-worker_at-2 c = let b = placed c.requires.0 _ c.requires.1.0 in omega arith

pub get_from-requires : goal.get_from-requires
get_from-requires c = let b = placed c.requires.0 _ c.requires.1.0 in omega arith

pub returns : goal.returns
returns c = rw (c.get_from.ensures, c.worker_at.ensures)
