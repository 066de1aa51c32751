-- `worker_word` reads a word of a worker's record.
-- Rests on the address of a worker's words.
use native.Mathlib.Omega.{arith}
use Rattle.layout.proofs.Positions.{placed}
use Rattle.layout.proofs.addresses.worker_word.Goals as goal

pub get_from-requires : goal.get_from-requires
get_from-requires c = let b = placed c.requires.0 _ c.requires.1.0 in omega arith

pub returns : goal.returns
returns c = rw (c.get_from.ensures, c.worker_at.ensures)
