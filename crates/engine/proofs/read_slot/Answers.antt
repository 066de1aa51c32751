-- `read_slot` copies a slot into a worker's record.
-- Rests on the address of a worker's words.
use native.Mathlib.Omega.{arith}
use mathlib.Core.Logic.{inl}
use Rattle.engine.specs.Engine.{slot_read_at}
use Rattle.layout.proofs.Positions.{placed}
use Rattle.engine.proofs.read_slot.Goals as goal

pub overflow_add-worker_at : goal.overflow_add-worker_at
overflow_add-worker_at c = let b = placed c.requires.0 _ c.requires.1.0 in omega arith

pub overflow_add-worker_at-2 : goal.overflow_add-worker_at-2
overflow_add-worker_at-2 c = let b = placed c.requires.0 _ c.requires.1.0 in omega arith

pub copy-requires : goal.copy-requires
copy-requires c =
    let known = c.requires in
    let b = placed known.0 _ known.1.0 in (omega arith, (omega arith, inl (omega arith)))

pub returns : goal.returns
unfolding slot_read_at
returns c = rw (c.copy.ensures, c.worker_at.ensures)
