-- `announce` copies a worker's operation into its slot.
-- Rests on the address of a worker's words.
use native.Mathlib.Omega.{arith}
use mathlib.Core.Logic.{inr}
use Rattle.engine.specs.Engine.{announced_at}
use Rattle.layout.proofs.Positions.{placed}
use Rattle.engine.proofs.announce.Goals as goal

pub copy-requires : goal.copy-requires
copy-requires c =
    let known = c.requires in
    let b = placed known.0 _ known.1 in (omega arith, (omega arith, inr (omega arith)))

pub returns : goal.returns
unfolding announced_at
returns c = rw (c.copy.ensures, c.worker_at.ensures)
