-- `held_word` reads a word of the record that a worker holds.
-- Rests on the address of a held record.
use native.Mathlib.Omega.{arith}
use Rattle.fields.specs.Regions.{worker_at}
use Rattle.layout.proofs.Positions.{held_inside}
use Rattle.layout.proofs.addresses.held_word.Goals as goal

pub get_from-requires : goal.get_from-requires
get_from-requires c =
    let h = held_inside c.requires.0 (worker_at c.args.g.workers c.args.w) in
    omega arith

pub returns : goal.returns
returns c = rw (c.get_from.ensures, c.held_by.ensures)
