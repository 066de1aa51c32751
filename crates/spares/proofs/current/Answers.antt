-- `current` tells whether the directory names a record at its bucket's first entry.
-- Rests on the bounds of entries.
use native.Mathlib.Omega.{arith}
use lib.Pow.{pow_mono}
use Rattle.spares.specs.Records.{current_at}
use Rattle.spares.proofs.PoolLaws.{entry_below}
use Rattle.layout.proofs.Positions.{start_bound}
use Rattle.spares.proofs.current.Goals as goal

pub overflow_add-e : goal.overflow_add-e
overflow_add-e c =
    omega (
      arith,
      c.directory_start.ensures,
      c.first_entry.ensures,
      start_bound c.args.g.workers c.requires.0.workers,
      entry_below c.args.g c.get.result c.get-2.result,
      pow_mono c.requires.0.depth,
    )

pub returns : goal.returns
unfolding current_at
returns c =
    rw (
      c.get_or.ensures,
      c.directory_start.ensures,
      c.first_entry.ensures,
      c.get.ensures,
      c.get-2.ensures,
    )
