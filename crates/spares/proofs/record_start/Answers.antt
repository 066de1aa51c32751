-- `record_start` gives where a record begins.
-- Rests on the bounds of the directory's start and of a record's address.
use native.Mathlib.Omega.{arith}
use lib.Pow.{pow_mono}
use Rattle.rules.proofs.Bits.{shift_one}
use Rattle.spares.proofs.PoolLaws.{start_is, product_bound}
use Rattle.layout.proofs.Positions.{start_bound}
use Rattle.spares.proofs.record_start.Goals as goal

pub overflow_add-result : goal.overflow_add-result
overflow_add-result c =
    let known = c.requires in
    omega (arith, c.directory_start.ensures, start_bound c.args.g.workers known.0, pow_mono known.1.1.0)

pub overflow_mul-result-3 : goal.overflow_mul-result-3
overflow_mul-result-3 c =
    let known = c.requires in
    omega (arith, product_bound c.args.g c.args.r known.0 known.1.0 known.1.1.0 known.1.1.1)

pub overflow_add-result-4 : goal.overflow_add-result-4
overflow_add-result-4 c =
    let known = c.requires in
    omega (
      arith,
      c.directory_start.ensures,
      start_bound c.args.g.workers known.0,
      pow_mono known.1.1.0,
      product_bound c.args.g c.args.r known.0 known.1.0 known.1.1.0 known.1.1.1,
    )

pub returns : goal.returns
returns c = start_is c.args.g c.args.r _ _ c.directory_start.ensures (shift_one _ (omega arith))
