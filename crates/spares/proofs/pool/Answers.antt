-- `pool` counts the bucket records.
-- Rests on the bound of a power of two.
use native.Mathlib.Omega.{arith}
use lib.Pow.{pow_mono}
use Rattle.fields.specs.Regions.{pool_size}
use Rattle.spares.proofs.pool.Goals as goal

pub overflow_add-result : goal.overflow_add-result
overflow_add-result c = omega (arith, pow_mono c.requires.1)

pub overflow_add-result-2 : goal.overflow_add-result-2
overflow_add-result-2 c = omega (arith, pow_mono c.requires.1)

pub returns : goal.returns
unfolding pool_size
returns c = omega (arith, pow_mono c.requires.1)
