-- `worker_at` gives where a worker's record begins.
-- Rests on the bound of the workers' records.
use native.Mathlib.Omega.{arith}
use mathlib.Core.Path.{refl}
use Rattle.fields.specs.Regions.{worker_at}
use Rattle.layout.proofs.Positions.{workers_bound}
use Rattle.layout.proofs.addresses.worker_at.Goals as goal

pub overflow_mul-result-3 : goal.overflow_mul-result-3
overflow_mul-result-3 c = omega (arith, workers_bound c.args.g.workers c.args.w c.requires.0 c.requires.1)

pub overflow_add-result-3 : goal.overflow_add-result-3
overflow_add-result-3 c = omega (arith, workers_bound c.args.g.workers c.args.w c.requires.0 c.requires.1)

pub returns : goal.returns
unfolding worker_at
returns c = refl
