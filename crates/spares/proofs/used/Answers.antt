-- `used` tells whether a record is current or held.
-- Rests on the bounds of records.
use native.Mathlib.Omega.{arith}
use mathlib.Core.Path.{◌∙◌}
use Rattle.spares.specs.Records.{held_by_any}
use Rattle.spares.proofs.PoolLaws.{pool_bound, pool_inside, used_current, used_held}
use Rattle.spares.proofs.used.Goals as goal

pub record_start-q-requires : goal.record_start-q-requires
record_start-q-requires c =
    let whole = c.requires.0 in (
      whole.fits.workers,
      (
        whole.fits.capacity,
        (
          whole.fits.depth,
          omega
              (arith, pool_bound c.args.g whole.fits.workers whole.fits.depth),
        ),
      ),
    )

pub current-requires : goal.current-requires
current-requires c =
    let known = c.requires in
    (known.0.fits, omega (arith, c.record_start-q.ensures, pool_inside known.0 _ known.1))

pub returns-then-current : goal.returns-then-current
returns-then-current c =
    c.if-current.true ∙ used_current _ _ _ _ _ c.record_start-q.ensures c.current.ensures c.if-current.true

pub returns-else-current : goal.returns-else-current
unfolding held_by_any
returns-else-current c =
    used_held _ _ _ _ _ c.record_start-q.ensures c.current.ensures _ c.if-current.false c.any_has.ensures
