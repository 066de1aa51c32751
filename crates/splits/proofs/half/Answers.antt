-- `half` puts one half of a split into a spare record.
-- Rests on the bounds of records.
use native.Mathlib.Omega.{arith}
use Rattle.spares.proofs.PoolLaws.{pool_bound, pool_inside, spare_below}
use Rattle.splits.proofs.Splitting.{half_is}
use Rattle.splits.proofs.half.Goals as goal

pub record_start-at-requires : goal.record_start-at-requires
record_start-at-requires c =
    let fits = c.requires.0.fits in
    let few = pool_bound c.args.g fits.workers fits.depth in (
      fits.workers,
      (
        fits.capacity,
        (fits.depth, omega (arith, c.spare-r.ensures, spare_below c.args.words.now c.args.g)),
      ),
    )

pub make-requires : goal.make-requires
make-requires c =
    let below = spare_below c.args.words.now c.args.g in (
      c.requires.0.fits,
      omega (
        arith,
        c.record_start-at.ensures,
        pool_inside c.requires.0 c.spare-r.result
            (omega (arith, c.spare-r.ensures)),
      ),
    )

pub overflow_add-r : goal.overflow_add-r
overflow_add-r c =
    let fits = c.requires.0.fits in
    let few = pool_bound c.args.g fits.workers fits.depth in
    omega (arith, c.spare-r.ensures, spare_below c.args.words.now c.args.g)

pub returns : goal.returns
returns c =
    half_is _ _ _ _ _ _ _ _ _ _ _ c.spare-r.ensures c.record_start-at.ensures c.half.ensures
    c.make.ensures
    c.put.ensures c.direct.ensures
