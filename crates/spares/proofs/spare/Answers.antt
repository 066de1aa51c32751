-- `spare` gives the next record to use.
use Prim.Native.Nat.{ℕ, ◌+◌, ◌-◌, ◌<◌}
use native.Mathlib.Nat.{mod-lt}
use native.Mathlib.Omega.{arith}
use mathlib.Core.Path.{◌≡◌, sym, ◌∙◌, ap}
use Rattle.fields.specs.Regions.{pool_size}
use Rattle.spares.specs.Records.{spare_from}
use Rattle.spares.proofs.PoolLaws.{pool_bound, spare_start, spare_found, spare_up, spare_round, spare_end}
use Rattle.layout.proofs.Positions.{long}
use Rattle.spares.proofs.spare.Goals as goal
use Rattle.spares.proofs.spare.Goals.{else-r-all, then-r-all}

pub pool-all-requires : goal.pool-all-requires
pool-all-requires c = (c.requires.fits.workers, c.requires.fits.depth)

pub get-requires : goal.get-requires
get-requires c = omega (arith, long c.requires.fits)

pub nonzero_rem-r : goal.nonzero_rem-r
unfolding pool_size
nonzero_rem-r c = omega (arith, c.pool-all.ensures)

pub loop-k-init : goal.loop-k-init
unfolding pool_size
loop-k-init c =
    let few : 0 < c.pool-all.result = omega (arith, c.pool-all.ensures) in
    let whole : c.pool-all.result - 0 ≡ c.pool-all.result = omega arith in (
      omega (arith, c.pool-all.ensures, mod-lt c.get.result few),
      rw whole (spare_start _ _ _ _ c.pool-all.ensures c.get.ensures),
    )

pub used-requires : goal.used-requires
used-requires c = (c.requires, c.loop-k.invariant.0)

pub returns-then-not-used : goal.returns-then-not-used
returns-then-not-used c =
    sym (spare_found _ _ _ _ (omega arith) (sym c.used.ensures ∙ c.if-not-used.true))
    ∙ c.loop-k.invariant.1

pub overflow_add-r : goal.overflow_add-r
overflow_add-r c =
    let fits = c.requires.fits in
    omega (arith, c.loop-k.invariant.0, pool_bound c.args.g fits.workers fits.depth)

pub overflow_add-r-then-r-all : goal.overflow_add-r-then-r-all
overflow_add-r-then-r-all c =
    let fits = c.requires.fits in
    omega (arith, c.loop-k.invariant.0, pool_bound c.args.g fits.workers fits.depth)

pub loop-k-preserved : goal.loop-k-preserved
loop-k-preserved c =
    let all = c.pool-all.ensures in
    let full = sym c.used.ensures ∙ c.if-not-used.false in
    let left : c.pool-all.result - (c.loop-k._k + 1) ≡ c.pool-all.result - c.loop-k._k - 1 = omega arith in
    let search_from : ℕ → ℕ = λ (r : ℕ). spare_from c.args.words.now
    c.args.g r (c.pool-all.result - c.loop-k._k - 1) in
    rw left
    (elim c.if-r-all.branch [
      | then-r-all w ↦ (
        omega arith,
        ap search_from w.r-is ∙ spare_up _ _ _ _ (omega arith) full (omega (arith, w.if-r-all.true))
            ∙ c.loop-k.invariant.1,
      )
      | else-r-all w ↦ (
        omega arith,
        ap search_from w.r-is ∙ spare_round _ _ _ _ (omega arith) full (omega (arith, w.if-r-all.false))
            ∙ c.loop-k.invariant.1,
      )
    ])

pub returns : goal.returns
returns c = sym (spare_end _ _ _ _ (omega arith)) ∙ c.loop-k.invariant.1
