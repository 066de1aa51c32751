-- `take_all` takes the updates of some workers.
use native.Mathlib.Omega.{arith}
use mathlib.Core.Path.{◌≡◌, refl, sym, ◌∙◌, ap}
use lib.ListN.{length}
use borrow.Author.Rules.{rules}
use Rattle.fields.specs.Regions.{worker_at}
use Rattle.taking.specs.Taking.{taken_all}
use Rattle.spares.proofs.PoolLaws.{whole_kept}
use Rattle.taking.proofs.TakingLaws.{all_more, all_same}
use Rattle.taking.proofs.take_all.Goals as goal
use Rattle.taking.proofs.take_all.Goals.{else-bits-i-eq1, then-bits-i-eq1}

pub loop-i-init : goal.loop-i-init
unfolding taken_all
loop-i-init c = (refl, refl)

pub overflow_shr-bits : goal.overflow_shr-bits
overflow_shr-bits c = omega (arith, c.requires.0.fits.workers)

pub take-requires : goal.take-requires
take-requires c =
    (whole_kept (sym c.loop-i.invariant.0) c.requires.0, (c.requires.1, c.loop-i-test.true))

pub loop-i-preserved : goal.loop-i-preserved
loop-i-preserved c =
    elim c.if-bits-i-eq1.branch [
      | then-bits-i-eq1 w ↦ (
        ap length w.words-is ∙ search rules,
        w.words-is ∙ all_more _ _ _ _ _ _ c.loop-i.invariant.1 _ w.if-bits-i-eq1.true w.take.ensures,
      )
      | else-bits-i-eq1 w ↦ (
        ap length w.words-is ∙ c.loop-i.invariant.0,
        w.words-is ∙ all_same _ _ _ _ _ _ c.loop-i.invariant.1 w.if-bits-i-eq1.false,
      )
    ]

pub returns : goal.returns
returns c =
    let args = c.args in
    let all : c.loop-i.i ≡ args.g.workers = omega arith in
    c.loop-i.invariant.1 ∙ ap (taken_all args.words.now args.g (worker_at args.g.workers args.w) args.bits) all
