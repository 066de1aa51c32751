-- `resolve` resolves the marked buckets.
use native.Mathlib.Omega.{arith}
use mathlib.Core.Path.{◌≡◌, refl, sym, ◌∙◌, ap}
use lib.ListN.{length}
use Rattle.layout.specs.Shape.{Whole}
use Rattle.fields.specs.Regions.{worker_at}
use Rattle.directory.specs.Directory.{resolved_at}
use Rattle.spares.proofs.PoolLaws.{whole_kept}
use Rattle.layout.proofs.Positions.{record_inside}
use Rattle.directory.proofs.DirectoryLaws.{resolved_more, resolved_same}
use borrow.Author.Rules.{rules}
use Rattle.directory.proofs.resolve.Goals as goal
use Rattle.directory.proofs.resolve.Goals.{else-worker_word-j-eq1, then-worker_word-j-eq1}
use Rattle.directory.proofs.resolve.Goals.{At-loop-j}

-- what the turns have left of the words holds every record
whole : (c : At-loop-j) → Whole c.loop-j.words c.args.g
whole c = whole_kept (sym c.loop-j.invariant.0) c.requires.0

pub loop-j-init : goal.loop-j-init
unfolding resolved_at
loop-j-init c = (refl, refl)

pub worker_word-requires : goal.worker_word-requires
worker_word-requires c =
    ((whole (goal.at.worker_word-requires c).At-loop-j).fits, (c.requires.1, omega arith))

pub overflow_shr-worker_word : goal.overflow_shr-worker_word
overflow_shr-worker_word c = omega (arith, c.requires.0.fits.workers)

pub slot_word-requires : goal.slot_word-requires
slot_word-requires c =
    ((whole (goal.at.slot_word-requires c).At-loop-j).fits, (c.requires.1, (c.loop-j-test.true, omega arith)))

pub record_of-q-requires : goal.record_of-q-requires
record_of-q-requires c = (whole (goal.at.record_of-q-requires c).At-loop-j).fits

pub dues-bits-requires : goal.dues-bits-requires
dues-bits-requires c =
    let fits = (whole (goal.at.dues-bits-requires c).At-loop-j).fits in
    (fits, (c.requires.1, rw c.record_of-q.ensures (record_inside fits _)))

pub take_all-requires : goal.take_all-requires
take_all-requires c =
    (whole (goal.at.take_all-requires c).At-loop-j, c.requires.1)

pub loop-j-preserved : goal.loop-j-preserved
loop-j-preserved c =
    let bits = c.worker_word.ensures in
    elim c.if-worker_word-j-eq1.branch [
      | then-worker_word-j-eq1 w ↦ (
        ap length w.words-is ∙ search rules,
        w.words-is ∙ resolved_more _ _ _ _ _ _ c.loop-j.invariant.1 bits _ _ _ _ w.if-worker_word-j-eq1.true w.slot_word.ensures w.record_of-q.ensures
            w.dues-bits.ensures w.take_all.ensures,
      )
      | else-worker_word-j-eq1 w ↦ (
        ap length w.words-is ∙ c.loop-j.invariant.0,
        w.words-is ∙ resolved_same _ _ _ _ _ _ c.loop-j.invariant.1 bits w.if-worker_word-j-eq1.false,
      )
    ]

pub returns : goal.returns
returns c =
    let args = c.args in
    let all : c.loop-j.j ≡ args.g.workers = omega arith in
    c.loop-j.invariant.1 ∙ ap (resolved_at args.words.now args.g (worker_at args.g.workers args.w)) all
