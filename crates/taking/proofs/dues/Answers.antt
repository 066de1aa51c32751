-- `dues` gives the workers whose update is due, as bits.
use native.Mathlib.Omega.{arith}
use mathlib.Core.Path.{◌≡◌, ◌∙◌, ap}
use Rattle.fields.specs.Regions.{worker_at}
use Rattle.taking.specs.Taking.{dues_at}
use lib.Pow.{pow_mono}
use Rattle.rules.proofs.Bits.{shift_one}
use Rattle.taking.proofs.TakingLaws.{dues_start, dues_more, dues_same}
use Rattle.taking.proofs.dues.Goals as goal
use Rattle.taking.proofs.dues.Goals.{else-due, then-due}

pub loop-i-init : goal.loop-i-init
loop-i-init c = dues_start _ _ _ _

pub due-requires : goal.due-requires
due-requires c =
    (c.requires.0, (c.requires.1.0, (c.loop-i-test.true, c.requires.1.1)))

pub overflow_shl-bits : goal.overflow_shl-bits
overflow_shl-bits c = omega (arith, c.requires.0.workers)

pub overflow_add-bits : goal.overflow_add-bits
overflow_add-bits c =
    let few = c.requires.0.workers in
    omega (arith, c.loop-i.invariant.small, pow_mono {i = c.loop-i.i} {j = 15} (omega arith))

pub loop-i-preserved : goal.loop-i-preserved
loop-i-preserved c =
    let few = c.requires.0.workers in
    let more = c.due.ensures in
    elim c.if-due.branch [
      | then-due w ↦ dues_more _ _ _ _ _ _ _ c.loop-i.invariant more _ _ w.if-due.true (shift_one c.loop-i.i (omega arith)) w.bits-is
      | else-due w ↦ dues_same _ _ _ _ _ _ _ c.loop-i.invariant more _ w.if-due.false w.bits-is
    ]

pub returns : goal.returns
returns c =
    let args = c.args in
    let all : c.loop-i.i ≡ args.g.workers = omega arith in
    c.loop-i.invariant.bits ∙ ap (dues_at args.words.now args.g (worker_at args.g.workers args.w) args.q) all
