-- `state_step` sets the mark of worker j's bucket where it is to be set.
-- Rests on the cases of `state_step_at`.
use native.Mathlib.Omega.{arith}
use Rattle.fields.specs.Regions.{worker_at}
use Rattle.marks.proofs.Cases.{step_none, step_marked, mark_or}
use Rattle.marks.proofs.state_step.Goals as goal

pub overflow_shl-j : goal.overflow_shl-j
overflow_shl-j c = omega (arith, c.requires.0.workers)

pub returns-then-marking : goal.returns-then-marking
returns-then-marking c =
    let args = c.args in
    rw c.put_worker_word.ensures
    (step_marked args.words.now args.g (worker_at args.g.workers args.w) args.j _ c.marking.ensures
    c.if-marking.true _ _
    c.worker_word-x.ensures (mark_or _ args.j (omega (arith, c.requires.0.workers))))

pub returns-else-marking : goal.returns-else-marking
returns-else-marking c =
    let args = c.args in
    step_none args.words.now args.g (worker_at args.g.workers args.w) args.j _ c.marking.ensures c.if-marking.false
