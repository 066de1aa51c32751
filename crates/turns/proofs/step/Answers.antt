-- `step` checks and goes on, as `step_words` says: a case for each `return`.
-- Rests on the laws of whole calls.
use native.Mathlib.Omega.{arith}
use mathlib.Core.Path.{sym, ◌∙◌}
use Rattle.layout.proofs.Positions.{placed}
use Rattle.layout.proofs.Checks.{fits_of, fits_read, strange_first, stranger_next}
use Rattle.turns.proofs.TurnLaws.{step_idle, step_goes}
use Rattle.turns.specs.Turns.{step_words}
use Rattle.turns.proofs.step.Goals as goal

pub returns-then-strange_words : goal.returns-then-strange_words
unfolding step_words
returns-then-strange_words c = strange_first _ _ _ _ c.strange_words.ensures c.if-strange_words.true

pub bounds-words-0 : goal.bounds-words-0
bounds-words-0 c = omega (arith, fits_of _ (sym c.strange_words.ensures ∙ c.if-strange_words.false))

pub returns-then-g-worker : goal.returns-then-g-worker
unfolding step_words
returns-then-g-worker c =
    stranger_next _ _ _ c.strange_words.ensures _ _ _ _ c.if-strange_words.false c.settings_of-g.ensures
    c.if-g-worker.true

pub worker_at-p-requires : goal.worker_at-p-requires
worker_at-p-requires c =
    let f = fits_read _ _ _ c.strange_words.ensures c.if-strange_words.false c.settings_of-g.ensures in
    (f.workers, omega arith)

pub overflow_add-p : goal.overflow_add-p
overflow_add-p c =
    let f = fits_read _ _ _ c.strange_words.ensures c.if-strange_words.false c.settings_of-g.ensures in let b =
    placed f _ c.if-g-worker.false in omega (arith, c.worker_at-p.ensures)

pub get-kind-requires : goal.get-kind-requires
get-kind-requires c =
    let f = fits_read _ _ _ c.strange_words.ensures c.if-strange_words.false c.settings_of-g.ensures in let b =
    placed f _ c.if-g-worker.false in omega (arith, c.worker_at-p.ensures)

pub returns-then-kind-eq-KIND_NONE : goal.returns-then-kind-eq-KIND_NONE
returns-then-kind-eq-KIND_NONE c =
    step_idle _ _ _ _ c.strange_words.ensures c.if-strange_words.false c.settings_of-g.ensures c.if-g-worker.false _ _
    c.worker_at-p.ensures c.get-kind.ensures c.if-kind-eq-KIND_NONE.true

pub operation_step-requires : goal.operation_step-requires
operation_step-requires c =
    rw (← c.settings_of-g.ensures) (
      fits_read _ _ _ c.strange_words.ensures c.if-strange_words.false c.settings_of-g.ensures,
      (c.if-g-worker.false, (c.worker_at-p.ensures, c.get-kind.ensures)),
    )

pub returns : goal.returns
returns c =
    step_goes _ _ _ _ c.strange_words.ensures c.if-strange_words.false c.settings_of-g.ensures c.if-g-worker.false _ _
    c.worker_at-p.ensures c.get-kind.ensures _ c.if-kind-eq-KIND_NONE.false c.operation_step.ensures
