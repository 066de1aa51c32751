-- `run` checks and goes on, as `run_words` says: a case for each `return`.
-- Rests on the laws of whole calls.
use native.Mathlib.Omega.{arith}
use mathlib.Core.Path.{sym, ◌∙◌}
use Rattle.layout.proofs.Positions.{placed}
use Rattle.layout.proofs.Checks.{fits_of, fits_read, strange_first, stranger_next}
use Rattle.memory.proofs.Lesser.{least_min}
use Rattle.runs.proofs.RunLaws.{run_none, run_goes}
use Rattle.runs.specs.Runs.{run_words}
use Rattle.runs.proofs.run.Goals as goal

pub returns-then-strange_words : goal.returns-then-strange_words
unfolding run_words
returns-then-strange_words c = strange_first _ _ _ _ c.strange_words.ensures c.if-strange_words.true

pub bounds-words-0 : goal.bounds-words-0
bounds-words-0 c = omega (arith, fits_of _ (sym c.strange_words.ensures ∙ c.if-strange_words.false))

pub returns-then-g-worker : goal.returns-then-g-worker
unfolding run_words
returns-then-g-worker c =
    stranger_next _ _ _ c.strange_words.ensures _ _ _ _ c.if-strange_words.false c.settings_of-g.ensures
    c.if-g-worker.true

pub worker_at-requires : goal.worker_at-requires
worker_at-requires c =
    let f = fits_read _ _ _ c.strange_words.ensures c.if-strange_words.false c.settings_of-g.ensures in
    (f.workers, omega arith)

pub overflow_add-worker_at : goal.overflow_add-worker_at
overflow_add-worker_at c =
    let f = fits_read _ _ _ c.strange_words.ensures c.if-strange_words.false c.settings_of-g.ensures in let b =
    placed f _ c.if-g-worker.false in omega (arith, c.worker_at.ensures)

pub get-requires : goal.get-requires
get-requires c =
    let f = fits_read _ _ _ c.strange_words.ensures c.if-strange_words.false c.settings_of-g.ensures in let b =
    placed f _ c.if-g-worker.false in omega (arith, c.worker_at.ensures)

pub returns-then-get-eq-KIND_NONE : goal.returns-then-get-eq-KIND_NONE
returns-then-get-eq-KIND_NONE c =
    run_none _ _ _ _ c.strange_words.ensures c.if-strange_words.false c.settings_of-g.ensures c.if-g-worker.false _ _
    c.worker_at.ensures c.get.ensures _ c.if-get-eq-KIND_NONE.true

pub run_in-requires : goal.run_in-requires
run_in-requires c = (
  fits_of _ (sym c.strange_words.ensures ∙ c.if-strange_words.false),
  (rw c.settings_of-g.ensures at c.if-g-worker.false, omega arith),
)

pub returns : goal.returns
returns c =
    run_goes _ _ _ _ c.strange_words.ensures c.if-strange_words.false c.settings_of-g.ensures c.if-g-worker.false _ _
    c.worker_at.ensures c.get.ensures _ _ _ c.if-get-eq-KIND_NONE.false
    (c.min.ensures ∙ least_min _ _)
    c.run_in.ensures
