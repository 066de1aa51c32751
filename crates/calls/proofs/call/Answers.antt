-- `call` checks and goes on, as `call_words` says: a case for each `return`.
-- Rests on the laws of whole calls.
use native.Mathlib.Omega.{arith}
use mathlib.Core.Path.{sym, ◌∙◌, ap}
use mir.Facts.{to_z-of_z}
use Rattle.layout.proofs.Checks.{fits_of, fits_read, strange_first, stranger_next}
use Rattle.calls.proofs.CallLaws.{call-words}
use Rattle.calls.specs.Calls.{call_in, call_words}
use Rattle.calls.proofs.call.Goals as goal

pub returns-then-strange_words : goal.returns-then-strange_words
unfolding call_words
returns-then-strange_words c = strange_first _ _ _ _ c.strange_words.ensures c.if-strange_words.true

pub bounds-words-0 : goal.bounds-words-0
bounds-words-0 c = omega (arith, fits_of _ (sym c.strange_words.ensures ∙ c.if-strange_words.false))

pub returns-then-g-worker : goal.returns-then-g-worker
unfolding call_words
returns-then-g-worker c =
    stranger_next _ _ _ c.strange_words.ensures _ _ _ _ c.if-strange_words.false c.settings_of-g.ensures
    c.if-g-worker.true

pub call_in-requires : goal.call_in-requires
call_in-requires c =
    let f = fits_read _ _ _ c.strange_words.ensures c.if-strange_words.false c.settings_of-g.ensures in
    (f, c.if-g-worker.false)

pub returns : goal.returns
returns c =
    call-words _ _ _ _ c.strange_words.ensures c.if-strange_words.false c.settings_of-g.ensures c.if-g-worker.false _
    _ _ _ (c.call_in.ensures ∙ ap (call_in _ _ _ _) (to_z-of_z c.ranges.total))
