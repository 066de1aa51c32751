-- `deleted` gives what a delete makes of a balance. Rests on the laws of a logged delete.
use mathlib.Core.Path.{sym, ◌∙◌}
use Rattle.replay.proofs.Outcomes.{delete_there, delete_missing}
use Rattle.replay.proofs.Afterwards.{balance_there, balance_missing}
use Rattle.replay.proofs.deleted.Goals as goal

pub returns-then-there-ne0 : goal.returns-then-there-ne0
returns-then-there-ne0 c crowded total =
    let s = c.args in
    rw (balance_there s.there total c.if-there-ne0.true)
    ((rw c.word_at-answer.ensures at c.then_some.ensures)
    ∙ sym (delete_there s.log.now s.i c.requires.1 crowded _))

pub returns : goal.returns
returns c crowded total =
    let s = c.args in
    rw (balance_missing s.there total c.if-there-ne0.false)
    ((rw c.word_at-answer.ensures at c.then_some-2.ensures)
    ∙ sym (delete_missing s.log.now s.i c.requires.1 crowded))
