-- `inserted` gives what an insert makes of a balance. Rests on the laws of a logged insert.
use mathlib.Core.Path.{sym, ◌∙◌}
use Rattle.replay.proofs.Words.{word_fits}
use Rattle.replay.proofs.Outcomes.{insert_there, insert_crowded, insert_new}
use Rattle.replay.proofs.Afterwards.{balance_there, balance_missing}
use Rattle.replay.proofs.inserted.Goals as goal

pub returns-then-there-ne0 : goal.returns-then-there-ne0
returns-then-there-ne0 c total =
    let s = c.args in
    rw (balance_there s.there total c.if-there-ne0.true)
    ((rw (c.word_at-answer.ensures, c.word_at-total.ensures) at c.then_some.ensures)
    ∙ sym (insert_there s.log.now s.i c.requires.1 (word_fits c.word_at-total.ensures c.word_at-total.type_inv) s.crowded _))

pub returns-then-crowded : goal.returns-then-crowded
returns-then-crowded c total =
    let s = c.args in
    rw (balance_missing s.there total c.if-there-ne0.false, c.if-crowded.true)
    ((rw c.word_at-answer.ensures at c.then_some-then-crowded.ensures)
    ∙ sym (insert_crowded s.log.now s.i c.requires.1 (word_fits c.word_at-total.ensures c.word_at-total.type_inv)))

pub returns : goal.returns
returns c total =
    let s = c.args in
    rw (balance_missing s.there total c.if-there-ne0.false, c.if-crowded.false)
    ((rw (c.word_at-answer.ensures, c.word_at-total.ensures) at c.then_some-2.ensures)
    ∙ sym (insert_new s.log.now s.i c.requires.1 (word_fits c.word_at-total.ensures c.word_at-total.type_inv)))
