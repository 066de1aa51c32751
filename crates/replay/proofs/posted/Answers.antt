-- `posted` gives what a post makes of a balance: an account that is not there starts from 0. Rests on the laws of a logged post.
use mathlib.Core.Path.{sym, ap, ◌∙◌}
use Rattle.logs.specs.Log.{logged_at}
use Rattle.replay.specs.Replay.{as_outcome, still_at}
use Rattle.replay.proofs.Alone.{crowding_unused}
use Rattle.replay.proofs.Outcomes.{post_crowded, post_new}
use Rattle.replay.proofs.Afterwards.{balance_there, balance_missing}
use Rattle.replay.proofs.posted.Goals as goal

pub returns-then-there-ne0 : goal.returns-then-there-ne0
returns-then-there-ne0 c =
    let s = c.args in
    rw (balance_there s.there s.total c.if-there-ne0.true)
    (c.summed.ensures
    ∙ ap (as_outcome (still_at s.log.now s.i)) (sym (crowding_unused (logged_at s.log.now s.i) s.crowded _)))

pub returns-then-crowded : goal.returns-then-crowded
returns-then-crowded c =
    let s = c.args in
    rw (balance_missing s.there s.total c.if-there-ne0.false, c.if-crowded.true)
    ((rw c.word_at-answer.ensures at c.then_some.ensures) ∙ sym (post_crowded s.log.now s.i c.requires.1))

pub returns : goal.returns
returns c =
    let s = c.args in
    rw (balance_missing s.there s.total c.if-there-ne0.false, c.if-crowded.false)
    (c.summed-2.ensures ∙ sym (post_new s.log.now s.i c.requires.1))
