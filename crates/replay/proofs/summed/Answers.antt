-- `summed` gives what a post makes of a total. Rests on the laws of a logged post.
use native.Mathlib.Omega.{arith}
use mathlib.Core.Path.{◌≡◌, sym, ◌∙◌}
use mathlib.Core.Bool.{◌&&◌}
use lib.Dec.{eqb}
use Rattle.std.proofs.lemmas.Bool.Decides.{nat_tests}
use Rattle.replay.proofs.Words.{word_fits}
use Rattle.replay.proofs.Outcomes.{post_sum, post_overrun}
use Rattle.replay.proofs.summed.Goals as goal

pub returns-after-answer : goal.returns-after-answer
returns-after-answer c =
    let s = c.args in
    let both : c.if-answer.posted ≡ (eqb c.word_at-answer.result 23 && eqb c.word_at-logged.result c.in-Some.sum) =
    grind (arith, nat_tests) in
    (rw (both, c.word_at-answer.ensures, c.word_at-logged.ensures) at c.then_some.ensures)
    ∙ sym (post_sum s.log.now s.i c.requires.1 s.total _
    (rw c.word_at.ensures at (sym c.sum_of.ensures ∙ c.in-Some.is))
    (word_fits c.word_at-logged.ensures c.word_at-logged.type_inv))

pub returns-in-None : goal.returns-in-None
returns-in-None c =
    let s = c.args in
    (rw c.word_at-answer.ensures at c.then_some-in-None.ensures)
    ∙ sym (post_overrun s.log.now s.i c.requires.1 s.total
    (rw c.word_at.ensures at (sym c.sum_of.ensures ∙ c.in-None.is)))
