-- `looked_up` gives what a lookup makes of a balance. Rests on the laws of a logged lookup.
use native.Mathlib.Omega.{arith}
use mathlib.Core.Path.{◌≡◌, sym, ◌∙◌}
use mathlib.Core.Bool.{◌&&◌}
use lib.Dec.{eqb}
use Rattle.std.proofs.lemmas.Bool.Decides.{nat_tests}
use Rattle.replay.proofs.Words.{word_fits}
use Rattle.replay.proofs.Outcomes.{lookup_there, lookup_missing}
use Rattle.replay.proofs.Afterwards.{balance_there, balance_missing}
use Rattle.replay.proofs.looked_up.Goals as goal

pub returns-then-there-ne0 : goal.returns-then-there-ne0
returns-then-there-ne0 c crowded =
    let s = c.args in
    let both : c.if-answer.found ≡ (eqb c.word_at-answer.result 21 && eqb c.word_at-logged.result s.total) =
    grind (arith, nat_tests) in
    rw (balance_there s.there s.total c.if-there-ne0.true)
    ((rw (both, c.word_at-answer.ensures, c.word_at-logged.ensures) at c.then_some.ensures)
    ∙ sym (lookup_there s.log.now s.i c.requires.1 crowded s.total c.ranges.total
    (word_fits c.word_at-logged.ensures c.word_at-logged.type_inv)))

pub returns : goal.returns
returns c crowded =
    let s = c.args in
    rw (balance_missing s.there s.total c.if-there-ne0.false)
    ((rw c.word_at-answer.ensures at c.then_some-2.ensures)
    ∙ sym (lookup_missing s.log.now s.i c.requires.1 crowded))
