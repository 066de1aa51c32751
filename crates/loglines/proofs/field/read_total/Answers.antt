-- `read_total`: a total, whose bits are the word.
-- Rests on the laws that it cites and on the contracts of what is called.
use mathlib.Core.Path.{◌∙◌, ap}
use Rattle.std.specs.Prelude.{Some}
use mir.Syntax.{w64}
use mir.Val.{SFits, of_z}
use mir.Facts.{to_z-of_z}
use borrow.Author.Rules.{rules}
use Rattle.commands.specs.Commands.{total_of}
use Rattle.loglines.specs.Fields.{as_word}
use Rattle.loglines.proofs.field.read_total.Goals as goal

pub returns-in_err-total : goal.returns-in_err-total
unfolding total_of as_word
returns-in_err-total c = rw (← c.in_err-total.ensures) c.from_residual.ensures

pub returns : goal.returns
unfolding total_of as_word
returns c =
    let f : SFits w64 c.in_ok-total.total = search rules in
    rw (← c.in_ok-total.ensures) (ap Some (c.word_of.ensures ∙ ap (of_z w64) (to_z-of_z f)))
