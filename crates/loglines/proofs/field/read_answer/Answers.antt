-- `read_answer`: the answers' words, from the last to the first.
-- Rests on the laws that it cites and on the contracts of what is called.
use mathlib.Core.Path.{refl}
use lib.IntN.{pos}
use lib.ListN.{drop}
use Rattle.interface.specs.Numbers.{bytes, answer_word}
use Rattle.interface.specs.declared.Answer.TheVariants.{Added, Replaced, Removed, Absent, Found, Posted, Crowded, Overrun}
use Rattle.interface.specs.declared.Answer.TheVariants as Answer
use Rattle.loglines.specs.Fields.{number_among, all_answers, answer_named}
use Rattle.loglines.proofs.FieldLaws.{answer_first}
use Rattle.loglines.proofs.field.read_answer.Goals as goal

pub returns : goal.returns
unfolding bytes answer_word number_among all_answers answer_named
returns c =
    let f = c.args.field.now in
    answer_first f Added (drop 1 all_answers) c.answer_or.ensures
    (answer_first f Replaced (drop 2 all_answers) c.answer_or-rest-8.ensures
    (answer_first f Removed (drop 3 all_answers) c.answer_or-rest-7.ensures
    (answer_first f Absent (drop 4 all_answers) c.answer_or-rest-6.ensures
    (answer_first f (Found (pos 0)) (drop 5 all_answers) c.answer_or-rest-5.ensures
    (answer_first f Answer.None (drop 6 all_answers) c.answer_or-rest-4.ensures
    (answer_first f (Posted (pos 0)) (drop 7 all_answers) c.answer_or-rest-3.ensures
    (answer_first f Crowded (drop 8 all_answers) c.answer_or-rest-2.ensures
    (answer_first f Overrun (drop 9 all_answers) c.answer_or-rest.ensures refl))))))))
