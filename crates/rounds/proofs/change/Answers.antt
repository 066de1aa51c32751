-- `change` changes the state at the position that was found and settles the ticket, as `changed_of` says.
-- Rests on the laws of one update.
use mathlib.Core.Path.{◌∙◌}
use Rattle.rules.specs.Rules.{insert_answer, delete_answer}
use Rattle.rounds.proofs.Laws.{change_insert, change_delete, change_post}
use Rattle.rounds.proofs.change.Goals as goal

pub returns-then-u-eq-KIND_INSERT : goal.returns-then-u-eq-KIND_INSERT
unfolding insert_answer
returns-then-u-eq-KIND_INSERT c =
    let s = c.args in
    c.settle.ensures
    ∙ change_insert _ _ _ s.u _ _ c.if-u-eq-KIND_INSERT.true c.put.ensures c.answer_number.ensures

pub returns-then-u-eq-KIND_POST : goal.returns-then-u-eq-KIND_POST
returns-then-u-eq-KIND_POST c =
    c.post.ensures ∙ change_post _ _ _ c.args.u c.if-u-eq-KIND_POST.true

pub returns-else-u-eq-KIND_POST : goal.returns-else-u-eq-KIND_POST
unfolding delete_answer
returns-else-u-eq-KIND_POST c =
    c.settle-else-u-eq-KIND_POST.ensures
    ∙ change_delete _ _ _ c.args.u _ _ (c.if-u-eq-KIND_INSERT.false, c.if-u-eq-KIND_POST.false)
    c.remove.ensures c.answer_number-else-u-eq-KIND_POST.ensures
