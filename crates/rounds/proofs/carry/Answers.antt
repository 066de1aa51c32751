-- `carry` searches once, and settles the ticket as crowded or makes the change at that position, as `carry_of` says.
-- Rests on the laws of one update.
use mathlib.Core.Path.{sym, ◌∙◌}
use Rattle.rounds.proofs.Laws.{carry_crowded, carry_changed}
use Rattle.rounds.proofs.carry.Goals as goal

pub returns-then-crowded : goal.returns-then-crowded
returns-then-crowded c =
    c.settle.ensures
    ∙ carry_crowded _ _ _ c.args.u _ c.search-p.ensures (sym c.crowded.ensures ∙ c.if-crowded.true)

pub returns : goal.returns
returns c =
    c.change.ensures
    ∙ carry_changed _ _ _ c.args.u _ c.search-p.ensures (sym c.crowded.ensures ∙ c.if-crowded.false)
