-- `crowded` tests what `crowded_by` tests: where the bucket is full, a new account decides.
-- Rests on nothing but the contracts of `full` and `creates`.
use mathlib.Core.Path.{sym, ◌∙◌}
use Rattle.machine.specs.Choice.{◌and◌}
use Rattle.machine.proofs.laws.Base.{and_left_false}
use Rattle.rules.specs.Rules.{crowded_by}
use Rattle.rules.proofs.crowded.Goals as goal

pub returns-then-full : goal.returns-then-full
unfolding crowded_by ◌and◌
returns-then-full c = rw (sym c.full.ensures ∙ c.if-full.true) c.creates.ensures

pub returns-else-full : goal.returns-else-full
unfolding crowded_by
returns-else-full c = c.if-full.false ∙ sym (and_left_false _ (sym c.full.ensures ∙ c.if-full.false))
