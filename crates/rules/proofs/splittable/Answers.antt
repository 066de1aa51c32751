-- `splittable` tests what `splittable_by` tests: where the bucket is full, its depth decides.
-- Rests on nothing but the contract of `full`.
use mathlib.Core.Path.{sym, ◌∙◌}
use Rattle.machine.specs.Choice.{◌and◌}
use Rattle.machine.proofs.laws.Base.{and_left_false}
use Rattle.rules.specs.Rules.{splittable_by}
use Rattle.rules.proofs.splittable.Goals as goal

pub returns-then-full : goal.returns-then-full
unfolding splittable_by ◌and◌
returns-then-full c = rw (sym c.full.ensures ∙ c.if-full.true)

pub returns-else-full : goal.returns-else-full
unfolding splittable_by
returns-else-full c = c.if-full.false ∙ sym (and_left_false _ (sym c.full.ensures ∙ c.if-full.false))
