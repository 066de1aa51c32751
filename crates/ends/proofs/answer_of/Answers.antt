-- `answer_of` gives the answer that `answer_of` gives, by its keys.
-- Rests on the definition.
use mathlib.Core.Path.{refl, ap}
use borrow.Author.Rules.{rules}
use Rattle.interface.specs.declared.Answer.TheVariants.{Posted}
use Rattle.machine.specs.Choice.{when◌then◌else◌}
use Rattle.memory.proofs.Totals.{total_kept}
use Rattle.rules.specs.Rules.{answer_of}
use Rattle.std.proofs.Common.{tests}
use Rattle.ends.proofs.answer_of.Goals as goal

pub returns-in-1 : goal.returns-in-1
unfolding answer_of when◌then◌else◌
returns-in-1 c = rw c.in-1.is

pub returns-in-2 : goal.returns-in-2
unfolding answer_of when◌then◌else◌
returns-in-2 c = rw c.in-2.is

pub returns-in-3 : goal.returns-in-3
unfolding answer_of when◌then◌else◌
returns-in-3 c = rw c.in-3.is

pub returns-in-4 : goal.returns-in-4
unfolding answer_of when◌then◌else◌
returns-in-4 c = rw c.in-4.is

pub returns-in-7 : goal.returns-in-7
unfolding answer_of when◌then◌else◌
returns-in-7 c =
    rw c.in-7.is
    (ap Posted (total_kept _ _ _ c.total_of.ensures c.ranges.total.fits refl))

pub returns-in-9 : goal.returns-in-9
unfolding answer_of when◌then◌else◌
returns-in-9 c = rw c.in-9.is

pub returns-in-11 : goal.returns-in-11
unfolding answer_of when◌then◌else◌
returns-in-11 c = rw c.in-11.is

pub returns-in_default : goal.returns-in_default
unfolding answer_of when◌then◌else◌
returns-in_default c = search (tests, rules)
