-- `rebate`: nothing on a negative total, else the rebate on the amount. Rests on the laws of a total's sign.
use mathlib.Core.Path.{sym, ◌∙◌, ap}
use native.Mathlib.Omega.{arith}
use Rattle.rebate.specs.Rebate.{rebate_on}
use Rattle.rebate.proofs.Signs.{Amount, not_negative, none_below}
use Rattle.rebate.proofs.rebate.Goals as goal
use Rattle.rebate.proofs.rebate.Goals.{Else-total-lt0}

amount : (c : Else-total-lt0) → Amount c.args.total
amount c = not_negative _ c.ranges.total c.if-total-lt0.false

pub overflow_cast-total : goal.overflow_cast-total
overflow_cast-total c = let h = (amount c).small in rw (amount c).read (tt, omega arith)

pub on_amount-requires : goal.on_amount-requires
on_amount-requires c = rw (amount c).read (amount c).small

pub returns-then-total-lt0 : goal.returns-then-total-lt0
returns-then-total-lt0 c = none_below _ c.ranges.total c.if-total-lt0.true

pub returns-else-total-lt0 : goal.returns-else-total-lt0
unfolding rebate_on
returns-else-total-lt0 c = rw (amount (goal.at.returns-else-total-lt0 c).Else-total-lt0).read at c.on_amount.ensures ∙ ap rebate_on (sym (amount (goal.at.returns-else-total-lt0 c).Else-total-lt0).total)
