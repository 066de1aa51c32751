-- `check_number` gives the number of the check that the step after k own steps is.
-- Rests on where the plan's checks stand.
use native.Mathlib.Omega.{arith}
use mathlib.Core.Path.{sym}
use Rattle.machine.proofs.laws.PlanChecks.{before_first, from_first, from_second, from_third, from_fourth}
use Rattle.phases.proofs.check_number.Goals as goal

pub returns-then-k-n : goal.returns-then-k-n
returns-then-k-n c = let s = c.args in sym (before_first s.n s.k c.if-k-n.true)

pub returns-then-k-n-2 : goal.returns-then-k-n-2
returns-then-k-n-2 c = let s = c.args in sym (from_first s.n s.k (omega arith) c.if-k-n-2.true)

pub returns-then-k-n-3 : goal.returns-then-k-n-3
returns-then-k-n-3 c = let s = c.args in sym (from_second s.n s.k (omega arith) c.if-k-n-3.true)

pub returns-then-k-n-4 : goal.returns-then-k-n-4
returns-then-k-n-4 c = let s = c.args in sym (from_third s.n s.k (omega arith) c.if-k-n-4.true)

pub returns-else-k-n-4 : goal.returns-else-k-n-4
returns-else-k-n-4 c = let s = c.args in sym (from_fourth s.n s.k (omega arith))
