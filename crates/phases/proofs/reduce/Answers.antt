-- `reduce` takes one round off a position past it.
-- Rests on nothing but the test.
use mathlib.Core.Path.{sym}
use borrow.Author.Tests.{le-leb, lt-leb}
use Rattle.machine.proofs.laws.Base.{if_true, if_false}
use Rattle.phases.proofs.reduce.Goals as goal

pub returns-then-k-len : goal.returns-then-k-len
returns-then-k-len c = sym (if_true _ _ (le-leb c.args.len c.args.k c.if-k-len.true))

pub returns-else-k-len : goal.returns-else-k-len
returns-else-k-len c = sym (if_false _ _ (lt-leb c.args.len c.args.k c.if-k-len.false))
