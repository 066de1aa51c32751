-- `deepen` makes the directory's depth at least d.
-- Rests on both outcomes of the test.
use Rattle.splits.proofs.Splitting.{deepened_more, deepened_same}
use Rattle.splits.proofs.deepen.Goals as goal

pub returns-then-get-d : goal.returns-then-get-d
returns-then-get-d c =
    deepened_more _ _ _ c.get.ensures _ c.if-get-d.true c.put.ensures

pub returns-else-get-d : goal.returns-else-get-d
returns-else-get-d c = deepened_same _ _ _ c.get.ensures c.if-get-d.false
