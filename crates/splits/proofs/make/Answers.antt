-- `make` writes a new bucket's record.
-- Rests on the words of a record one after another.
use Rattle.splits.proofs.Splitting.{made_is}
use Rattle.splits.proofs.make.Goals as goal

pub returns : goal.returns
returns c =
    made_is _ _ _ _ _ _ _ _ _ _ _ c.put.ensures c.put-2.ensures c.put-3.ensures c.put-4.ensures
    c.store_state.ensures
