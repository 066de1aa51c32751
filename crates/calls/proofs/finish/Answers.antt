-- `finish` clears the kind and the own steps of the worker whose words are at p.
-- Rests on nothing but the two stores.
use Rattle.calls.proofs.finish.Goals as goal

pub returns : goal.returns
returns c =
    rw (← c.put.ensures) c.put-2.ensures
