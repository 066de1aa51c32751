-- `read_state` keeps the number of the state of the record that the worker holds.
-- Rests on nothing but the definition.
use Rattle.engine.specs.Engine.{state_read_at}
use Rattle.engine.proofs.read_state.Goals as goal

pub returns : goal.returns
unfolding state_read_at
returns c = rw (c.put_worker_word.ensures, c.held_word.ensures)
