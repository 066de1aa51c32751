-- `read_toggle` keeps the toggle of the record that the worker holds.
-- Rests on nothing but the definition.
use Rattle.engine.specs.Engine.{toggle_read_at}
use Rattle.engine.proofs.read_toggle.Goals as goal

pub returns : goal.returns
unfolding toggle_read_at
returns c = rw (c.put_worker_word.ensures, c.held_word.ensures)
