-- `pair` tests two operations by the words that it read.
-- Rests on the laws of two operations' tests.
use native.Mathlib.Omega.{arith}
use Rattle.machine.specs.Choice.{◌and◌}
use Rattle.logs.specs.Log.{logged_at, word_at, apart, in_turn, precedes}
use Rattle.wellformed.proofs.pair.Goals as goal

pub returns-then-apart : goal.returns-then-apart
unfolding ◌and◌ logged_at word_at apart in_turn precedes
returns-then-apart c = grind (arith, c.in_turn.ensures, c.apart.ensures)

pub returns-else-apart : goal.returns-else-apart
unfolding ◌and◌ logged_at word_at apart in_turn precedes
returns-else-apart c = grind (arith, c.apart.ensures)
