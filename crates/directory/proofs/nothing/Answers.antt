-- `nothing` tells whether there is nothing to split.
-- Rests on both outcomes of the test.
use Rattle.directory.proofs.DirectoryLaws.{nothing_marked, nothing_short}
use Rattle.directory.proofs.nothing.Goals as goal

pub returns-then-worker_word-eq0 : goal.returns-then-worker_word-eq0
returns-then-worker_word-eq0 c = nothing_marked _ _ _ _ c.worker_word.ensures c.if-worker_word-eq0.true

pub returns-else-worker_word-eq0 : goal.returns-else-worker_word-eq0
returns-else-worker_word-eq0 c = nothing_short _ _ _ _ c.worker_word.ensures _ c.if-worker_word-eq0.false c.needed.ensures
