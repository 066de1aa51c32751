-- `copy_directory` keeps the directory's number, with no marks.
-- Rests on nothing but the definition.
use Rattle.engine.specs.Engine.{directory_read_at}
use Rattle.engine.proofs.copy_directory.Goals as goal

pub returns : goal.returns
unfolding directory_read_at
returns c =
    rw (c.put_worker_word-2.ensures, c.put_worker_word.ensures, c.get.ensures)
