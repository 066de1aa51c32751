-- `read_directory` keeps the record of the account's bucket.
-- Rests on nothing but the definition.
use Rattle.layout.specs.Addresses.{bucket_read_at}
use Rattle.engine.proofs.read_directory.Goals as goal

pub returns : goal.returns
unfolding bucket_read_at
returns c =
    rw (c.put_worker_word.ensures, c.record_of-q.ensures, c.worker_word.ensures)
