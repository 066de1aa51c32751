-- `directory_start` gives where the directory begins.
-- Rests on nothing but the definitions.
use Rattle.fields.specs.Regions.{worker_at, directory_start}
use Rattle.layout.proofs.shape.directory_start.Goals as goal

pub returns : goal.returns
unfolding worker_at directory_start
returns c = c.worker_at.ensures
