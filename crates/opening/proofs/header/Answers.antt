-- `header` lays the first five words.
-- Rests on the laws of runs.
use mathlib.Core.Path.{sym}
use Rattle.lists.proofs.PartLaws.{overlay_first}
use Rattle.opening.proofs.header.Goals as goal

pub returns : goal.returns
returns c = rw c.copy_from_slice.ensures.after (sym (overlay_first _ _))
