-- `same` is the definition: the library's comparison is the same, byte by byte.
use mathlib.Core.Path.{◌∙◌}
use Rattle.logs.proofs.SameLaws.{as_library}
use Rattle.loglines.proofs.field.same.Goals as goal

pub returns : goal.returns
returns c = c.eq.ensures ∙ as_library _ _
