-- `first_field`: the position of the first space, or the length.
-- Rests on the laws that it cites and on the contracts of what is called.
use mathlib.Core.Path.{◌∙◌}
use Rattle.lines.proofs.Splitting.{or_length}
use Rattle.lines.proofs.command.first_field.Goals as goal

pub returns : goal.returns
returns c = c.unwrap_or.ensures ∙ rw c.first_space.ensures (or_length c.args.bytes.now)
