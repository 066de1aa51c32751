-- `next_line`: one more, up to the greatest word.
use native.Mathlib.Omega.{arith}
use Rattle.std.proofs.lemmas.Bool.Decides.{nat_tests}
use Rattle.machine.specs.Choice.{when◌then◌else◌}
use Rattle.loglines.specs.Holding.{next_line}
use Rattle.loglines.proofs.progress.next_line.Goals as goal

pub returns : goal.returns
unfolding next_line when◌then◌else◌
returns c = let e = c.saturating_add.ensures in grind (arith, nat_tests)
