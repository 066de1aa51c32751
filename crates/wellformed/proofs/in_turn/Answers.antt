-- `in_turn` compares the workers, then the positions.
use native.Mathlib.Omega.{arith}
use Rattle.std.proofs.lemmas.Bool.Decides.{nat_tests}
use Rattle.machine.specs.Choice.{when◌then◌else◌}
use Rattle.wellformed.proofs.in_turn.Goals as goal
use Rattle.wellformed.proofs.in_turn.Goals.{then-worker-other, else-worker-other}

pub returns-then-ended-call : goal.returns-then-ended-call
unfolding when◌then◌else◌
returns-then-ended-call c =
    elim c.if-worker-other.branch [ then-worker-other v ↦ grind (arith, nat_tests) | else-worker-other v ↦ grind (arith, nat_tests) ]

pub returns-else-ended-call : goal.returns-else-ended-call
unfolding when◌then◌else◌
returns-else-ended-call c =
    elim c.if-worker-other.branch [ then-worker-other v ↦ grind (arith, nat_tests) | else-worker-other v ↦ grind (arith, nat_tests) ]
