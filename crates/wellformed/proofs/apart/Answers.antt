-- `apart` compares the positions one by one.
use native.Mathlib.Omega.{arith}
use Rattle.std.proofs.lemmas.Bool.Decides.{nat_tests}
use Rattle.machine.specs.Choice.{◌and◌}
use Rattle.wellformed.proofs.apart.Goals as goal
use Rattle.wellformed.proofs.apart.Goals.{then-call-called, else-call-called, then-call-ended, else-call-ended}

pub returns-then-end-called : goal.returns-then-end-called
unfolding ◌and◌
returns-then-end-called c =
    elim c.if-call-ended.branch [
      | then-call-ended w ↦ elim c.if-call-called.branch [ then-call-called v ↦ grind (arith, nat_tests) | else-call-called v ↦ grind (arith, nat_tests) ]
      | else-call-ended w ↦ grind (arith, nat_tests)
    ]

pub returns-else-end-called : goal.returns-else-end-called
unfolding ◌and◌
returns-else-end-called c =
    elim c.if-call-ended.branch [
      | then-call-ended w ↦ elim c.if-call-called.branch [ then-call-called v ↦ grind (arith, nat_tests) | else-call-called v ↦ grind (arith, nat_tests) ]
      | else-call-ended w ↦ grind (arith, nat_tests)
    ]
