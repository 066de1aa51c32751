-- `is_log` tests the count of words, then the operations, then the pairs.
use native.Mathlib.Omega.{arith}
use Rattle.std.proofs.lemmas.Bool.Decides.{nat_tests}
use Rattle.machine.specs.Choice.{◌and◌}
use Rattle.logs.specs.Log.{are_log, is_log, log_of, count_of}
use Rattle.wellformed.proofs.is_log.Goals as goal
use Rattle.wellformed.proofs.is_log.Goals.{then-len-eq0, else-len-eq0, then-n-le-GREATEST_OPERATIONS, else-n-le-GREATEST_OPERATIONS}

pub returns-then-operations : goal.returns-then-operations
unfolding ◌and◌ are_log is_log log_of count_of
returns-then-operations c =
    elim c.if-n-le-GREATEST_OPERATIONS.branch [
      | then-n-le-GREATEST_OPERATIONS w ↦ elim c.if-len-eq0.branch [
        | then-len-eq0 v ↦ grind (arith, nat_tests, w.operations.ensures, c.all_pairs.ensures)
        | else-len-eq0 v ↦ grind (arith, nat_tests)
      ]
      | else-n-le-GREATEST_OPERATIONS w ↦ grind (arith, nat_tests)
    ]

pub returns-else-operations : goal.returns-else-operations
unfolding ◌and◌ are_log is_log log_of count_of
returns-else-operations c =
    elim c.if-n-le-GREATEST_OPERATIONS.branch [
      | then-n-le-GREATEST_OPERATIONS w ↦ elim c.if-len-eq0.branch [
        | then-len-eq0 v ↦ grind (arith, nat_tests, w.operations.ensures)
        | else-len-eq0 v ↦ grind (arith, nat_tests)
      ]
      | else-n-le-GREATEST_OPERATIONS w ↦ elim c.if-len-eq0.branch [
        | then-len-eq0 v ↦ grind (arith, nat_tests)
        | else-len-eq0 v ↦ grind (arith, nat_tests)
      ]
    ]
