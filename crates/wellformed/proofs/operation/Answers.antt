-- `operation` tests what `is_operation` tests, in its order.
use native.Mathlib.Omega.{arith}
use Rattle.std.proofs.lemmas.Bool.Decides.{nat_tests}
use Rattle.machine.specs.Choice.{◌and◌}
use Rattle.logs.specs.Log.{logged_at, word_at, is_operation}
use Rattle.wellformed.proofs.operation.Goals as goal
use Rattle.wellformed.proofs.operation.Goals.{then-kind-ge-KIND_INSERT, else-kind-ge-KIND_INSERT, then-kind-le-GREATEST_KIND, else-kind-le-GREATEST_KIND}

pub returns-then-get_or-lt-ACCOUNTS : goal.returns-then-get_or-lt-ACCOUNTS
unfolding ◌and◌ logged_at word_at is_operation
returns-then-get_or-lt-ACCOUNTS c =
    elim c.if-kind-le-GREATEST_KIND.branch [
      | then-kind-le-GREATEST_KIND w ↦ elim c.if-kind-ge-KIND_INSERT.branch [
        | then-kind-ge-KIND_INSERT v ↦ grind (arith, nat_tests)
        | else-kind-ge-KIND_INSERT v ↦ grind (arith, nat_tests)
      ]
      | else-kind-le-GREATEST_KIND w ↦ grind (arith, nat_tests)
    ]

pub returns-else-get_or-lt-ACCOUNTS : goal.returns-else-get_or-lt-ACCOUNTS
unfolding ◌and◌ logged_at word_at is_operation
returns-else-get_or-lt-ACCOUNTS c =
    elim c.if-kind-le-GREATEST_KIND.branch [
      | then-kind-le-GREATEST_KIND w ↦ elim c.if-kind-ge-KIND_INSERT.branch [
        | then-kind-ge-KIND_INSERT v ↦ grind (arith, nat_tests)
        | else-kind-ge-KIND_INSERT v ↦ grind (arith, nat_tests)
      ]
      | else-kind-le-GREATEST_KIND w ↦ elim c.if-kind-ge-KIND_INSERT.branch [
        | then-kind-ge-KIND_INSERT v ↦ grind (arith, nat_tests)
        | else-kind-ge-KIND_INSERT v ↦ grind (arith, nat_tests)
      ]
    ]
