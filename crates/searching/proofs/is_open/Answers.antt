-- `is_open` tests both. Rests on the definition.
use Prim.Native.Nat.{◌+◌, ◌*◌}
use native.Mathlib.Omega.{arith}
use Rattle.std.proofs.lemmas.Bool.Decides.{nat_tests}
use Rattle.machine.specs.Choice.{◌and◌}
use Rattle.logs.specs.Log.{word_at}
use Rattle.searching.proofs.is_open.Goals as goal

pub returns-then-left-eq1-clause-tested : goal.returns-then-left-eq1-clause-tested
unfolding ◌and◌
returns-then-left-eq1-clause-tested c = grind (arith, nat_tests)

pub returns-else-left-eq1-clause-tested : goal.returns-else-left-eq1-clause-tested
unfolding ◌and◌
returns-else-left-eq1-clause-tested c = grind (arith, nat_tests)

pub returns-else-left-eq1-clause-word : goal.returns-else-left-eq1-clause-word
unfolding word_at
returns-else-left-eq1-clause-word c = omega (arith, c.type_inv.log (c.args.i * 8 + 6))
