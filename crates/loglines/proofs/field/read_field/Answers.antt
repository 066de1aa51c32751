-- `read_field`: by the field's place.
-- Rests on the contracts of what is called.
use native.Mathlib.Omega.{arith}
use Rattle.std.proofs.lemmas.Bool.Decides.{nat_tests}
use Rattle.machine.specs.Choice.{when◌then◌else◌}
use Rattle.commands.specs.Commands.{account_of}
use Rattle.loglines.specs.Fields.{number64, field_word}
use Rattle.loglines.proofs.field.read_field.Goals as goal

pub returns-in-2 : goal.returns-in-2
unfolding field_word account_of when◌then◌else◌
returns-in-2 c = let e = c.in-2.is in let f = c.read_number.ensures in grind (arith, nat_tests)

pub returns-in-3 : goal.returns-in-3
unfolding field_word when◌then◌else◌
returns-in-3 c = let e = c.in-3.is in let f = c.read_total.ensures in grind (arith, nat_tests)

pub returns-in-4 : goal.returns-in-4
unfolding field_word when◌then◌else◌
returns-in-4 c = let e = c.in-4.is in let f = c.read_answer.ensures in grind (arith, nat_tests)

pub returns-in_default : goal.returns-in_default
unfolding field_word number64 when◌then◌else◌
returns-in_default c = let f = c.read_number-in_default.ensures in grind (arith, nat_tests)
