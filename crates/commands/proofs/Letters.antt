-- What each letter asks for. Rests on the definitions of specs/Commands.
use Prim.Native.Nat.{ℕ}
use mathlib.Core.Path.{◌≡◌}
use mathlib.Core.Logic.{◌≢◌}
use mathlib.Core.List.{List}
use Rattle.std.specs.Prelude.{None}
use borrow.Author.Tests.{ne_eqb}
use Rattle.machine.specs.Choice.{when◌then◌else◌}
use Rattle.commands.specs.Commands.{open_letter, insert_letter, delete_letter, lookup_letter, post_letter, steps_letter, open_command, insert_command, delete_command, lookup_command, post_command, steps_command, three_fields, four_fields}

module _ (letter : ℕ) (x y : List ℕ) where
  pub letter_delete : letter ≡ delete_letter → three_fields letter x y ≡ delete_command x y
  unfolding three_fields when◌then◌else◌
  letter_delete e = rw e

  pub letter_lookup : letter ≡ lookup_letter → three_fields letter x y ≡ lookup_command x y
  unfolding three_fields when◌then◌else◌
  letter_lookup e = rw e

  pub letter_steps : letter ≡ steps_letter → three_fields letter x y ≡ steps_command x y
  unfolding three_fields when◌then◌else◌
  letter_steps e = rw e

  pub letter_of_three : letter ≢ delete_letter → letter ≢ lookup_letter → letter ≢ steps_letter → three_fields letter x y ≡ None
  unfolding three_fields when◌then◌else◌
  letter_of_three e f g = rw (ne_eqb letter delete_letter e, ne_eqb letter lookup_letter f, ne_eqb letter steps_letter g)

module _ (letter : ℕ) (x y z : List ℕ) where
  pub letter_open : letter ≡ open_letter → four_fields letter x y z ≡ open_command x y z
  unfolding four_fields when◌then◌else◌
  letter_open e = rw e

  pub letter_insert : letter ≡ insert_letter → four_fields letter x y z ≡ insert_command x y z
  unfolding four_fields when◌then◌else◌
  letter_insert e = rw e

  pub letter_post : letter ≡ post_letter → four_fields letter x y z ≡ post_command x y z
  unfolding four_fields when◌then◌else◌
  letter_post e = rw e

  pub letter_of_four : letter ≢ open_letter → letter ≢ insert_letter → letter ≢ post_letter → four_fields letter x y z ≡ None
  unfolding four_fields when◌then◌else◌
  letter_of_four e f g = rw (ne_eqb letter open_letter e, ne_eqb letter insert_letter f, ne_eqb letter post_letter g)

-- what `three_fields` and `four_fields` answer, by the letter
pub ruleset letters_of_three = (letter_delete, letter_lookup, letter_steps, letter_of_three)

pub ruleset letters_of_four = (letter_open, letter_insert, letter_post, letter_of_four)
