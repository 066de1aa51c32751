-- What a line of `totals` means. 01, The driver: "`totals` reads lines from standard input: `O n b M`,
-- `I w account total`, `D w account`, `L w account`, `S w k` .., `T` (listing). Fields stand one space apart, in
-- decimal." 02, No. 1: "the line is `P w account amount`". Rests on the commands of a letter and fields, specs/Commands
-- of crate commands.
use Rattle.std.specs.Prelude.{ℕ, suc, List, [], ◌∷◌, eqb, Option, None}
use Rattle.machine.specs.Choice.{when◌then◌else◌}
use Rattle.decimals.specs.Ascii.{line_feed, space}
use Rattle.numerals.specs.Cut.{parts_at}
use Rattle.commands.specs.declared.Command.{Command}
use Rattle.commands.specs.Commands.{one_field, three_fields, four_fields}

-- ---- lines and fields

-- "A line ends at a line feed or at the end of the input; a line feed that ends the input starts no further line"
unfoldable pub lines_of : List ℕ → List (List ℕ)
lines_of input = parts_at line_feed [] input

-- "Fields stand one space apart"; an empty field is a field
unfoldable pub fields_of : List ℕ → List (List ℕ)
fields_of line = parts_at space ([] ∷ []) line

-- how long the first field is
unfoldable pub first_field : List ℕ → ℕ
first_field [] = 0
first_field (b ∷ bs) = when eqb b space then 0 else suc (first_field bs)

-- the letter that a field is, or 0, which is none
unfoldable pub letter_of : List ℕ → ℕ
letter_of [] = 0
letter_of (b ∷ []) = b
letter_of (b ∷ c ∷ bs) = 0

-- ---- commands

unfoldable pub of_fields : List (List ℕ) → Option Command
of_fields [] = None
of_fields (f ∷ []) = one_field (letter_of f)
of_fields (f ∷ x ∷ []) = None
of_fields (f ∷ x ∷ y ∷ []) = three_fields (letter_of f) x y
of_fields (f ∷ x ∷ y ∷ z ∷ []) = four_fields (letter_of f) x y z
of_fields (f ∷ x ∷ y ∷ z ∷ g ∷ gs) = None

-- what a line means, from its bytes without the line feed; nothing for "Any other line", which "gives `unread`"
unfoldable pub command_of : List ℕ → Option Command
command_of line = of_fields (fields_of line)
