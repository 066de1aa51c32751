-- Inputs of `judge` and texts, computed with the definitions. Rests on the definitions of specs/.
use mathlib.Core.Path.{◌≡◌, refl}
use mathlib.Core.List.{[], ◌∷◌}
use Rattle.interface.specs.Numbers.{bytes, answer_word}
use Rattle.machine.specs.Choice.{when◌then◌else◌, ◌and◌}
use Rattle.decimals.specs.Decimals.{digit, digits, digit_count_up_to, digit_count, decimal}
use Rattle.numerals.specs.Numerals.{is_digit, digits_after, zero_then, numeral, plus, minus, signed_numeral, up_to, in64}
use Rattle.numerals.specs.Cut.{before, parts_at}
use Rattle.commands.specs.Commands.{small_of, account_of, total_of}
use Rattle.lines.specs.Grammar.{lines_of, fields_of}
use Rattle.replies.specs.Printed.{printed_line}
use Rattle.logs.specs.Same.{same_numbers}
use Rattle.loglines.specs.Fields.{number64, as_word, number_among, all_answers, answer_named, field_word}
use Rattle.loglines.specs.Lines as Lines
use Rattle.loglines.specs.Inputs.{unread, log, or_unread, read_operations, after_settings, read_lines}
use Rattle.loglines.specs.Texts.{order_text}

unfoldable numbers : Unit {0}
unfolding is_digit digits_after zero_then numeral plus minus signed_numeral up_to in64 small_of account_of total_of
numbers = tt

unfoldable fields : Unit {0}
unfolding bytes answer_word before parts_at lines_of fields_of number64 as_word same_numbers number_among all_answers answer_named field_word
fields = tt

unfoldable lines : Unit {0}
unfolding Lines.settings_of Lines.settings_line Lines.word_then Lines.each_word Lines.operation_in Lines.operation_line
lines = tt

unfoldable reading : Unit {0}
unfolding numbers fields lines when◌then◌else◌ ◌and◌ or_unread read_operations after_settings read_lines
reading = tt

-- an insert and a lookup that finds a total below 0, as words of two's complement
pub two_operations : read_lines (lines_of (bytes "2 1\n0 1 5 -1 added 0 0 1\n1 3 5 0 found -1 2 3\n"))
    ≡ log 2 1 (0 ∷ 1 ∷ 5 ∷ 18446744073709551615 ∷ 17 ∷ 0 ∷ 0 ∷ 1 ∷ 1 ∷ 3 ∷ 5 ∷ 0 ∷ 21 ∷ 18446744073709551615 ∷ 2 ∷ 3 ∷ [])
unfolding reading
two_operations = refl

-- "wherever it stands": the third line has seven fields
pub third_unread : read_lines (lines_of (bytes "2 1\n0 1 5 7 added 0 0 1\n1 3 5 0 found 7 2\n1 3 5 0 none 0 2 3")) ≡ unread 3
unfolding reading
third_unread = refl

-- "An empty line is no such line"; "an input without a first line: `unread 1`"
pub empty_unread : read_lines (lines_of (bytes "2 1\n\n")) ≡ unread 2
unfolding reading
empty_unread = refl

pub nothing_unread : read_lines (lines_of []) ≡ unread 1
unfolding reading
nothing_unread = refl

-- "`order` and the places, counted from 0, one space apart (`order` alone for an empty log)"
pub order_printed : order_text (10 ∷ 0 ∷ []) ≡ bytes "order 10 0\n"
unfolding order_text printed_line bytes digit digits digit_count_up_to digit_count decimal
order_printed = refl

pub empty_order_printed : order_text [] ≡ bytes "order\n"
unfolding order_text printed_line bytes
empty_order_printed = refl
