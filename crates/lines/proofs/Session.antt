-- 01's session, once more on bytes: the input gives exactly the output, by computing both with the definitions. So are lines that are
-- unread, and posts.
-- Rests on the machine's definitions and on those of specs/.
use mathlib.Core.Path.{◌≡◌, refl}
use Rattle.interface.specs.Numbers.{bytes, answer_word, answer_total}
use Rattle.machine.specs.Computing.{computing}
use Rattle.decimals.specs.Decimals.{digit, digits, digit_count_up_to, digit_count, decimal, signed_decimal}
use Rattle.numerals.specs.Numerals.{is_digit, digits_after, zero_then, numeral, plus, minus, signed_numeral, up_to, from, in64}
use Rattle.commands.specs.Commands.{small_of, account_of, total_of, steps_of, with2, with3, one_field, three_fields, four_fields, line_of}
use Rattle.numerals.specs.Cut.{before, parts_at}
use Rattle.lines.specs.Grammar.{lines_of, fields_of, letter_of, of_fields, command_of}
use Rattle.replies.specs.Printed.{printed_line, total_then, printed_row, printed_end, printed_rows, printed_answer, printed, printed_unread}
use Rattle.lines.specs.Session.{told, session_from, session}

-- a declaration that says `unfolding reading` computes with every definition of lines and of what is printed for them
unfoldable numbers : Unit {0}
unfolding is_digit digits_after zero_then numeral plus minus signed_numeral up_to from in64
numbers = tt

unfoldable decimals : Unit {0}
unfolding digit digits digit_count_up_to digit_count decimal signed_decimal
decimals = tt

unfoldable fields : Unit {0}
unfolding before parts_at lines_of fields_of letter_of small_of account_of total_of steps_of
fields = tt

unfoldable commands : Unit {0}
unfolding with2 with3 one_field three_fields four_fields of_fields command_of line_of
commands = tt

unfoldable printing : Unit {0}
unfolding bytes answer_word answer_total printed_line total_then printed_row printed_end printed_rows printed_answer printed printed_unread
printing = tt

unfoldable reading : Unit {0}
unfolding computing numbers decimals fields commands printing told session_from session
reading = tt

-- "Input and whole output"
pub session_of_01 : session (bytes "O 1 2 1\nI 0 5 700\nS 0 12\nS 0 9\nL 0 5\nS 0 2\nT\n")
    ≡ bytes "ok\nok\nmoved 12\nanswered added 13\nok\nanswered found 700 2\n5 700\nend 1\n"
unfolding reading
session_of_01 = refl

-- "A line ends at a line feed or at the end of the input"
pub session_without_last_feed : session (bytes "O 1 2 1\nI 0 5 700\nS 0 12\nS 0 9\nL 0 5\nS 0 2\nT")
    ≡ bytes "ok\nok\nmoved 12\nanswered added 13\nok\nanswered found 700 2\n5 700\nend 1\n"
unfolding reading
session_without_last_feed = refl

-- "Numbers have no leading zeros; .. -0 is no number"; "w, n, b or M over 65,535 or an account or total outside its range"; an empty line
pub session_of_unread_lines : session (bytes "\nT \nS 65536 1\nS 0 0\nS 00 1\nI 0 4294967296 1\nI 0 1 -0\nI 0 1 9223372036854775808\nT")
    ≡ bytes "unread\nunread\nunread\nunread\nunread\nunread\nunread\nunread\nrefused 8\n"
unfolding reading
session_of_unread_lines = refl

-- the ends of the ranges, and a total below 0
pub session_of_ends : session (bytes "O 65535 2 1\nO 1 2 1\nI 0 4294967295 -9223372036854775808\nS 0 9999\nT\nL 65535 0\n")
    ≡ bytes "refused 1\nok\nok\nanswered added 13\n4294967295 -9223372036854775808\nend 1\nrefused 3\n"
unfolding reading
session_of_ends = refl

-- 02, No. 1: "an amount being ranged and read like a total"
pub session_of_unread_posts : session (bytes "P 0 7\nP 0 7 -0\nP 0 07 5\nP 0 7 9223372036854775808\nP 0 4294967296 5\nP 65536 7 5\nP 0 7 5")
    ≡ bytes "unread\nunread\nunread\nunread\nunread\nunread\nrefused 8\n"
unfolding reading
session_of_unread_posts = refl

-- "posted prints its total; overrun is printed as an answer without one"
pub session_of_posts : session (bytes "O 1 2 1\nP 0 5 700\nS 0 13\nP 0 5 -5\nS 0 13\nP 0 5 9223372036854775807\nS 0 13\nT\n")
    ≡ bytes "ok\nok\nanswered posted 700 13\nok\nanswered posted 695 13\nok\nanswered overrun 13\n5 695\nend 1\n"
unfolding reading
session_of_posts = refl
