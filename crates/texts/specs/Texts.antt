-- What commands are met with on words, as text, with no buffer in sight: what the buffer of `feed` holds is said by
-- these (proofs/Texts). Rests on crate responses, the table's listing and the lines' texts and reader.
use Rattle.std.specs.Prelude.{ℕ, ◌||◌, List, [], ◌∷◌, ◌++◌, ltb, eqb, length, Option, Some, None}
use Rattle.decimals.specs.Ascii.{line_feed}
use Rattle.interface.specs.Numbers.{number_of}
use Rattle.interface.specs.declared.Refusal.{Refusal}
use Rattle.machine.specs.Choice.{when◌then◌else◌}
use Rattle.machine.specs.Sequential.{Table}
use Rattle.layout.specs.Shape.{strange, shape_of}
use Rattle.rows.specs.Rows.{rows}
use Rattle.commands.specs.declared.Command.{Command}
use Rattle.replies.specs.declared.Reply.{Reply}
use Rattle.lines.specs.declared.reader.Reader.{Reader}
use Rattle.replies.specs.Printed.{printed_reply, printed_rows, printed_end}
use Rattle.lines.specs.Reading.{fresh, pushed, command_in, is_empty}
use Rattle.responses.specs.Responses.{responded}
use Rattle.responses.specs.Answers.{is_list}

-- ---- one line

-- the rows, "then `end` and the count"; 10 where one of the lists, of n and m places, is shorter than the count
unfoldable pub rows_text : ℕ → ℕ → Table → List ℕ
rows_text n m t =
    when ltb n (length t) || ltb m (length t) then printed_reply (Reply.Refused (number_of Refusal.Narrow))
    else printed_rows t ++ printed_end (length t)

unfoldable pub listing_text : List ℕ → ℕ → ℕ → List ℕ
listing_text l n m =
    when strange l then printed_reply (Reply.Refused (number_of Refusal.Strange))
    else rows_text n m (rows l (shape_of l))

-- what a line is met with by the command that it is, and the words after it; one that is no command is unread
unfoldable pub text_on : List ℕ → ℕ → ℕ → Option Command → List ℕ
text_on l n m None = printed_reply Reply.Unread
text_on l n m (Some c) = when is_list c then listing_text l n m else printed_reply (responded l (Some c)).1

unfoldable pub words_on : List ℕ → Option Command → List ℕ
words_on l None = l
words_on l (Some c) = when is_list c then l else (responded l (Some c)).0

-- ---- several lines

unfoldable pub texts_on : List ℕ → ℕ → ℕ → List (Option Command) → List ℕ
texts_on l n m [] = []
texts_on l n m (c ∷ cs) = text_on l n m c ++ texts_on (words_on l c) n m cs

unfoldable pub words_after : List ℕ → List (Option Command) → List ℕ
words_after l [] = l
words_after l (c ∷ cs) = words_after (words_on l c) cs

-- ---- input

-- the commands of the lines that these bytes end, and the reader after them
unfoldable pub ended : Reader → List ℕ → List (Option Command)
ended r [] = []
ended r (b ∷ bs) = when eqb b line_feed then command_in r ∷ ended fresh bs else ended (pushed r b) bs

unfoldable pub reader_after : Reader → List ℕ → Reader
reader_after r [] = r
reader_after r (b ∷ bs) = when eqb b line_feed then reader_after fresh bs else reader_after (pushed r b) bs

-- the line feed that the program puts behind input whose last line has none
unfoldable pub last_feed : Reader → List ℕ
last_feed r = when is_empty r then [] else 10 ∷ []
