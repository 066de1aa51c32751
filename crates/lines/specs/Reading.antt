-- What a reader of one line holds after each byte, and what it then means.
-- Rests on specs/Grammar and the struct of the source.
use Rattle.std.specs.Prelude.{ℕ, ◌+◌, Bool, true, false, List, [], ◌∷◌, leb, ltb, eqb, length, take, set, replicate, Option, None}
use Rattle.machine.specs.Choice.{when◌then◌else◌}
use Rattle.decimals.specs.Ascii.{line_feed}
use Rattle.commands.specs.declared.Command.{Command}
use Rattle.lines.specs.declared.reader.Reader.{Reader}
use Rattle.lines.specs.Grammar.{command_of}

-- no longer line means anything
abbrev pub longest_line : ℕ
longest_line = 39

-- the bytes that a reader has room for
abbrev pub line_room : ℕ
line_room = 64

-- no byte yet
unfoldable pub fresh : Reader
fresh = record { line = replicate line_room 0; len = 0; long = false }

-- one byte more: kept while there is room for it, and else the line is long
unfoldable pub pushed : Reader → ℕ → Reader
pushed r b =
    when ltb r.len line_room then record { line = set r.line r.len b; len = r.len + 1; long = r.long }
    else record { line = r.line; len = r.len; long = true }

-- what the line read so far means; a long one means nothing
unfoldable pub command_in : Reader → Option Command
command_in r =
    when r.long then None
    else when leb r.len (length r.line) then command_of (take r.len r.line)
    else None

-- no byte since the last line feed
unfoldable pub is_empty : Reader → Bool
is_empty r = eqb r.len 0

-- the commands of an input, read byte by byte: a line ends at a line feed, and at the end of the input where it has
-- a byte
unfoldable pub commands_read : Reader → List ℕ → List (Option Command)
commands_read r [] = when is_empty r then [] else command_in r ∷ []
commands_read r (b ∷ bs) =
    when eqb b line_feed then command_in r ∷ commands_read fresh bs else commands_read (pushed r b) bs
