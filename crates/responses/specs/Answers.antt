-- A command carried out, and what it is met with printed behind the used bytes: a listing, or its reply. Rests on
-- specs/Responses and on the outputs.
use Rattle.std.specs.Prelude.{ℕ, Bool, true, false, List, Option, Some, None}
use Rattle.machine.specs.Choice.{when◌then◌else◌}
use Rattle.commands.specs.declared.Command.{Command}
use Rattle.replies.specs.declared.Reply.{Reply}
use Rattle.replies.specs.Printed.{printed_reply}
use Rattle.outputs.specs.Outputs.{emitted, DriverState, listed}
use Rattle.responses.specs.Responses.{responded}

-- after a command left these words and this reply
unfoldable pub replied_as : DriverState → List ℕ × Reply → DriverState
replied_as s x = record {
  words = x.0;
  accounts = s.accounts;
  totals = s.totals;
  output = emitted s.output (printed_reply x.1);
}

unfoldable pub is_list : Command → Bool
is_list (Command.Open n b M) = false
is_list (Command.Insert w a t) = false
is_list (Command.Delete w a) = false
is_list (Command.Lookup w a) = false
is_list (Command.Post w a v) = false
is_list (Command.Steps w k) = false
is_list Command.List = true

-- by what the line is; one that is no command is unread
unfoldable pub answered : DriverState → Option Command → DriverState
answered s None = replied_as s (s.words, Reply.Unread)
answered s (Some c) = when is_list c then listed s else replied_as s (responded s.words (Some c))
