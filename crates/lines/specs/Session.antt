-- What a whole input is met with: bytes in, bytes out. 01, The driver.
-- Rests on specs/Grammar, on what is printed and on the machine's script.
use Rattle.std.specs.Prelude.{ℕ, List, [], ◌∷◌, ◌++◌, Option, Some, None}
use Rattle.std.specs.Option.{option_map}
use Rattle.machine.specs.Script.{Line, Memory, zeros, Response, driver, response_to}
use Rattle.commands.specs.Commands.{line_of}
use Rattle.lines.specs.Grammar.{lines_of, command_of}
use Rattle.replies.specs.Printed.{printed, printed_unread}

-- what is printed for a line, and the memory after it
pub record Told : Type 0 where
  pub memory : Memory
  pub text : List ℕ

-- "Any other line .. gives `unread`", and leaves the memory as it was
unfoldable pub told : Memory → Option Line → Told
told x None = record { memory = x; text = printed_unread }
told x (Some l) = let y : Response = response_to driver x l in record { memory = y.memory; text = printed y.reply }

unfoldable pub session_from : Memory → List (List ℕ) → List ℕ
session_from x [] = []
session_from x (l ∷ ls) =
    let y : Told = told x (option_map line_of (command_of l)) in y.text ++ session_from y.memory ls

-- "The program lends 8,192 words, all 0 at first"
unfoldable pub session : List ℕ → List ℕ
session input = session_from zeros (lines_of input)
