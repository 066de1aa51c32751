-- The program's output is the session of the machine's script: bytes in, bytes out. Rests on each line's being met alike, and on the
-- commands that the driver answers being those of the input's lines.
use Prim.Native.Nat.{ℕ}
use mathlib.Core.Path.{◌≡◌, refl, ◌∙◌}
use mathlib.Core.List.{List, [], ◌∷◌, map}
use lib.ListN.{replicate, length-replicate}
use Rattle.interface.specs.Numbers.{bytes}
use Rattle.std.specs.Option.{option_map}
use Rattle.machine.specs.Script.{Memory, zeros}
use Rattle.commands.specs.Commands.{line_of}
use Rattle.lines.specs.Grammar.{lines_of, command_of}
use Rattle.lines.specs.Session.{told, session_from, session}
use Rattle.lines.proofs.Session.{session_of_01}
use Rattle.texts.specs.Texts.{words_on, texts_on}
use Rattle.texts.proofs.Parts.{commands_answered}
use Rattle.layout.proofs.Checks.{zeros_strange}
use Rattle.session.proofs.Same.{Same}
use Rattle.session.specs.Program.{printed_for, ProgramIsSession}
use Rattle.session.proofs.Lines.{said}
use Rattle.session.proofs.Commands.{alike}

-- line after line
texts_told : (ls : List (List ℕ)) (l : List ℕ) (x : Memory) → Same l x → texts_on l 4_096 4_096 (map command_of ls) ≡ session_from x ls
unfolding texts_on session_from
texts_told [] l x h = refl
texts_told (line ∷ ls) l x h =
    let a = alike l x (command_of line) (said line) h in
    rw (a.text, texts_told ls (words_on l (command_of line)) (told x (option_map line_of (command_of line))).memory a.next)

-- at first
pub zeros_same : Same (replicate 8_192 0) zeros
zeros_same = record { count = length-replicate {A = ℕ} 8_192 0; meant = zeros_strange 8_192 }

-- the texts of the input's lines
pub lines_told : (input : List ℕ) → texts_on (replicate 8_192 0) 4_096 4_096 (map command_of (lines_of input)) ≡ session input
unfolding session
lines_told input = texts_told (lines_of input) (replicate 8_192 0) zeros zeros_same

pub program_is_session : ProgramIsSession
unfolding printed_for
program_is_session input = rw (commands_answered input) (lines_told input)

-- ---- 01's session

abbrev pub input01 : List ℕ
input01 = bytes "O 1 2 1\nI 0 5 700\nS 0 12\nS 0 9\nL 0 5\nS 0 2\nT\n"

abbrev pub output01 : List ℕ
output01 = bytes "ok\nok\nmoved 12\nanswered added 13\nok\nanswered found 700 2\n5 700\nend 1\n"

-- "Input and whole output", by the driver's definitions
pub program_prints_01 : printed_for input01 ≡ output01
program_prints_01 = program_is_session input01 ∙ session_of_01
