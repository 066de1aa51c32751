-- A whole input of `judge`, and what is printed for it, as docs/USING.md has them: the first line is `b M`, each
-- further one an operation; the first line that is no such line is unread, counted from 1. Rests on specs/Lines,
-- specs/Texts and on crate logs' verdicts.
use Rattle.std.specs.Prelude.{ℕ, suc, List, [], ◌∷◌, ◌++◌, take, replicate, Option, Some, None, Result}
use Rattle.interface.specs.declared.Verdict.{Verdict}
use Rattle.lines.specs.Grammar.{lines_of}
use Rattle.logs.specs.Log.{greatest_operations, count_of}
use Rattle.logs.specs.Judging.{check_log_words}
use Rattle.loglines.specs.Lines.{settings_line, operation_line}
use Rattle.loglines.specs.Texts.{unread_text, verdict_text}
use Rattle.interface.specs.declared.Refusal.{Refusal}

-- ---- what is read

-- the first line that is none of a log, or b, M and the words of all operations
pub data Input : Type 0 where
  unread : ℕ → Input
  log : ℕ → ℕ → List ℕ → Input

-- an operation's words handed on, or the line that is none
unfoldable pub or_unread : ℕ → Option (List ℕ) → (List ℕ → Input) → Input
or_unread n None next = unread n
or_unread n (Some ws) next = next ws

-- the operations from line n on, after those of the words given
unfoldable pub read_operations : ℕ → ℕ → List ℕ → ℕ → List (List ℕ) → Input
read_operations b M words n [] = log b M words
read_operations b M words n (l ∷ ls) =
    or_unread n (operation_line l) (λ ws. read_operations b M (words ++ ws) (suc n) ls)

unfoldable pub after_settings : Option (ℕ × ℕ) → List (List ℕ) → Input
after_settings None ls = unread 1
after_settings (Some (b, M)) ls = read_operations b M [] 2 ls

-- an input without a line is unread at line 1
unfoldable pub read_lines : List (List ℕ) → Input
read_lines [] = unread 1
read_lines (l ∷ ls) = after_settings (settings_line l) ls

-- ---- what is printed for it

-- by the list for the order, and the verdict
unfoldable pub judged_text : ℕ → List ℕ × Result Verdict Refusal → List ℕ
judged_text count judged = verdict_text judged.1 (take count judged.0)

unfoldable pub input_text : Input → List ℕ
input_text (unread line) = unread_text line
input_text (log b M words) =
    judged_text (count_of words) (check_log_words words b M (replicate greatest_operations 0))

-- for all bytes of an input
unfoldable pub judge_text : List ℕ → List ℕ
judge_text input = input_text (read_lines (lines_of input))
