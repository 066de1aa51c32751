-- What is held of an input so far, after each byte. Rests on specs/Lines, specs/Inputs and the structs of the source.
use Rattle.std.specs.Prelude.{ℕ, ◌+◌, true, false, List, [], ◌∷◌, leb, ltb, eqb, take, set, replicate, Option, Some, None}
use Rattle.machine.specs.Choice.{when◌then◌else◌}
use Rattle.lists.specs.Parts.{overlay}
use Rattle.decimals.specs.Ascii.{line_feed}
use Rattle.logs.specs.Log.{operation_words, greatest_word}
use Rattle.loglines.specs.declared.progress.Line.{Line}
use Rattle.loglines.specs.declared.progress.Kept.{Kept}
use Rattle.loglines.specs.declared.progress.Progress.{Progress}
use Rattle.loglines.specs.declared.progress.Feeding.{Feeding}
use Rattle.loglines.specs.Lines.{settings_line, operation_line}
use Rattle.loglines.specs.Inputs.{Input, unread, log}

-- ---- a line

-- no longer line means anything: eight fields of 20 bytes, and a space after each but the last
abbrev pub longest_line : ℕ
longest_line = 167

-- the bytes kept of a line, one more than that: of a longer line, what is kept means nothing either
abbrev pub line_room : ℕ
line_room = 168

unfoldable pub no_line : Line
no_line = record { bytes = replicate line_room 0; len = 0 }

unfoldable pub pushed : Line → ℕ → Line
pushed l b = when ltb l.len line_room then record { bytes = set l.bytes l.len b; len = l.len + 1 } else l

unfoldable pub line_in : Line → List ℕ
line_in l = take l.len l.bytes

-- ---- operations

-- 13 are kept: one more than a log may have, so that there are too many where there were
abbrev pub kept_words : ℕ
kept_words = 104

unfoldable pub none_kept : Kept
none_kept = record { filled = 0; words = replicate kept_words 0 }

unfoldable pub kept_with : Kept → List ℕ → Kept
kept_with k ws =
    when leb (k.filled + operation_words) kept_words then record {
      filled = k.filled + operation_words;
      words = overlay k.words k.filled ws;
    }
    else k

-- ---- lines

-- counted up to the greatest word
unfoldable pub next_line : ℕ → ℕ
next_line n = when ltb n greatest_word then n + 1 else n

unfoldable pub start : Progress
start = record { lines = 0; bad = false; capacity = 0; depth = 0; kept = none_kept }

unfoldable pub with_settings : Progress → Option (ℕ × ℕ) → Progress
with_settings p None =
    record { lines = 1; bad = true; capacity = p.capacity; depth = p.depth; kept = p.kept }
with_settings p (Some (b, M)) = record { lines = 1; bad = false; capacity = b; depth = M; kept = p.kept }

unfoldable pub with_operation : Progress → Option (List ℕ) → Progress
with_operation p None =
    record { lines = next_line p.lines; bad = true; capacity = p.capacity; depth = p.depth; kept = p.kept }
with_operation p (Some ws) =
    record {
      lines = next_line p.lines;
      bad = false;
      capacity = p.capacity;
      depth = p.depth;
      kept = kept_with p.kept ws;
    }

-- one line more; nothing counts past the first that is bad
unfoldable pub with_line : Progress → List ℕ → Progress
with_line p l =
    when p.bad then p
    else when eqb p.lines 0 then with_settings p (settings_line l)
    else with_operation p (operation_line l)

-- the first line that is none of a log; 0 where each is one
unfoldable pub first_unread : Progress → ℕ
first_unread p = when eqb p.lines 0 then 1 else when p.bad then p.lines else 0

-- the settings and at most kept_words of the operations' words
unfoldable pub kept_log : Progress → Input
kept_log p = log p.capacity p.depth (take p.kept.filled p.kept.words)

-- what was read
unfoldable pub read_so_far : Progress → Input
read_so_far p = when ltb 0 (first_unread p) then unread (first_unread p) else kept_log p

-- ---- bytes

unfoldable pub begin : Feeding
begin = record { line = no_line; progress = start }

unfoldable pub took : Feeding → ℕ → Feeding
took f b =
    when eqb b line_feed then record { line = no_line; progress = with_line f.progress (line_in f.line) }
    else record { line = pushed f.line b; progress = f.progress }

unfoldable pub fed : Feeding → List ℕ → Feeding
fed f [] = f
fed f (b ∷ bs) = fed (took f b) bs

-- at the end of the input, which ends a line that has a byte
unfoldable pub ended : Feeding → Progress
ended f = when eqb f.line.len 0 then f.progress else with_line f.progress (line_in f.line)
