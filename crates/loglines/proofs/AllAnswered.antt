-- What is printed for an input fed in parts is what the whole input asks for: the theorem of specs/Feeding. Rests on proofs/Streaming for
-- the lines, on proofs/Reading for what is read of them, and on proofs/TooMany for the operations that are not kept.
use mathlib.Core.Path.{◌≡◌, refl, ◌∙◌, ap}
use native.Mathlib.Omega.{arith}
use Rattle.lines.specs.Grammar.{lines_of}
use Rattle.loglines.specs.Inputs.{Input, unread, log, input_text, judge_text, read_lines}
use Rattle.loglines.specs.Holding.{read_so_far, begin}
use Rattle.loglines.specs.Feeding.{printed, joined, fed_all, AllAnswered}
use Rattle.loglines.proofs.TextLaws.{with_room}
use Rattle.loglines.proofs.Streaming.{lines_read, line_count}
use Rattle.loglines.proofs.Reading.{kept_of, lines_kept}
use Rattle.loglines.proofs.TooMany.{text_kept}

text_all : (i : Input) → input_text (kept_of i) ≡ input_text i
unfolding kept_of
text_all (unread line) = refl
text_all (log b M ws) = text_kept ws b M

pub all_answered : AllAnswered
unfolding judge_text
all_answered parts h out room =
    let n = line_count (joined parts) in
    let e = ap read_so_far (lines_read parts) ∙ lines_kept (lines_of (joined parts)) (omega arith) in
    with_room (fed_all begin parts) out room ∙ ap (printed out) (ap input_text e ∙ text_all (read_lines (lines_of (joined parts))))
