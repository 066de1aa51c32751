-- `print_judged`: what was kept is judged, and the verdict printed.
-- Rests on the laws that it cites and on the contracts of what is called.
use Prim.Native.Nat.{◌/◌, ◌≤◌}
use mathlib.Core.Path.{◌≡◌, sym}
use Rattle.std.specs.Prelude.{Ok}
use native.Mathlib.Omega.{arith}
use lib.ListN.{length, take}
use lib.Seq.{length-take-le}
use borrow.Author.Rules.{rules}
use Rattle.interface.specs.Numbers.{bytes, number_of}
use Rattle.interface.specs.declared.Verdict.{Verdict}
use Rattle.replies.specs.Printed.{printed_line}
use Rattle.logs.specs.Log.{operation_words, greatest_operations}
use Rattle.loglines.specs.declared.progress.Progress.{Progress}
use Rattle.loglines.specs.Texts.{verdict_text}
use Rattle.loglines.specs.Inputs.{judged_text, input_text}
use Rattle.loglines.specs.Holding.{kept_words, kept_log}
use Rattle.loglines.proofs.TextLaws.{overlay_printed, wrote_printed, counted_length, number_fits}
use Rattle.loglines.proofs.TooMany.{count_taken, accepted_few}
use Rattle.loglines.proofs.text.print_judged.Goals as goal
use Rattle.loglines.proofs.text.print_judged.Goals.{After-check_log-verdict, After-within-filled, In-Ok-Accepted}

-- ---- what is judged

abbrev progress : After-within-filled → Progress
progress w = w.args.progress

all_words : (w : After-within-filled) → length (progress w).kept.words ≡ kept_words
all_words w = search rules

filled_in : (w : After-within-filled) → w.within-filled.result ≤ length (progress w).kept.words
filled_in w = omega (arith, all_words w, w.within-filled.ensures.0)

same_words : (w : After-within-filled)
    → take w.within-filled.result (progress w).kept.words ≡ take (progress w).kept.filled (progress w).kept.words
same_words w = w.within-filled.ensures.1 _ (all_words w)

judged-text : (k : After-check_log-verdict)
    → input_text (kept_log k.args.progress)
    ≡ verdict_text k.check_log-verdict.result
    (take (k.within-filled.result / operation_words) k.check_log-verdict.new.order)
unfolding kept_log input_text judged_text
judged-text k =
    rw (← same_words (goal.at.After-check_log-verdict k).After-within-filled, count_taken _ _ (filled_in (goal.at.After-check_log-verdict k).After-within-filled), ← k.check_log-verdict.ensures)

accepted : (c : In-Ok-Accepted) → c.check_log-verdict.result ≡ Ok Verdict.Accepted
accepted c = search rules

-- an order has at most 12 places
places_in : (c : In-Ok-Accepted)
    → c.within-filled.result / operation_words ≤ greatest_operations
places_in c =
    rw (count_taken _ _ (filled_in (goal.at.In-Ok-Accepted c).After-within-filled))
    at (accepted_few _ _ _ _ _ (rw (accepted c) at c.check_log-verdict.ensures))

-- ---- needs

pub slice_bounds-words-end : goal.slice_bounds-words-end
slice_bounds-words-end c = filled_in c

pub slice_bounds-check_log-end : goal.slice_bounds-check_log-end
slice_bounds-check_log-end c = sym (length-take-le _ _ (filled_in (goal.at.slice_bounds-check_log-end c).After-within-filled))

pub slice_bounds-order-end : goal.slice_bounds-order-end
slice_bounds-order-end c =
    omega (arith, places_in (goal.at.slice_bounds-order-end c).In-Ok-Accepted, c.check_log-verdict.auto.order)

pub slice_bounds-print_order-end : goal.slice_bounds-print_order-end
slice_bounds-print_order-end c = sym (length-take-le _ _ (slice_bounds-order-end c.before))

pub print_order-requires : goal.print_order-requires
print_order-requires c =
    let h = slice_bounds-print_order-end c in
    let n = places_in (goal.at.print_order-requires c).In-Ok-Accepted in
    let room = c.requires in
    omega arith

pub returns-in-Ok-Accepted : goal.returns-in-Ok-Accepted
unfolding verdict_text
returns-in-Ok-Accepted c =
    let p = c.print_order.ensures in
    record {
      told = rw (judged-text (goal.at.returns-in-Ok-Accepted c).After-check_log-verdict, accepted (goal.at.returns-in-Ok-Accepted c).In-Ok-Accepted) (overlay_printed _ _ p.0 p.1.0);
      within = p.1.1;
    }

pub returns-in-Ok-No : goal.returns-in-Ok-No
unfolding verdict_text printed_line bytes
returns-in-Ok-No c =
    let p = wrote_printed _ _ c.print_word.ensures (omega (arith, c.requires)) in
    let no : c.check_log-verdict.result ≡ Ok Verdict.No = search rules in
    record { told = rw (judged-text (goal.at.returns-in-Ok-No c).After-check_log-verdict, no) p.0; within = p.1 }

pub returns-in-Err : goal.returns-in-Err
unfolding verdict_text printed_line bytes
returns-in-Err c =
    let r = c.in-Err.refusal in
    let size = counted_length (bytes "refused ") (number_of r) (number_fits r) in
    let p = wrote_printed _ _ (rw c.number.ensures at c.print_counted.ensures) (omega (arith, c.requires)) in
    record { told = rw (judged-text (goal.at.returns-in-Err c).After-check_log-verdict, c.in-Err.is) p.0; within = p.1 }
