-- `print_answer`: by the answer; a total is printed for found and posted alone.
-- Rests on the laws that it cites and on the contracts of what is called.
use Prim.Native.Nat.{ℕ}
use mathlib.Core.Path.{◌≡◌, sym, ap}
use mathlib.Core.List.{List, [], ◌∷◌, ◌++◌}
use lib.IntN.{ℤ}
use mir.Syntax.{w64}
use mir.Val.{SFits}
use mir.Facts.{to_z-of_z}
use borrow.Author.Rules.{rules}
use Rattle.interface.specs.declared.Answer.{Answer}
use Rattle.interface.specs.Numbers.{bytes, answer_word, answer_total}
use Rattle.decimals.specs.Decimals.{decimal, signed_decimal}
use Rattle.printers.specs.Written.{Wrote}
use Rattle.replies.specs.Printed.{printed_answer, printed_line, total_then}
use Rattle.printers.proofs.Written.{retold}
use Rattle.replies.proofs.print_answer.Goals as goal

-- the line of an answer, where the value printed is that one
as_answer : (k : ℕ) {l : List ℕ} {at r : ℕ} {a b : Answer} {after : List ℕ} → a ≡ b → Wrote l at (printed_answer b k) r after
    → Wrote l at (printed_answer a k) r after
as_answer k e w = retold (ap (λ x. printed_answer x k) (sym e)) w

pub returns-in-Added : goal.returns-in-Added
unfolding printed_answer printed_line total_then answer_word answer_total bytes
returns-in-Added c = as_answer c.args.end.steps c.in-Added.is c.print_counted.ensures

pub returns-in-Replaced : goal.returns-in-Replaced
unfolding printed_answer printed_line total_then answer_word answer_total bytes
returns-in-Replaced c = as_answer c.args.end.steps c.in-Replaced.is c.print_counted-in-Replaced.ensures

pub returns-in-Removed : goal.returns-in-Removed
unfolding printed_answer printed_line total_then answer_word answer_total bytes
returns-in-Removed c = as_answer c.args.end.steps c.in-Removed.is c.print_counted-in-Removed.ensures

pub returns-in-Absent : goal.returns-in-Absent
unfolding printed_answer printed_line total_then answer_word answer_total bytes
returns-in-Absent c = as_answer c.args.end.steps c.in-Absent.is c.print_counted-in-Absent.ensures

pub returns-in-Found : goal.returns-in-Found
unfolding printed_answer printed_line total_then answer_word answer_total bytes
returns-in-Found c =
    let k = c.args.end.steps in
    let fits : SFits w64 c.in-Found.total = search rules in
    let text = ap (λ (t : ℤ). bytes "answered found " ++ printed_line (signed_decimal t ∷ decimal k ∷ [])) (to_z-of_z fits) in
    as_answer k c.in-Found.is (retold text c.print_total.ensures)

pub returns-in-None : goal.returns-in-None
unfolding printed_answer printed_line total_then answer_word answer_total bytes
returns-in-None c = as_answer c.args.end.steps c.in-None.is c.print_counted-in-None.ensures

pub returns-in-Posted : goal.returns-in-Posted
unfolding printed_answer printed_line total_then answer_word answer_total bytes
returns-in-Posted c =
    let k = c.args.end.steps in
    let fits : SFits w64 c.in-Posted.total = search rules in
    let text = ap (λ (t : ℤ). bytes "answered posted " ++ printed_line (signed_decimal t ∷ decimal k ∷ [])) (to_z-of_z fits) in
    as_answer k c.in-Posted.is (retold text c.print_total-in-Posted.ensures)

pub returns-in-Crowded : goal.returns-in-Crowded
unfolding printed_answer printed_line total_then answer_word answer_total bytes
returns-in-Crowded c = as_answer c.args.end.steps c.in-Crowded.is c.print_counted-in-Crowded.ensures

pub returns-in-Overrun : goal.returns-in-Overrun
unfolding printed_answer printed_line total_then answer_word answer_total bytes
returns-in-Overrun c = as_answer c.args.end.steps c.in-Overrun.is c.print_counted-in-Overrun.ensures
