-- `ended` tells the steps, the total and the check, and gives the number, as `ended_report` and `ended_number` say.
-- Rests on the law of an answer's number.
use Prim.Native.Nat.{ℕ, ◌+◌}
use native.Mathlib.Omega.{arith}
use mathlib.Core.Path.{◌∙◌, ap}
use Rattle.report.specs.Report.{ended_report, ended_number}
use Rattle.report.proofs.Laws.{answer_small}
use Rattle.report.proofs.ended.Goals as goal

pub overflow_add-result : goal.overflow_add-result
overflow_add-result c =
    omega (arith, c.number.ensures, answer_small c.args.c.answer)

pub returns : goal.returns
unfolding ended_report ended_number
returns c =
    (c.tell.ensures ∙ rw c.total_word.ensures, ap (λ (n : ℕ). 16 + n) c.number.ensures)
