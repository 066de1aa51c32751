-- `attempt` is the definition, test by test. Rests on the laws of an attempt.
use mathlib.Core.Path.{sym, ◌∙◌}
use Rattle.searching.proofs.Candidates.{attempt_unfit, attempt_exchanged, attempt_kept, attempt_higher}
use Rattle.searching.proofs.attempt.Goals as goal
use Rattle.searching.proofs.attempt.Goals.{else-i-last-via-then-i-last+else-exchanged, else-i-last-via-else-i-last}

pub returns-in_err-next : goal.returns-in_err-next
returns-in_err-next c =
    c.from_residual.ensures ∙ attempt_unfit _ _ _ _ _ _ _ (sym c.replay.ensures ∙ c.in_err-next.was)

pub returns-then-exchanged : goal.returns-then-exchanged
returns-then-exchanged c =
    attempt_exchanged _ _ _ _ _ _ _ _ (sym c.replay.ensures ∙ c.in_ok-next.was) _ c.exchanged.ensures c.if-i-last.true
    c.if-exchanged.true

pub returns : goal.returns
returns c =
    elim c.else-i-last.branch [
      | else-i-last-via-then-i-last+else-exchanged w ↦
          attempt_kept _ _ _ _ _ _ _ _ (sym c.replay.ensures ∙ c.in_ok-next.was) _ w.exchanged.ensures w.if-i-last.true
          w.if-exchanged.false
      | else-i-last-via-else-i-last w ↦
          attempt_higher _ _ _ _ _ _ _ _ (sym c.replay.ensures ∙ c.in_ok-next.was) w.if-i-last.false
    ]
