-- `replay` gives the balances after the operation at a place. Rests on the laws of the balances afterwards.
use Prim.Native.Nat.{ℕ}
use mathlib.Core.Path.{◌≡◌, sym, ap, ◌∙◌}
use Rattle.std.specs.Prelude.{Some}
use Rattle.logs.specs.Log.{logged_at}
use Rattle.replay.specs.Balances.{first_place, there_at, total_at, balance_at, crowds_at}
use Rattle.replay.specs.Replay.{outcome_of, as_outcome, still_at, replayed}
use Rattle.replay.proofs.Afterwards.{crowding_asked, after_balance, after_nothing, after_another}
use Rattle.replay.proofs.replay.Goals as goal
use Rattle.replay.proofs.replay.Goals.{After-outcome_of, then-there-eq0, else-there-eq0}

-- what the operation makes of its account's balance
outcome :
    (c : After-outcome_of) → let s = c.args in
    let l = s.log.now in
    c.outcome_of.result
    ≡ as_outcome (still_at l s.i)
    (outcome_of (logged_at l s.i) (crowds_at l s.capacity s.depth s.balances s.i) (balance_at s.balances (first_place l s.i)))
unfolding balance_at there_at total_at
outcome c =
    let s = c.args in
    let x = logged_at s.log.now s.i in
    let crowded = crowds_at s.log.now s.capacity s.depth s.balances s.i in
    c.outcome_of.ensures
    ∙ ap (as_outcome (still_at s.log.now s.i))
    (crowding_asked x _ crowded _ _
    (elim c.if-there-eq0.branch [
      | then-there-eq0 w ↦ λ e. w.crowded-is ∙ w.crowds-crowded.ensures
      | else-there-eq0 w ↦ λ e. absurd (w.if-there-eq0.false e)
    ])
    ∙ ap (λ (j : ℕ). outcome_of x crowded (balance_at s.balances j)) c.first_place-at.ensures.0)

pub returns-in_err-held : goal.returns-in_err-held
unfolding replayed
returns-in_err-held c =
    c.from_residual.ensures
    ∙ after_another _ _ _ _ (sym (outcome (goal.at.returns-in_err-held c).After-outcome_of) ∙ c.in_err-held.was)

pub returns-in-Balance : goal.returns-in-Balance
unfolding replayed
returns-in-Balance c =
    let s = c.args in
    rw c.first_place-at.ensures.0
    (after_balance s.balances _ _ _ _ _
    (sym (outcome (goal.at.returns-in-Balance c).After-outcome_of) ∙ c.in_ok-held.was ∙ ap Some c.in-Balance.is))

pub returns-in_default : goal.returns-in_default
unfolding replayed
returns-in_default c =
    after_nothing _ _ _ _ (sym (outcome (goal.at.returns-in_default c).After-outcome_of) ∙ c.in_ok-held.was ∙ ap Some c.in_default.is)
