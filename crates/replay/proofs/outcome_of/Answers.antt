-- `outcome_of` gives what an operation makes of a balance, by its kind: here of no kind. Rests on the laws of outcomes.
use native.Mathlib.Omega.{arith}
use mathlib.Core.Path.{sym}
use Rattle.replay.proofs.Outcomes.{no_kind}
use Rattle.replay.proofs.outcome_of.Goals as goal

pub returns-in_default : goal.returns-in_default
returns-in_default c =
    let s = c.args in
    sym (no_kind s.log.now s.i (λ f. omega arith) (λ f. omega arith) (λ f. omega arith) (λ f. omega arith) s.crowded _)
