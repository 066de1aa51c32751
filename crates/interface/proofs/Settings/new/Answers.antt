-- `Settings::new` gives the settings, or refusal 1: in each return the tests that were passed say which.
-- Rests on the laws `outside` and `inside`.
use native.Mathlib.Omega.{arith}
use mathlib.Core.Path.{sym}
use mathlib.Core.Logic.{⊎_elim}
use borrow.Author.Tests.{ltb-true, ltb-false}
use Rattle.interface.proofs.Laws.{outside, inside}
use Rattle.interface.proofs.Settings.new.Goals as goal

pub returns-then-workers-lt-LEAST_WORKERS : goal.returns-then-workers-lt-LEAST_WORKERS
returns-then-workers-lt-LEAST_WORKERS c =
    sym (outside _ _ _ (λ r. ⊎_elim (λ w. omega arith) (λ w. omega (arith, ltb-true)) c.then-workers-lt-LEAST_WORKERS.either))

pub returns-then-capacity-lt-LEAST_CAPACITY : goal.returns-then-capacity-lt-LEAST_CAPACITY
returns-then-capacity-lt-LEAST_CAPACITY c =
    sym (outside _ _ _ (λ r. ⊎_elim (λ w. omega arith) (λ w. omega (arith, ltb-true)) c.then-capacity-lt-LEAST_CAPACITY.either))

pub returns-then-depth-lt-LEAST_DEPTH : goal.returns-then-depth-lt-LEAST_DEPTH
returns-then-depth-lt-LEAST_DEPTH c =
    sym (outside _ _ _ (λ r. ⊎_elim (λ w. omega arith) (λ w. omega (arith, ltb-true)) c.then-depth-lt-LEAST_DEPTH.either))

pub returns : goal.returns
returns c =
    sym (inside _ _ _
    (record {
      least-workers = omega arith;
      greatest-workers = omega (arith, ltb-false);
      least-capacity = omega arith;
      greatest-capacity = omega (arith, ltb-false);
      greatest-depth = omega (arith, ltb-false);
    }))
