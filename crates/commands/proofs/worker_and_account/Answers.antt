-- `worker_and_account`: two numbers, of which the second is an account.
-- Rests on the laws that it cites and on the contracts of what is called.
use mathlib.Core.Path.{◌∙◌}
use native.Mathlib.Omega.{arith}
use Rattle.commands.specs.Commands.{greatest_account, account_of}
use Rattle.commands.proofs.Fields.{second_limited}
use Rattle.commands.proofs.worker_and_account.Goals as goal

pub returns-in_err-w : goal.returns-in_err-w
unfolding account_of
returns-in_err-w c = c.from_residual.ensures ∙ c.in_err-w.ensures

pub overflow_cast-result : goal.overflow_cast-result
overflow_cast-result c = record { fits = omega (arith, second_limited _ greatest_account _ _ _ c.in_ok-w.ensures) }

pub returns : goal.returns
unfolding account_of
returns c = c.in_ok-w.ensures
