-- `creates` tests what `creates_by` tests: where the account is missing, the kind decides.
-- Rests on the laws of new accounts.
use mathlib.Core.Path.{sym, ◌∙◌}
use borrow.Author.Rules.{rules}
use borrow.Author.Tests.{eq-eqb}
use Rattle.rules.specs.Rules.{creates_by}
use Rattle.rules.proofs.Laws.{creates_insert, creates_post}
use Rattle.rules.proofs.creates.Goals as goal

pub returns-in-At : goal.returns-in-At
unfolding creates_by
returns-in-At c = search rules

pub returns-then-kind-eq-KIND_INSERT : goal.returns-then-kind-eq-KIND_INSERT
returns-then-kind-eq-KIND_INSERT c = eq-eqb _ _ c.if-kind-eq-KIND_INSERT.true ∙ sym (creates_insert _ _ _ c.in-Before.is c.if-kind-eq-KIND_INSERT.true)

pub returns-else-kind-eq-KIND_INSERT : goal.returns-else-kind-eq-KIND_INSERT
returns-else-kind-eq-KIND_INSERT c = sym (creates_post _ _ _ c.in-Before.is c.if-kind-eq-KIND_INSERT.false)
