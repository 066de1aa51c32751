-- `operation_step` counts a step and takes it, as `operation_at` says.
-- Rests on the laws of an operation's step, and on the bounds of a worker's words.
use Prim.Native.Nat.{ℕ, ◌%◌}
use native.Mathlib.Omega.{arith}
use mathlib.Core.Path.{ap}
use Rattle.interface.specs.declared.Settings.{Settings}
use Rattle.fields.specs.Fields.{steps_range}
use Rattle.layout.proofs.Positions.{placed}
use Rattle.updates.proofs.UpdateLaws.{operation_lookup, operation_update}
use borrow.Author.Rules.{rules}
use Rattle.turns.proofs.operations.operation_step.Goals as goal

pub overflow_add-p : goal.overflow_add-p
overflow_add-p c = let b = placed c.requires.0 _ c.requires.1.0 in omega (arith, c.requires.1.1.0)

pub get-k-requires : goal.get-k-requires
get-k-requires c =
    let b = placed c.requires.0 _ c.requires.1.0 in omega (arith, c.requires.1.1.0)

pub overflow_add-p-2 : goal.overflow_add-p-2
overflow_add-p-2 c =
    let b = placed c.requires.0 _ c.requires.1.0 in omega (arith, c.requires.1.1.0)

pub put-requires : goal.put-requires
put-requires c =
    let b = placed c.requires.0 _ c.requires.1.0 in omega (arith, c.requires.1.1.0)

pub lookup_step-requires : goal.lookup_step-requires
lookup_step-requires c =
    let b = placed c.requires.0 _ c.requires.1.0 in
    (rw c.settings_of.ensures (search rules), (omega (arith, c.requires.1.1.0), search rules))

pub returns-then-kind-eq-KIND_LOOKUP : goal.returns-then-kind-eq-KIND_LOOKUP
returns-then-kind-eq-KIND_LOOKUP c =
    operation_lookup _ _ _ _ _ _ _ _ c.requires.1.1.1 (ap (λ (x : ℕ). x % steps_range) c.get-k.ensures) c.put.ensures
    c.if-kind-eq-KIND_LOOKUP.true (rw c.settings_of.ensures at c.lookup_step.ensures)

pub overflow_mul-settings_of : goal.overflow_mul-settings_of
overflow_mul-settings_of c =
    omega (arith, c.requires.0.workers, ap (λ (s : Settings). s.workers) c.settings_of-2.ensures)

pub overflow_add-settings_of : goal.overflow_add-settings_of
overflow_add-settings_of c =
    omega (arith, c.requires.0.workers, ap (λ (s : Settings). s.workers) c.settings_of-2.ensures)

pub early_step-requires : goal.early_step-requires
early_step-requires c =
    (search rules, (c.requires.1.0, rw c.settings_of-2.ensures at c.if-k-settings_of.true))

pub returns-then-k-settings_of : goal.returns-then-k-settings_of
returns-then-k-settings_of c =
    operation_update _ _ _ _ _ _ _ _ c.requires.1.1.1 (ap (λ (x : ℕ). x % steps_range) c.get-k.ensures) c.put.ensures
    c.if-kind-eq-KIND_LOOKUP.false (rw (← c.requires.1.1.0) at c.early_step.ensures)

pub returns : goal.returns
returns c =
    operation_update _ _ _ _ _ _ _ _ c.requires.1.1.1 (ap (λ (x : ℕ). x % steps_range) c.get-k.ensures) c.put.ensures
    c.if-kind-eq-KIND_LOOKUP.false (rw (← c.requires.1.1.0) at c.update_step.ensures)
