-- `round_step` takes the step of a bucket round that the plan has after k own steps, as `update_at` says.
-- Rests on the laws of the plan's positions.
use native.Mathlib.Omega.{arith}
use mathlib.Core.Path.{◌∙◌, ap}
use mathlib.Core.List.{List}
use Prim.Native.Nat.{ℕ}
use Rattle.interface.specs.declared.Settings.{Settings}
use Rattle.interface.specs.declared.Stepped.{Stepped}
use Rattle.machine.specs.Plan.{read_state, read_toggle, read_slot, swap_state}
use Rattle.phases.proofs.Plans.{reduced_below, bucket_state, bucket_toggle, bucket_slot, bucket_swap}
use Rattle.updates.specs.Updates.{update_at}
use Rattle.updates.proofs.UpdateLaws.{at_phase}
use Rattle.early.proofs.EarlyPhases.{early_round}
use Rattle.early.proofs.round_step.Goals as goal

pub overflow_add-n : goal.overflow_add-n
overflow_add-n c = omega (arith, c.requires.0.workers, ap (λ (s : Settings). s.workers) c.settings_of-n.ensures)

pub read_state-requires : goal.read_state-requires
read_state-requires c =
    rw c.settings_of.ensures (c.requires.0, c.requires.1.0)

pub returns-in-0 : goal.returns-in-0
unfolding update_at
returns-in-0 c =
    let at = early_round _ _ _ c.requires.1.1.0 c.requires.1.1.1
    (rw c.settings_of-n.ensures at c.reduce.ensures) in
    at_phase _ _ _ _ _ _ _ read_state (at ∙ bucket_state _ _ (omega (arith, c.in-0.is)))
    (ap (λ (l : List ℕ). (l, Stepped.Moved)) (rw c.settings_of.ensures at c.read_state.ensures))

pub read_toggle-requires : goal.read_toggle-requires
read_toggle-requires c =
    rw c.settings_of-in-1.ensures (c.requires.0, c.requires.1.0)

pub returns-in-1 : goal.returns-in-1
unfolding update_at
returns-in-1 c =
    let at = early_round _ _ _ c.requires.1.1.0 c.requires.1.1.1
    (rw c.settings_of-n.ensures at c.reduce.ensures) in
    at_phase _ _ _ _ _ _ _ read_toggle (at ∙ bucket_toggle _ _ (omega (arith, c.in-1.is)) (omega (arith, c.in-1.is)))
    (ap (λ (l : List ℕ). (l, Stepped.Moved)) (rw c.settings_of-in-1.ensures at c.read_toggle.ensures))

pub overflow_add-n-in_default-1 : goal.overflow_add-n-in_default-1
overflow_add-n-in_default-1 c =
    omega (arith, c.requires.0.workers, ap (λ (s : Settings). s.workers) c.settings_of-n.ensures)

pub read_slot-requires : goal.read_slot-requires
read_slot-requires c =
    rw c.settings_of-in_default.ensures (
      c.requires.0,
      (c.requires.1.0, omega (arith, ap (λ (s : Settings). s.workers) c.settings_of-n.ensures)),
    )

pub returns-in_default : goal.returns-in_default
unfolding update_at
returns-in_default c =
    let at = early_round _ _ _ c.requires.1.1.0 c.requires.1.1.1
    (rw c.settings_of-n.ensures at c.reduce.ensures) in
    at_phase _ _ _ _ _ _ _ (read_slot _)
    (at ∙ bucket_slot _ _ (omega arith) (rw c.settings_of-n.ensures at c.if-j-n.true))
    (ap (λ (l : List ℕ). (l, Stepped.Moved)) (rw c.settings_of-in_default.ensures at c.read_slot.ensures))

pub swap-requires : goal.swap-requires
swap-requires c =
    rw c.settings_of-in_default-2.ensures (c.requires.0, c.requires.1.0)

pub returns-in_default-2 : goal.returns-in_default-2
unfolding update_at
returns-in_default-2 c =
    let reduced = rw c.settings_of-n.ensures at c.reduce.ensures in
    let at = early_round _ _ _ c.requires.1.1.0 c.requires.1.1.1 reduced in
    at_phase _ _ _ _ _ _ _ swap_state
    (at ∙ bucket_swap _ _ (rw c.settings_of-n.ensures at c.if-j-n.false) (reduced_below _ _ _ reduced (omega arith)))
    (ap (λ (l : List ℕ). (l, Stepped.Moved)) (rw c.settings_of-in_default-2.ensures at c.swap.ensures))
