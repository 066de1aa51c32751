-- `update_step` takes the step that the plan has next, as `update_at` says: a case for each kind of step.
-- Rests on the law that a plan names workers below n only.
use mathlib.Core.Path.{ap}
use mathlib.Core.List.{List}
use Prim.Native.Nat.{ℕ}
use Rattle.interface.specs.declared.Stepped.{Stepped}
use Rattle.phases.specs.declared.Phase as Code
use Rattle.phases.specs.Phases.{planned}
use Rattle.updates.specs.Updates.{update_at}
use Rattle.updates.proofs.UpdateLaws.{slot_below, state_below, updated}
use borrow.Author.Rules.{rules}
use Rattle.updates.proofs.update_step.Goals as goal

pub phase_of-requires : goal.phase_of-requires
phase_of-requires c = rw c.settings_of-g.ensures (search rules)

pub announce-requires : goal.announce-requires
announce-requires c =
    rw c.settings_of-g.ensures (c.requires.0, c.requires.1.0)

pub read_directory-requires : goal.read_directory-requires
read_directory-requires c =
    rw c.settings_of-g.ensures (c.requires.0, c.requires.1.0)

pub flip-requires : goal.flip-requires
flip-requires c =
    rw c.settings_of-g.ensures (c.requires.0, c.requires.1.0)

pub read_state-requires : goal.read_state-requires
read_state-requires c =
    rw c.settings_of-g.ensures (c.requires.0, c.requires.1.0)

pub read_toggle-requires : goal.read_toggle-requires
read_toggle-requires c =
    rw c.settings_of-g.ensures (c.requires.0, c.requires.1.0)

pub read_slot-requires : goal.read_slot-requires
read_slot-requires c = (
  rw c.settings_of-g.ensures c.requires.0,
  (rw c.settings_of-g.ensures c.requires.1.0, slot_below _ _ _ _ c.in-ReadSlot.is c.phase_of.ensures),
)

pub swap-requires : goal.swap-requires
swap-requires c =
    rw c.settings_of-g.ensures (c.requires.0, c.requires.1.0)

pub check-requires : goal.check-requires
check-requires c =
    rw c.settings_of-g.ensures (c.requires.0, (c.requires.1.0, c.requires.1.1))

pub returns-in-Check : goal.returns-in-Check
unfolding planned update_at
returns-in-Check c =
    rw (← c.settings_of-g.ensures)
    (updated _ _ _ _ _ _ _ _ Code.Phase.Check c.in-Check.is c.phase_of.ensures c.check.ensures)

pub copy_directory-requires : goal.copy_directory-requires
copy_directory-requires c =
    rw c.settings_of-g.ensures (c.requires.0, c.requires.1.0)

pub state_step-requires : goal.state_step-requires
state_step-requires c = (
  rw c.settings_of-g.ensures c.requires.0,
  (rw c.settings_of-g.ensures c.requires.1.0, state_below _ _ _ _ c.in-StateStep.is c.phase_of.ensures),
)

pub swap_directory-requires : goal.swap_directory-requires
swap_directory-requires c =
    rw c.settings_of-g.ensures (c.requires.0, c.requires.1.0)

pub returns-in-Announce : goal.returns-in-Announce
unfolding planned update_at
returns-in-Announce c =
    rw (← c.settings_of-g.ensures)
    (updated _ _ _ _ _ _ _ _ Code.Phase.Announce c.in-Announce.is c.phase_of.ensures
    (ap (λ (l : List ℕ). (l, Stepped.Moved)) c.announce.ensures))

pub returns-in-ReadDirectory : goal.returns-in-ReadDirectory
unfolding planned update_at
returns-in-ReadDirectory c =
    rw (← c.settings_of-g.ensures)
    (updated _ _ _ _ _ _ _ _ Code.Phase.ReadDirectory c.in-ReadDirectory.is c.phase_of.ensures
    (ap (λ (l : List ℕ). (l, Stepped.Moved)) c.read_directory.ensures))

pub returns-in-Flip : goal.returns-in-Flip
unfolding planned update_at
returns-in-Flip c =
    rw (← c.settings_of-g.ensures)
    (updated _ _ _ _ _ _ _ _ Code.Phase.Flip c.in-Flip.is c.phase_of.ensures
    (ap (λ (l : List ℕ). (l, Stepped.Moved)) c.flip.ensures))

pub returns-in-ReadState : goal.returns-in-ReadState
unfolding planned update_at
returns-in-ReadState c =
    rw (← c.settings_of-g.ensures)
    (updated _ _ _ _ _ _ _ _ Code.Phase.ReadState c.in-ReadState.is c.phase_of.ensures
    (ap (λ (l : List ℕ). (l, Stepped.Moved)) c.read_state.ensures))

pub returns-in-ReadToggle : goal.returns-in-ReadToggle
unfolding planned update_at
returns-in-ReadToggle c =
    rw (← c.settings_of-g.ensures)
    (updated _ _ _ _ _ _ _ _ Code.Phase.ReadToggle c.in-ReadToggle.is c.phase_of.ensures
    (ap (λ (l : List ℕ). (l, Stepped.Moved)) c.read_toggle.ensures))

pub returns-in-ReadSlot : goal.returns-in-ReadSlot
unfolding planned update_at
returns-in-ReadSlot c =
    rw (← c.settings_of-g.ensures)
    (updated _ _ _ _ _ _ _ _ (Code.Phase.ReadSlot _) c.in-ReadSlot.is c.phase_of.ensures
    (ap (λ (l : List ℕ). (l, Stepped.Moved)) c.read_slot.ensures))

pub returns-in-Swap : goal.returns-in-Swap
unfolding planned update_at
returns-in-Swap c =
    rw (← c.settings_of-g.ensures)
    (updated _ _ _ _ _ _ _ _ Code.Phase.Swap c.in-Swap.is c.phase_of.ensures
    (ap (λ (l : List ℕ). (l, Stepped.Moved)) c.swap.ensures))

pub returns-in-CopyDirectory : goal.returns-in-CopyDirectory
unfolding planned update_at
returns-in-CopyDirectory c =
    rw (← c.settings_of-g.ensures)
    (updated _ _ _ _ _ _ _ _ Code.Phase.CopyDirectory c.in-CopyDirectory.is c.phase_of.ensures
    (ap (λ (l : List ℕ). (l, Stepped.Moved)) c.copy_directory.ensures))

pub returns-in-StateStep : goal.returns-in-StateStep
unfolding planned update_at
returns-in-StateStep c =
    rw (← c.settings_of-g.ensures)
    (updated _ _ _ _ _ _ _ _ (Code.Phase.StateStep _) c.in-StateStep.is c.phase_of.ensures
    (ap (λ (l : List ℕ). (l, Stepped.Moved)) c.state_step.ensures))

pub returns-in-SwapDirectory : goal.returns-in-SwapDirectory
unfolding planned update_at
returns-in-SwapDirectory c =
    rw (← c.settings_of-g.ensures)
    (updated _ _ _ _ _ _ _ _ Code.Phase.SwapDirectory c.in-SwapDirectory.is c.phase_of.ensures
    (ap (λ (l : List ℕ). (l, Stepped.Moved)) c.swap_directory.ensures))
