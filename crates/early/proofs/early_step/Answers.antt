-- `early_step` takes the step that the plan has after k own steps, as `update_at` says: a case for each of the first three, and the rounds.
-- Rests on the laws of the plan's positions.
use native.Mathlib.Omega.{arith}
use mathlib.Core.Path.{◌∙◌, ap}
use mathlib.Core.List.{List}
use Prim.Native.Nat.{ℕ}
use Rattle.interface.specs.declared.Stepped.{Stepped}
use Rattle.machine.specs.Plan.{announce, read_directory, flip_toggle, phase}
use Rattle.phases.proofs.Plans.{plan_announce}
use Rattle.updates.specs.Updates.{update_at}
use Rattle.updates.proofs.UpdateLaws.{at_phase}
use Rattle.early.proofs.EarlyPhases.{early_directory, early_flip}
use Rattle.early.proofs.early_step.Goals as goal

pub announce-requires : goal.announce-requires
announce-requires c =
    rw c.settings_of.ensures (c.requires.0, c.requires.1.0)

pub read_directory-requires : goal.read_directory-requires
read_directory-requires c =
    rw c.settings_of-in-1.ensures (c.requires.0, c.requires.1.0)

pub flip-requires : goal.flip-requires
flip-requires c =
    rw c.settings_of-in-2.ensures (c.requires.0, c.requires.1.0)

pub returns-in-0 : goal.returns-in-0
unfolding update_at
returns-in-0 c =
    at_phase _ _ _ _ _ _ _ announce (plan_announce _ _ (omega (arith, c.in-0.is)))
    (ap (λ (l : List ℕ). (l, Stepped.Moved)) (rw c.settings_of.ensures at c.announce.ensures))

pub returns-in-1 : goal.returns-in-1
unfolding update_at
returns-in-1 c =
    at_phase _ _ _ _ _ _ _ read_directory (ap (phase _) c.in-1.is ∙ early_directory _)
    (ap (λ (l : List ℕ). (l, Stepped.Moved)) (rw c.settings_of-in-1.ensures at c.read_directory.ensures))

pub returns-in-2 : goal.returns-in-2
unfolding update_at
returns-in-2 c =
    at_phase _ _ _ _ _ _ _ flip_toggle (ap (phase _) c.in-2.is ∙ early_flip _)
    (ap (λ (l : List ℕ). (l, Stepped.Moved)) (rw c.settings_of-in-2.ensures at c.flip.ensures))
