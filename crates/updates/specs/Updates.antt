-- The check, a step of an update on the words, by its phase, and an operation's step, for any words. Rests on the other
-- steps' definitions, on what is settled in a bucket's record, and on the machine's plan.
use Rattle.std.specs.Prelude.{ℕ, ◌+◌, List, eqb, leb, set, Option, Some, None}
use Rattle.interface.specs.declared.Settings.{Settings}
use Rattle.interface.specs.declared.Stepped.{Stepped}
use Rattle.machine.specs.Plan.{Phase, announce, read_directory, flip_toggle, read_state, read_toggle, swap_state, check_state, copy_directory, swap_directory, read_slot, resize_for, phase, check_number}
use Rattle.fields.specs.Regions.{worker_at}
use Rattle.rules.specs.Rules.{answer_of}
use Rattle.layout.specs.Addresses.{held_by, bucket_read_at}
use Rattle.engine.specs.Engine.{announced_at, slot_read_at, flipped_at, state_read_at, toggle_read_at, directory_read_at}
use Rattle.swaps.specs.BucketSwap.{swapped_at}
use Rattle.marks.specs.StateStep.{state_step_at}
use Rattle.directory.specs.Directory.{redirected_at}
use Rattle.calls.specs.Calls.{ended_at}
use Rattle.interface.specs.Numbers.{kind_lookup}
use Rattle.interface.specs.declared.Answer.{Answer}
use Rattle.record.specs.Bucket.{settled_ticket, settled_answer, settled_total}
use Rattle.machine.specs.Choice.{when◌then◌else◌}
use Rattle.fields.specs.Fields.{worker_kind, worker_ticket, worker_steps}
use Rattle.layout.specs.Shape.{word}
use Rattle.lookups.specs.Lookups.{lookup_at}

-- ---- the check

-- worker w's answer that is settled in the record at q, with its total
abbrev pub answer_at : List ℕ → Settings → ℕ → ℕ → Answer
answer_at l s q w = answer_of (settled_answer l s q w) (settled_total l s q w)

-- "The checks then answer only from settled tickets": what the check's second step finds for worker w at p, whose
-- bucket's record is at q
unfoldable pub checked_at : List ℕ → Settings → ℕ → ℕ → ℕ → Option Answer
checked_at l s p q w =
    when leb (word l (p + worker_ticket)) (settled_ticket l s q w)
    then Some (answer_at l s q w)
    else None

-- what check c leaves and gives, after k own steps
unfoldable pub check_at : List ℕ → ℕ → ℕ → ℕ → Option Answer → List ℕ × Stepped
check_at l p k c None = (l, Stepped.Moved)
check_at l p k c (Some a) = ended_at l p k c a

-- ---- a step of an update

-- worker w's step at a phase of its update, its record at p, after k own steps
unfoldable pub update_at : List ℕ → Settings → ℕ → ℕ → ℕ → Phase → List ℕ × Stepped
update_at l s p w k announce = (announced_at l p w, Stepped.Moved)
update_at l s p w k read_directory = (bucket_read_at l s p, Stepped.Moved)
update_at l s p w k flip_toggle = (flipped_at l (held_by l p) w, Stepped.Moved)
update_at l s p w k read_state = (state_read_at l p (held_by l p), Stepped.Moved)
update_at l s p w k read_toggle = (toggle_read_at l p (held_by l p), Stepped.Moved)
update_at l s p w k (read_slot j) = (slot_read_at l p j, Stepped.Moved)
update_at l s p w k swap_state = (swapped_at l s p (held_by l p), Stepped.Moved)
update_at l s p w k check_state = check_at l p k (check_number s.workers k) (checked_at l s p (held_by l p) w)
update_at l s p w k copy_directory = (directory_read_at l p, Stepped.Moved)
update_at l s p w k (resize_for j) = (state_step_at l s p j, Stepped.Moved)
update_at l s p w k swap_directory = (redirected_at l s p, Stepped.Moved)

-- that step by the plan, and the check's second step
abbrev pub update_step : List ℕ → Settings → ℕ → ℕ → List ℕ × Stepped
update_step l s w k = update_at l s (worker_at s.workers w) w k (phase s.workers k)

abbrev pub check_step : List ℕ → Settings → ℕ → ℕ → List ℕ × Stepped
check_step l s w k = update_at l s (worker_at s.workers w) w k check_state

-- ---- an operation's step

-- an operation's step after k own steps; its count goes up first; what is no lookup is an update
unfoldable pub operation_at : List ℕ → Settings → ℕ → ℕ → ℕ → List ℕ × Stepped
operation_at l s p w k =
    let l' : List ℕ = set l (p + worker_steps) (k + 1) in
    when eqb (word l (p + worker_kind)) kind_lookup then lookup_at l' s p k else update_at l' s p w k (phase s.workers k)
