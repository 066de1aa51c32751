-- A whole step on the words, with its refusals in document 01's order, for any words. Rests on the step of
-- an operation.
use Rattle.std.specs.Prelude.{ℕ, ◌+◌, ◌%◌, List, leb, eqb}
use Rattle.interface.specs.Numbers.{kind_none}
use Rattle.interface.specs.declared.Settings.{Settings}
use Rattle.interface.specs.declared.Refusal.{Refusal}
use Rattle.interface.specs.declared.Stepped.{Stepped}
use Rattle.machine.specs.Choice.{when◌then◌else◌}
use Rattle.fields.specs.Fields.{worker_kind, worker_steps, steps_range}
use Rattle.fields.specs.Regions.{worker_at}
use Rattle.layout.specs.Shape.{word, strange, shape_of}
use Rattle.updates.specs.Updates.{operation_at}

unfoldable pub step_in : List ℕ → Settings → ℕ → List ℕ × Stepped
step_in l s w =
    let p : ℕ = worker_at s.workers w in
    when eqb (word l (p + worker_kind)) kind_none
    then (l, Stepped.Refused Refusal.Idle)
    else operation_at l s p w (word l (p + worker_steps) % steps_range)

-- "A step checks 8, 3, 5."
unfoldable pub step_words : List ℕ → ℕ → List ℕ × Stepped
step_words l w =
    when strange l then (l, Stepped.Refused Refusal.Strange)
    else when leb (shape_of l).workers w then (l, Stepped.Refused Refusal.Stranger)
    else step_in l (shape_of l) w
