-- Up to so many steps of one worker, ending early at an answer, with the refusals in document 01's order, for any
-- words. Rests on an operation's step.
use Rattle.std.specs.Prelude.{ℕ, zero, suc, ◌+◌, ◌%◌, List, leb, eqb, Option, Some, None, Result, Ok, Err}
use Rattle.interface.specs.Numbers.{kind_none}
use Rattle.interface.specs.declared.Settings.{Settings}
use Rattle.interface.specs.declared.Refusal.{Refusal}
use Rattle.interface.specs.declared.Stepped.{Stepped}
use Rattle.interface.specs.declared.Ran.{Ran}
use Rattle.machine.specs.Choice.{when◌then◌else◌}
use Rattle.fields.specs.Fields.{worker_kind, worker_steps, steps_range}
use Rattle.fields.specs.Regions.{worker_at}
use Rattle.memory.specs.Words.{least}
use Rattle.layout.specs.Shape.{word, strange, shape_of}
use Rattle.updates.specs.Updates.{operation_at}

-- ---- up to so many steps of one worker, ending early at an answer

-- what a run gives after a step that gave so, having taken k steps before it; a step of an operation is not refused
unfoldable pub last_of : ℕ → Stepped → Option (Result Ran Refusal)
last_of k Stepped.Moved = None
last_of k (Stepped.Answered c) = Some (Ok (Ran.Answered c))
last_of k (Stepped.Refused r) = Some (Ok (Ran.Moved k))

unfoldable pub or_else :
    List ℕ → Option (Result Ran Refusal) → List ℕ × Result Ran Refusal → List ℕ × Result Ran Refusal
or_else l None later = later
or_else l (Some r) later = (l, r)

-- f more steps of worker w, k taken; where the words do not come from an opening an operation may vanish, and then
-- the run ends
unfoldable pub run_in : List ℕ → Settings → ℕ → ℕ → ℕ → List ℕ × Result Ran Refusal
run_in l s w k zero = (l, Ok (Ran.Moved k))
run_in l s w k (suc f) =
    let p : ℕ = worker_at s.workers w in
    let after : List ℕ × Stepped = operation_at l s p w (word l (p + worker_steps) % steps_range) in
    when eqb (word l (p + worker_kind)) kind_none
    then (l, Ok (Ran.Moved k))
    else or_else after.0 (last_of k after.1) (run_in after.0 s w (suc k) f)

-- no operation of an opened table takes more than 12n+33 steps, 129 at most: a run is given up after so many,
-- whatever was asked for
abbrev pub longest_run : ℕ
longest_run = 256

unfoldable pub run_words : List ℕ → ℕ → ℕ → List ℕ × Result Ran Refusal
run_words l w most =
    when strange l then (l, Err Refusal.Strange)
    else when leb (shape_of l).workers w then (l, Err Refusal.Stranger)
    else when eqb (word l (worker_at (shape_of l).workers w + worker_kind)) kind_none then (l, Err Refusal.Idle)
    else run_in l (shape_of l) w 0 (least most longest_run)
