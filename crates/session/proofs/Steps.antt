-- The line `S w k` on words is the script's: a run is its steps, and each step is the machine's.
-- Rests on the run as iterated steps, and on what a step means.
use Prim.Native.Nat.{ℕ, zero, suc}
use mathlib.Core.Path.{◌≡◌, refl}
use mathlib.Core.Bool.{true}
use mathlib.Core.List.{List}
use Rattle.interface.specs.Numbers.{number_of}
use Rattle.interface.specs.Limits.{in_range}
use Rattle.interface.specs.declared.Settings.{Settings}
use Rattle.interface.specs.declared.Stepped.{Stepped}
use Rattle.interface.specs.declared.Ran.{Ran}
use Rattle.machine.specs.Records.{Machine}
use Rattle.machine.specs.Steps.{step}
use Rattle.machine.specs.Systems.{stepping, next}
use Rattle.machine.specs.Script as Script
use Rattle.replies.specs.Printed.{printed, printed_reply}
use Rattle.turns.specs.Turns.{step_words}
use Rattle.runs.specs.Runs.{run_words}
use Rattle.responses.specs.Responses.{of_ran}
use Rattle.simulation.specs.Runs.{goes_on, iterated, by_steps}
use Rattle.simulation.proofs.Represents.{Represents, step_alike, represents_next}
use Rattle.simulation.proofs.runs.RunIterates.{run_iterates}
use Rattle.std.specs.Prelude.{Result}
use Rattle.interface.specs.declared.Refusal.{Refusal}

-- what a run on words left and replied is what the script's steps left and replied
pub record AsSteps (s : Settings) (x : List ℕ × Result Ran Refusal) (y : Script.Response) : Type 0 where
  pub text : printed_reply (of_ran x.1) ≡ printed y.reply
  pub machine : Machine
  pub memory : y.memory ≡ Script.holding s machine
  pub represents : Represents s x.0 machine

-- the script's steps after a step that left the machine m and replied so
unfoldable met_after : Settings → Machine → Stepped → Script.Response → Script.Response
met_after s m Stepped.Moved later = later
met_after s m (Stepped.Answered c) later = Script.response s m (Script.answered c.answer c.steps)
met_after s m (Stepped.Refused r) later = Script.response s m (Script.refused (number_of r))

steps_next : (s : Settings) (w k f : ℕ) (m : Machine)
    → Script.steps s w k (suc f) m ≡ met_after s (step s m w).0 (step s m w).1 (Script.steps s w (suc k) f (step s m w).0)
unfolding Script.steps met_after
steps_next s w k f m = by (step s m w)
  where
    by : (r : Machine × Stepped) → elim r.1 [
      | Stepped.Moved ↦ Script.steps s w (suc k) f r.0
      | Stepped.Answered c ↦ Script.response s r.0 (Script.answered c.answer c.steps)
      | Stepped.Refused x ↦ Script.response s r.0 (Script.refused (number_of x))
    ] ≡ met_after s r.0 r.1 (Script.steps s w (suc k) f r.0)
    by (m', Stepped.Moved) = refl
    by (m', Stepped.Answered c) = refl
    by (m', Stepped.Refused x) = refl

module _ (s : Settings) (range : in_range s.workers s.capacity s.depth ≡ true) (w : ℕ) where
  -- a step that replied so, then what follows
  goes-on :
      (l : List ℕ) (m : Machine) (r : Stepped) (x : List ℕ × Result Ran Refusal) (y : Script.Response) → Represents s l m
      → (r ≡ Stepped.Moved → AsSteps s x y)
      → AsSteps s (goes_on l r x) (met_after s m r y)
  unfolding goes_on met_after of_ran printed_reply
  goes-on l m Stepped.Moved x y h later = later refl
  goes-on l m (Stepped.Answered c) x y h later = record { text = refl; machine = m; memory = refl; represents = h }
  goes-on l m (Stepped.Refused r) x y h later = record { text = refl; machine = m; memory = refl; represents = h }

  represents_step : (l : List ℕ) (m : Machine) → Represents s l m → Represents s (step_words l w).0 (step s m w).0
  unfolding next
  represents_step l m h = represents_next s range l m h (stepping w) tt tt

  no_steps : (k : ℕ) (l : List ℕ) (m : Machine) → Represents s l m → AsSteps s (iterated l w k 0) (Script.steps s w k 0 m)
  unfolding iterated Script.steps of_ran printed_reply
  no_steps k l m h = record { text = refl; machine = m; memory = refl; represents = h }

  more_steps :
      (f k : ℕ) (l : List ℕ) (m : Machine) → Represents s l m
      → AsSteps s (iterated (step_words l w).0 w (suc k) f) (Script.steps s w (suc k) f (step s m w).0)
      → AsSteps s (iterated l w k (suc f)) (Script.steps s w k (suc f) m)
  unfolding iterated
  more_steps f k l m h later =
      rw (steps_next s w k f m, ← (step_alike s range l m h w).1)
      (goes-on (step_words l w).0 (step s m w).0 (step_words l w).1 _ _ (represents_step l m h) (λ g. later))

  steps_alike : (f k : ℕ) (l : List ℕ) (m : Machine) → Represents s l m → AsSteps s (iterated l w k f) (Script.steps s w k f m)
  steps_alike zero k l m h = no_steps k l m h
  steps_alike (suc f) k l m h = more_steps f k l m h (steps_alike f (suc k) _ _ (represents_step l m h))

  -- "up to k steps, 1 to 9999, ending early at an answer"
  pub run_alike : (l : List ℕ) (m : Machine) → Represents s l m → (f : ℕ) → AsSteps s (run_words l w (suc f)) (Script.steps s w 0 (suc f) m)
  unfolding by_steps
  run_alike l m h f = rw (run_iterates s range l m h w (suc f)) (steps_alike (suc f) 0 l m h)
