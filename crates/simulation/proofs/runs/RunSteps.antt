-- The steps of a run, one by one, on words that mean a machine. Rests on a run as iterated steps.
use Prim.Native.Nat.{ℕ, zero, suc, ◌+◌, ◌<◌}
use native.Mathlib.Nat.{add-zero, zero-add}
use native.Mathlib.Omega.{arith}
use mathlib.Core.Path.{◌≡◌, refl, ap, ◌∙◌}
use mathlib.Core.Bool.{true}
use mathlib.Core.List.{List}
use Rattle.interface.specs.Limits.{in_range}
use Rattle.interface.specs.declared.Settings.{Settings}
use Rattle.interface.specs.declared.Stepped.{Stepped}
use Rattle.interface.specs.declared.Ran.{Ran}
use Rattle.machine.specs.Records.{Machine}
use Rattle.turns.specs.Turns.{step_words}
use Rattle.runs.specs.Runs.{run_words}
use Rattle.simulation.specs.Runs.{goes_on, iterated, by_steps, after_steps, reply_at, counting, steps_taken, ran_as, RunAsSteps}
use Rattle.simulation.proofs.Represents.{Represents}
use Rattle.simulation.proofs.runs.RunIterates.{run_iterates}
use Rattle.std.specs.Prelude.{Ok}

-- ---- for any words

module _ (w : ℕ) where
  -- the words that a step leaves
  abbrev left : List ℕ → List ℕ
  left l = (step_words l w).0

  -- of steps that are asked for, one at least is taken
  none_asked : (f : ℕ) (l : List ℕ) → steps_taken l w f ≡ 0 → f ≡ 0
  unfolding steps_taken counting
  none_asked zero l e = refl
  none_asked (suc f) l e = absurd (by (step_words l w).1 e)
    where
      by : (r : Stepped) → counting r (steps_taken (left l) w f) ≡ 0 → ⊥
      by Stepped.Moved e = omega arith
      by (Stepped.Answered c) e = omega arith
      by (Stepped.Refused r) e = omega arith

  -- the words after them
  steps_words : (f k : ℕ) (l : List ℕ) → (iterated l w k f).0 ≡ after_steps l w (steps_taken l w f)
  unfolding iterated steps_taken after_steps goes_on counting
  steps_words zero k l = refl
  steps_words (suc f) k l = by (step_words l w).1 (steps_words f (suc k) (left l))
    where
      by : (r : Stepped) → (iterated (left l) w (suc k) f).0 ≡ after_steps (left l) w (steps_taken (left l) w f)
          → (goes_on (left l) r (iterated (left l) w (suc k) f)).0 ≡ after_steps l w (counting r (steps_taken (left l) w f))
      by Stepped.Moved ih = ih
      by (Stepped.Answered c) ih = refl
      by (Stepped.Refused r) ih = refl

  -- the replies before the last
  steps_earlier : (f : ℕ) (l : List ℕ) (i : ℕ) → suc i < steps_taken l w f → reply_at l w i ≡ Stepped.Moved
  unfolding steps_taken after_steps counting
  steps_earlier zero l i h = absurd (omega arith)
  steps_earlier (suc f) l i h = by (step_words l w).1 refl i h (steps_earlier f (left l))
    where
      by : (r : Stepped) → (step_words l w).1 ≡ r → (i : ℕ) → suc i < counting r (steps_taken (left l) w f)
          → ((j : ℕ) → suc j < steps_taken (left l) w f → reply_at (left l) w j ≡ Stepped.Moved)
          → reply_at l w i ≡ Stepped.Moved
      by Stepped.Moved e zero h ih = e
      by Stepped.Moved e (suc j) h ih = ih j (omega arith)
      by (Stepped.Answered c) e i h ih = absurd (omega arith)
      by (Stepped.Refused r) e i h ih = absurd (omega arith)

  -- the last reply, and what is taken where that moved
  steps_last : (f k : ℕ) (l : List ℕ) (i : ℕ) → suc i ≡ steps_taken l w f → (iterated l w k f).1 ≡ ran_as (suc (k + i)) (reply_at l w i)
  unfolding iterated steps_taken after_steps goes_on counting ran_as
  steps_last zero k l i h = absurd (omega arith)
  steps_last (suc f) k l i h = by (step_words l w).1 refl i h (steps_last f (suc k) (left l))
    where
      nothing : (f : ℕ) → f ≡ 0 → (iterated (left l) w (suc k) f).1 ≡ Ok (Ran.Moved (suc k))
      nothing f e = rw e

      by : (r : Stepped) → (step_words l w).1 ≡ r → (i : ℕ) → suc i ≡ counting r (steps_taken (left l) w f)
          → ((j : ℕ) → suc j ≡ steps_taken (left l) w f → (iterated (left l) w (suc k) f).1 ≡ ran_as (suc (suc k + j)) (reply_at (left l) w j))
          → (goes_on (left l) r (iterated (left l) w (suc k) f)).1 ≡ ran_as (suc (k + i)) (reply_at l w i)
      by Stepped.Moved e zero h ih = nothing f (none_asked f (left l) (omega arith)) ∙ rw (e, add-zero)
      by Stepped.Moved e (suc j) h ih = ih j (omega arith) ∙ ap (λ (n : ℕ). ran_as n (reply_at (left l) w j)) (omega arith)
      by (Stepped.Answered c) e zero h ih = rw e
      by (Stepped.Answered c) e (suc j) h ih = absurd (omega arith)
      by (Stepped.Refused r) e zero h ih = rw e
      by (Stepped.Refused r) e (suc j) h ih = absurd (omega arith)

  steps_whole : (f : ℕ) (l : List ℕ) (i : ℕ) → suc i ≡ steps_taken l w f → reply_at l w i ≡ Stepped.Moved → steps_taken l w f ≡ f
  unfolding steps_taken after_steps counting
  steps_whole zero l i h e = refl
  steps_whole (suc f) l i h q = by (step_words l w).1 refl i h q (steps_whole f (left l))
    where
      by : (r : Stepped) → (step_words l w).1 ≡ r → (i : ℕ) → suc i ≡ counting r (steps_taken (left l) w f) → reply_at l w i ≡ Stepped.Moved
          → ((j : ℕ) → suc j ≡ steps_taken (left l) w f → reply_at (left l) w j ≡ Stepped.Moved → steps_taken (left l) w f ≡ f)
          → counting r (steps_taken (left l) w f) ≡ suc f
      by Stepped.Moved e zero h q ih = omega (arith, none_asked f (left l) (omega arith))
      by Stepped.Moved e (suc j) h q ih = ap suc (ih j (omega arith) q)
      by (Stepped.Answered c) e zero h q ih = absurd (let z : ◌≡◌ {A = ℕ} 0 1 = cc in omega arith)
      by (Stepped.Answered c) e (suc j) h q ih = absurd (omega arith)
      by (Stepped.Refused r) e zero h q ih = absurd (let z : ◌≡◌ {A = ℕ} 0 1 = cc in omega arith)
      by (Stepped.Refused r) e (suc j) h q ih = absurd (omega arith)

  -- where a run is iterated steps, it is those steps
  steps_of : (l : List ℕ) (most : ℕ) → run_words l w most ≡ by_steps l w most → RunAsSteps l w most
  unfolding by_steps steps_taken after_steps
  steps_of l zero e = record {
    words = ap (λ r. r.0) e;
    earlier = λ i h. absurd (omega arith);
    last = λ i h. absurd (omega arith);
    whole = λ i h q. refl;
    nothing = λ z. ap (λ r. r.1) e;
  }
  steps_of l (suc f) e = record {
    words = ap (λ r. r.0) e ∙ steps_words (suc f) 0 l;
    earlier = steps_earlier (suc f) l;
    last = λ i h. ap (λ r. r.1) e ∙ steps_last (suc f) 0 l i h ∙ rw zero-add;
    whole = steps_whole (suc f) l;
    nothing = λ z. absurd (omega arith);
  }

-- ---- on words that mean a machine

module _ (s : Settings) (range : in_range s.workers s.capacity s.depth ≡ true) where
  pub run_as_steps : (l : List ℕ) (m : Machine) → Represents s l m → (w most : ℕ) → RunAsSteps l w most
  run_as_steps l m h w most = steps_of w l most (run_iterates s range l m h w most)
