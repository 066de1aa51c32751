-- A run on words that mean a machine is its steps: an operation ends before the run's bound of 256 steps is met.
-- Rests on the steps' meaning and on the machine's bound of an operation's own steps.
use Prim.Native.Nat.{ℕ, zero, suc, ◌+◌, ◌*◌, ◌%◌, ◌≤◌, ◌<◌}
use native.Mathlib.Omega.{arith}
use native.Mathlib.Decide.{dec_lt}
use mathlib.Core.Path.{◌≡◌, refl, ap, sym, ◌∙◌}
use mathlib.Core.Logic.{◌≢◌, by_cases}
use mathlib.Core.Bool.{true}
use mathlib.Core.List.{List}
use Rattle.std.specs.Prelude.{Option, Some, None, Result, Err}
use lib.Dec.{eqb}
use borrow.Author.Tests.{le-leb, lt-leb}
use Rattle.interface.specs.Limits.{in_range}
use Rattle.interface.specs.Numbers.{kind_none}
use Rattle.interface.proofs.Laws.{range_of}
use Rattle.interface.specs.declared.Settings.{Settings}
use Rattle.interface.specs.declared.Answer.{Answer}
use Rattle.interface.specs.declared.Refusal.{Refusal}
use Rattle.interface.specs.declared.Stepped.{Stepped}
use Rattle.interface.specs.declared.Ran.{Ran}
use Rattle.machine.specs.Choice.{when◌then◌else◌}
use Rattle.machine.specs.Sequential.{Operation, update, lookup}
use Rattle.machine.specs.Records.{Cells, Machine}
use Rattle.machine.specs.Steps.{Effect, access, perform, counted, check_of, step_reply, done, step}
use Rattle.machine.specs.Systems.{stepping, next}
use Rattle.machine.proofs.laws.Base.{lt_elim, if_eq, if_ne, assign_at}
use Rattle.machine.proofs.Openings.{step_made, done_never}
use Rattle.machine.proofs.invariant.Tasks.{update_under_way, lookup_under_way}
use Rattle.fields.specs.Fields.{worker_kind, worker_steps, steps_range}
use Rattle.fields.specs.Regions.{worker_at, start_of}
use Rattle.rules.specs.Rules.{descriptor_in}
use Rattle.memory.specs.Words.{least}
use Rattle.layout.specs.Shape.{word}
use Rattle.updates.specs.Updates.{operation_at}
use Rattle.turns.specs.Turns.{step_in, step_words}
use Rattle.runs.specs.Runs.{last_of, or_else, run_in, longest_run, run_words}
use Rattle.simulation.specs.Runs.{goes_on, iterated, checked_only, by_steps}
use Rattle.simulation.proofs.frames.Entering.{is_idle, is_busy, idle_enters}
use Rattle.simulation.proofs.OpeningMeans.{shape_is, strange_never}
use Rattle.simulation.proofs.Represents.{Represents, step_alike, represents_next}

-- ---- a step of a worker whose operation is under way

module _ (s : Settings) (m : Machine) (w : ℕ) (known : w < s.workers) {o : Operation} (asked : (m.workers w).operation ≡ Some o) where
  never_refused : {r : Refusal} → (step s m w).1 ≡ Stepped.Refused r → ⊥
  never_refused {r} e = done_never m w _ _ (ap (λ (x : Machine × Stepped). x.1) (sym (step_made s m w known asked)) ∙ e)

  -- after a step that moved, the worker with one own step more
  moved_worker :
      (step s m w).1 ≡ Stepped.Moved
      → (((step s m w).0.workers w).operation ≡ Some o) × (((step s m w).0.workers w).steps ≡ suc (m.workers w).steps)
  unfolding done counted step_reply
  moved_worker = rw (step_made s m w known asked) (by (perform (access s w (m.workers w) o) m.cells) _ refl)
    where
      c : ℕ
      c = check_of s (m.workers w) o

      by : (e : Effect Cells) (a : Option Answer) → e.answer ≡ a → (done m w c e).1 ≡ Stepped.Moved
          → (((done m w c e).0.workers w).operation ≡ Some o) × (((done m w c e).0.workers w).steps ≡ suc (m.workers w).steps)
      by e None f g = rw (assign_at, f) (asked, refl)
      by e (Some a) f g = absurd (let z : ◌≡◌ {A = ℕ} 0 1 = cc in omega arith)

-- ---- one step of a run

-- runs that differ only after a step that moved
same_later : (l : List ℕ) (r : Stepped) {x y : List ℕ × Result Ran Refusal} → (r ≡ Stepped.Moved → x ≡ y) → goes_on l r x ≡ goes_on l r y
unfolding goes_on
same_later l Stepped.Moved h = h refl
same_later l (Stepped.Answered c) h = refl
same_later l (Stepped.Refused r) h = refl

same_run :
    (l : List ℕ) (k : ℕ) (r : Stepped) {x y : List ℕ × Result Ran Refusal} → ((z : Refusal) → r ≡ Stepped.Refused z → ⊥) → (r ≡ Stepped.Moved → x ≡ y)
    → or_else l (last_of k r) x ≡ goes_on l r y
unfolding or_else last_of goes_on
same_run l k Stepped.Moved q h = h refl
same_run l k (Stepped.Answered c) q h = refl
same_run l k (Stepped.Refused r) q h = absurd (q r refl)

-- a run whose first step is not refused, and one whose first step is
accepted_run :
    (l : List ℕ) (w most : ℕ) → ((r : Refusal) → (step_words l w).1 ≡ Stepped.Refused r → ⊥) → iterated l w 0 most ≡ by_steps l w most
unfolding by_steps iterated checked_only
accepted_run l w zero h = by (step_words l w).1 h
  where
    by : (x : Stepped) → ((r : Refusal) → x ≡ Stepped.Refused r → ⊥) → iterated l w 0 0 ≡ (l, checked_only x)
    by Stepped.Moved h = refl
    by (Stepped.Answered c) h = refl
    by (Stepped.Refused r) h = absurd (h r refl)
accepted_run l w (suc f) h = refl

refused_run : (l : List ℕ) (w most : ℕ) {r : Refusal} → step_words l w ≡ (l, Stepped.Refused r) → by_steps l w most ≡ (l, Err r)
unfolding by_steps iterated goes_on checked_only
refused_run l w zero e = rw e
refused_run l w (suc f) e = rw e

-- ---- on words

-- the words mean a good machine in which worker w's operation is under way
record Busy (s : Settings) (l : List ℕ) (m : Machine) (w : ℕ) : Type 0 where
  represents : Represents s l m
  known : w < s.workers
  operation : Operation
  asked : (m.workers w).operation ≡ Some operation

module _ (s : Settings) (range : in_range s.workers s.capacity s.depth ≡ true) where
  module _ (l : List ℕ) (m : Machine) (w : ℕ) where
    -- what a step on words that mean a machine is, past the checks of 8 and 3
    step_is : Represents s l m → w < s.workers → step_words l w ≡ step_in l s w
    unfolding step_words when◌then◌else◌
    step_is h known = rw (strange_never s range l m h.means, shape_is s range l m h.means, lt-leb s.workers w known)

    run_is :
        Represents s l m → w < s.workers → (most : ℕ)
        → run_words l w most ≡ (
        when eqb (word l (worker_at s.workers w + worker_kind)) kind_none then (l, Err Refusal.Idle)
        else run_in l s w 0 (least most longest_run))
    unfolding run_words when◌then◌else◌
    run_is h known most = rw (strange_never s range l m h.means, shape_is s range l m h.means, lt-leb s.workers w known)

    module _ (b : Busy s l m w) where
      abbrev p : ℕ
      p = worker_at s.workers w

      abbrev made : List ℕ × Stepped
      made = operation_at l s p w (word l (p + worker_steps) % steps_range)

      busy_word : word l (p + worker_kind) ≢ kind_none
      unfolding start_of descriptor_in
      busy_word = is_busy (descriptor_in l p) b.operation ((b.represents.means.workers w b.known).operation ∙ b.asked)

      busy_step : step_words l w ≡ made
      unfolding step_in
      busy_step = step_is b.represents b.known ∙ if_ne (word l (p + worker_kind)) kind_none _ _ busy_word

      busy_never : {r : Refusal} → (step_words l w).1 ≡ Stepped.Refused r → ⊥
      busy_never e = never_refused s m w b.known b.asked (sym (step_alike s range l m b.represents w).1 ∙ e)

      few : (m.workers w).steps < 12 * s.workers + 33
      few = by b.operation b.asked
        where
          by : (o : Operation) → (m.workers w).operation ≡ Some o → (m.workers w).steps < 12 * s.workers + 33
          by (update u) e = update_under_way s range m w u b.known b.represents.good e
          by (lookup a) e = omega (arith, lookup_under_way s range m w a b.known b.represents.good e)

      busy_next : (step_words l w).1 ≡ Stepped.Moved → Busy s (step_words l w).0 (step s m w).0 w
      unfolding next
      busy_next e = record {
        represents = represents_next s range l m b.represents (stepping w) tt tt;
        known = b.known;
        operation = b.operation;
        asked = (moved_worker s m w b.known b.asked (sym (step_alike s range l m b.represents w).1 ∙ e)).0;
      }

      more_steps : (step_words l w).1 ≡ Stepped.Moved → ((step s m w).0.workers w).steps ≡ suc (m.workers w).steps
      more_steps e = (moved_worker s m w b.known b.asked (sym (step_alike s range l m b.represents w).1 ∙ e)).1

  module _ (w : ℕ) where
    -- the run's own steps are steps
    run-in : (f k : ℕ) (l : List ℕ) (m : Machine) → Busy s l m w → run_in l s w k f ≡ iterated l w k f
    unfolding run_in iterated
    run-in zero k l m b = refl
    run-in (suc f) k l m b =
        if_ne (word l (worker_at s.workers w + worker_kind)) kind_none _ _ (busy_word l m w b)
        ∙ ap (λ (x : List ℕ × Stepped). or_else x.0 (last_of k x.1) (run_in x.0 s w (suc k) f)) (sym (busy_step l m w b))
        ∙ same_run (step_words l w).0 k (step_words l w).1 (λ r e. busy_never l m w b e) (λ e. run-in f (suc k) _ _ (busy_next l m w b e))

    -- more steps than an operation can take are not taken
    enough :
        (f g k : ℕ) (l : List ℕ) (m : Machine) → Busy s l m w → 12 * s.workers + 33 ≤ (m.workers w).steps + f → f ≤ g
        → iterated l w k f ≡ iterated l w k g
    unfolding iterated
    enough zero g k l m b h q = absurd (omega (arith, few l m w b))
    enough (suc f) zero k l m b h q = absurd (omega arith)
    enough (suc f) (suc g) k l m b h q =
        same_later (step_words l w).0 (step_words l w).1
        (λ e. enough f g (suc k) _ _ (busy_next l m w b e) (omega (arith, more_steps l m w b e)) (omega arith))

    module _ (l : List ℕ) (m : Machine) (most : ℕ) where
      -- the bound of a run's steps is never met
      unbounded : Busy s l m w → iterated l w 0 (least most longest_run) ≡ iterated l w 0 most
      unfolding least
      unbounded b = lt_elim (λ (f : ℕ). iterated l w 0 f ≡ iterated l w 0 most) most longest_run most longest_run (λ q. refl)
          (λ q. enough longest_run most 0 l m b (omega (arith, range_of s.workers s.capacity s.depth range)) q)

      busy_run : Busy s l m w → run_words l w most ≡ by_steps l w most
      busy_run b =
          run_is l m w b.represents b.known most
          ∙ if_ne (word l (worker_at s.workers w + worker_kind)) kind_none _ _ (busy_word l m w b)
          ∙ run-in (least most longest_run) 0 l m b ∙ unbounded b ∙ accepted_run l w most (λ r e. busy_never l m w b e)

      idle_run : Represents s l m → w < s.workers → (m.workers w).operation ≡ None → run_words l w most ≡ by_steps l w most
      unfolding start_of descriptor_in
      idle_run h known e =
          let p : ℕ = worker_at s.workers w in
          let idle : word l (p + worker_kind) ≡ kind_none = is_idle (descriptor_in l p) ((h.means.workers w known).operation ∙ e) in
          run_is l m w h known most ∙ if_eq (word l (p + worker_kind)) kind_none _ _ idle
          ∙ sym (refused_run l w most (step_is l m w h known ∙ idle_enters s range l m h.means h.good w known e))

      stranger_run : Represents s l m → s.workers ≤ w → run_words l w most ≡ by_steps l w most
      unfolding step_words run_words when◌then◌else◌
      stranger_run h beyond =
          let e : step_words l w ≡ (l, Stepped.Refused Refusal.Stranger) =
          rw (strange_never s range l m h.means, shape_is s range l m h.means, le-leb s.workers w beyond) in
          let f : run_words l w most ≡ (l, Err Refusal.Stranger) =
          rw (strange_never s range l m h.means, shape_is s range l m h.means, le-leb s.workers w beyond) in
          f ∙ sym (refused_run l w most e)

  pub run_iterates : (l : List ℕ) (m : Machine) → Represents s l m → (w most : ℕ) → run_words l w most ≡ by_steps l w most
  run_iterates l m h w most =
      by_cases (dec_lt w s.workers) (λ known. by known (m.workers w).operation refl) (λ d. stranger_run w l m most h (omega arith))
    where
      by : w < s.workers → (o : Option Operation) → (m.workers w).operation ≡ o → run_words l w most ≡ by_steps l w most
      by known None e = idle_run w l m most h known e
      by known (Some o) e = busy_run w l m most (record { represents = h; known = known; operation = o; asked = e })
