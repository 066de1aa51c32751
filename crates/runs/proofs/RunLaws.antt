-- Laws of runs: its turns, its ends, and a run of words that pass the checks. Rests on the definition of a run.
use Prim.Native.Nat.{ℕ, suc, ◌+◌, ◌-◌, ◌%◌, ◌≤◌, ◌<◌}
use native.Mathlib.Numerals.{add-one}
use native.Mathlib.Omega.{arith}
use mathlib.Core.Path.{◌≡◌, sym, ◌∙◌, ap}
use mathlib.Core.Logic.{◌≢◌}
use mathlib.Core.Bool.{Bool, false}
use mathlib.Core.List.{List}
use lib.Dec.{eqb}
use borrow.Author.Tests.{eq-eqb, ne_eqb}
use Rattle.interface.specs.Numbers.{kind_none}
use Rattle.interface.specs.declared.Settings.{Settings}
use Rattle.interface.specs.declared.Stepped.{Stepped}
use Rattle.interface.specs.declared.Completion.{Completion}
use Rattle.interface.specs.declared.Refusal.{Refusal}
use Rattle.interface.specs.declared.Ran.{Ran}
use Rattle.fields.specs.Fields.{worker_kind, worker_steps, steps_range}
use Rattle.fields.specs.Regions.{worker_at}
use Rattle.machine.specs.Choice.{when◌then◌else◌}
use Rattle.machine.proofs.laws.Base.{if_true, if_false}
use Rattle.memory.specs.Words.{least}
use Rattle.layout.specs.Shape.{word, strange, shape_of}
use Rattle.updates.specs.Updates.{operation_at}
use Rattle.runs.specs.Runs.{last_of, or_else, longest_run, run_in, run_words}
use Rattle.layout.proofs.Checks.{both_passed}
use Rattle.std.specs.Prelude.{Result, Ok, Err}

-- ---- a run of worker w, whose record is at p: k of at most c steps are taken

pub run_start : (l : List ℕ) (s : Settings) (w c : ℕ) → run_in l s w 0 (c - 0) ≡ run_in l s w 0 c
run_start l s w c = let z : c - 0 ≡ c = omega arith in rw z

module _ (l : List ℕ) (s : Settings) (w k c : ℕ) where
  pub run_end : c ≤ k → (l, Ok (Ran.Moved k)) ≡ run_in l s w k (c - k)
  unfolding run_in
  run_end h = let e : c - k ≡ 0 = omega arith in rw e

  module _ (p x : ℕ) (start : p ≡ worker_at s.workers w) (kind : x ≡ word l (p + worker_kind)) (more : k < c) where
    next : c - k ≡ suc (c - (k + 1))
    next = omega arith

    pub run_idle : x ≡ kind_none → (l, Ok (Ran.Moved k)) ≡ run_in l s w k (c - k)
    unfolding run_in
    run_idle e = rw (next, ← start) (sym (if_true _ _ (eq-eqb _ _ (sym kind ∙ e))))

    module _ (m : List ℕ) (r : Stepped) (goes : x ≢ kind_none)
        (step : (m, r) ≡ operation_at l s p w (word l (p + worker_steps) % steps_range)) where
      run_step : run_in l s w k (c - k) ≡ or_else m (last_of k r) (run_in m s w (k + 1) (c - (k + 1)))
      unfolding run_in
      run_step = rw (next, ← start, ← step, add-one) (if_false _ _ (ne_eqb _ _ (λ z. goes (kind ∙ z))))

      pub run_moved : r ≡ Stepped.Moved → run_in m s w (k + 1) (c - (k + 1)) ≡ run_in l s w k (c - k)
      unfolding or_else last_of
      run_moved e = rw (run_step, e)

      pub run_answered : (o : Completion) → r ≡ Stepped.Answered o → (m, Ok (Ran.Answered o)) ≡ run_in l s w k (c - k)
      unfolding or_else last_of
      run_answered o e = rw (run_step, e)

      pub run_refused : (o : Refusal) → r ≡ Stepped.Refused o → (m, Ok (Ran.Moved k)) ≡ run_in l s w k (c - k)
      unfolding or_else last_of
      run_refused o e = rw (run_step, e)

-- ---- whole calls, of words that pass the checks

-- a run of worker w, whose settings are known
run_on : List ℕ → ℕ → ℕ → Settings → List ℕ × Result Ran Refusal
run_on l w most s =
    when eqb (word l (worker_at s.workers w + worker_kind)) kind_none
    then (l, Err Refusal.Idle)
    else run_in l s w 0 (least most longest_run)

module _ (l : List ℕ) (x : Bool) (g : Settings) (w : ℕ) (tested : x ≡ strange l) (passed : x ≡ false) (read : g ≡ shape_of l)
    (known : w < g.workers) where
  module _ (p y : ℕ) (start : p ≡ worker_at g.workers w) (kind : y ≡ word l (p + worker_kind)) where
    run-words :
        (m : List ℕ × Result Ran Refusal) (most : ℕ) → m ≡ run_on l w most g → m ≡ run_words l w most
    unfolding run_words run_on
    run-words m most h = h ∙ ap (run_on l w most) read ∙ both_passed l x g tested _ _ _ w passed read known

    pub run_none : (most : ℕ) → y ≡ kind_none → (l, Err Refusal.Idle) ≡ run_words l w most
    unfolding run_on
    run_none most e = run-words _ most (rw (← start) (sym (if_true _ _ (eq-eqb _ _ (sym kind ∙ e)))))

    pub run_goes :
        (m : List ℕ × Result Ran Refusal) (most c : ℕ) → y ≢ kind_none → c ≡ least most longest_run → m ≡ run_in l (shape_of l) w 0 c → m ≡ run_words l w most
    unfolding run_on
    run_goes m most c e n h =
        run-words m most (h ∙ ap (run_in l (shape_of l) w 0) n ∙ rw (← read, ← start) (sym (if_false _ _ (ne_eqb _ _ (λ z. e (kind ∙ z))))))
