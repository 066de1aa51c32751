-- Laws of steps of words that pass the checks. Rests on the definition of a step.
use Prim.Native.Nat.{ℕ, ◌+◌, ◌%◌, ◌<◌}
use mathlib.Core.Path.{◌≡◌, sym, ◌∙◌, ap}
use mathlib.Core.Logic.{◌≢◌}
use mathlib.Core.Bool.{Bool, false}
use mathlib.Core.List.{List}
use borrow.Author.Tests.{eq-eqb, ne_eqb}
use Rattle.interface.specs.Numbers.{kind_none}
use Rattle.interface.specs.declared.Settings.{Settings}
use Rattle.interface.specs.declared.Stepped.{Stepped}
use Rattle.interface.specs.declared.Refusal.{Refusal}
use Rattle.fields.specs.Fields.{worker_kind, worker_steps, steps_range}
use Rattle.fields.specs.Regions.{worker_at}
use Rattle.machine.proofs.laws.Base.{if_true, if_false}
use Rattle.layout.specs.Shape.{word, strange, shape_of}
use Rattle.updates.specs.Updates.{operation_at}
use Rattle.turns.specs.Turns.{step_in, step_words}
use Rattle.layout.proofs.Checks.{both_passed}

module _ (l : List ℕ) (x : Bool) (g : Settings) (w : ℕ) (tested : x ≡ strange l) (passed : x ≡ false) (read : g ≡ shape_of l)
    (known : w < g.workers) where
  pub step-words : (m : List ℕ × Stepped) → m ≡ step_in l g w → m ≡ step_words l w
  unfolding step_words
  step-words m h = h ∙ ap (λ (s : Settings). step_in l s w) read ∙ both_passed l x g tested _ _ _ w passed read known

  module _ (p y : ℕ) (start : p ≡ worker_at g.workers w) (kind : y ≡ word l (p + worker_kind)) where
    pub step_idle : y ≡ kind_none → (l, Stepped.Refused Refusal.Idle) ≡ step_words l w
    unfolding step_in
    step_idle e = step-words _ (rw (← start) (sym (if_true _ _ (eq-eqb _ _ (sym kind ∙ e)))))

    pub step_goes :
        (m : List ℕ × Stepped) → y ≢ kind_none → m ≡ operation_at l (shape_of l) p w (word l (p + worker_steps) % steps_range)
        → m ≡ step_words l w
    unfolding step_in
    step_goes m e h = step-words m (h ∙ rw (← read, ← start) (sym (if_false _ _ (ne_eqb _ _ (λ z. e (kind ∙ z))))))
