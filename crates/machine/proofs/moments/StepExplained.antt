-- Every accepted step of a good machine is explained by the plain table.
-- Rests on the step as a transition, and on the explanation of each kind of transition.
use Prim.Native.Nat.{ℕ, ◌≤◌, ◌<◌}
use native.Mathlib.Omega.{arith}
use mathlib.Core.Path.{◌≡◌, sym, subst}
use mathlib.Core.Bool.{true}
use Rattle.std.specs.Prelude.{Option, Some}
use Rattle.interface.specs.Limits.{in_range, Range}
use Rattle.interface.proofs.Laws.{range_of}
use Rattle.interface.specs.declared.Settings.{Settings}
use Rattle.interface.specs.declared.Answer.{Answer}
use Rattle.interface.specs.declared.Stepped.{Stepped}
use Rattle.machine.specs.Sequential.{Table, Operation}
use Rattle.machine.specs.Records.{Cells, Machine}
use Rattle.machine.specs.Steps.{step, done}
use Rattle.machine.proofs.Openings.{step_made}
use Rattle.machine.specs.Counter.{read_s, read_t, swap, slot_b, copy_d, swap_d, slot_d, state, read_d, flip, check_d, check_s, in_b, in_d}
use Rattle.machine.proofs.invariant.CounterFacts.{under_after_b, under_after_d}
use Rattle.machine.specs.Tasks.{Task, tasks_of}
use Rattle.machine.proofs.invariant.Inv.{Inv}
use Rattle.machine.proofs.invariant.Transitions.{Transition, looks, finds, announces, reads_d, flips, reads_s, reads_t, slots_b, last_b, swaps, misses, checks_d, answers, passes, copies, slots_d, last_d, resizes, last_state, redirects, misses_d}
use Rattle.machine.proofs.invariant.StepTransitions.{effect_of, step_transition, tasks_after}
use Rattle.machine.proofs.invariant.Tasks.{Good, not_over}
use Rattle.machine.proofs.moments.Explain.{Parts, Explained, reply_to, ExplainedStep}
use Rattle.machine.proofs.moments.ExplainSteps.{explained_under_way, explained_pass, explained_look, explained_announce, explained_flip, explained_find, explained_answer}
use Rattle.machine.proofs.moments.ExplainSwap.{explained_swap}
use Rattle.machine.proofs.moments.ExplainRedirect.{explained_redirect}

-- each kind of transition
module _ (s : Settings) (small : s.depth ≤ 32) (w : ℕ) (wn : w < s.workers) (c : Cells) (tasks : ℕ → Task) (i : Inv s c tasks)
    (t : Table) (parts : Parts c t) where
  pub transition_explained :
      {c' : Cells} {k' : Task} {a : Option Answer} → Transition s w c (tasks w) c' k' a → ExplainedStep s w c tasks t c' k' a
  transition_explained (looks e) = explained_look s w wn c tasks i t parts e
  transition_explained (finds e) = explained_find s w wn c tasks i t parts e
  transition_explained (announces u e q) = explained_announce s w wn c tasks i t parts u e q
  transition_explained (flips p e) = explained_flip s w wn c tasks i t parts p e
  transition_explained (swaps p r e f) = explained_swap s small w wn c tasks i p r e f t parts
  transition_explained (redirects p r e f) = explained_redirect s small w wn c tasks i p r e f t parts
  transition_explained (answers p x a e q) = explained_answer s w wn c tasks i t parts p x a e q
  transition_explained (passes p x e q) = explained_pass s w wn c tasks i t parts p x e q
  transition_explained (reads_d p e) = explained_under_way s w wn c tasks i t parts (read_d p) (flip p) _ e tt tt
  transition_explained (reads_s p r e) = explained_under_way s w wn c tasks i t parts (in_b p r read_s) _ _ e tt tt
  transition_explained (reads_t p r e) = explained_under_way s w wn c tasks i t parts (in_b p r read_t) _ _ e tt tt
  transition_explained (slots_b p r j e l) = explained_under_way s w wn c tasks i t parts (in_b p r (slot_b j)) _ _ e tt tt
  transition_explained (last_b p r j e l) = explained_under_way s w wn c tasks i t parts (in_b p r (slot_b j)) _ _ e tt tt
  transition_explained (misses p r e f) = explained_under_way s w wn c tasks i t parts (in_b p r swap) _ _ e tt (under_after_b p r)
  transition_explained (checks_d p x e) = explained_under_way s w wn c tasks i t parts (check_d p x) (check_s p x) _ e tt tt
  transition_explained (copies p r e) = explained_under_way s w wn c tasks i t parts (in_d p r copy_d) _ _ e tt tt
  transition_explained (slots_d p r j e l) = explained_under_way s w wn c tasks i t parts (in_d p r (slot_d j)) _ _ e tt tt
  transition_explained (last_d p r j e l) = explained_under_way s w wn c tasks i t parts (in_d p r (slot_d j)) _ _ e tt tt
  transition_explained (resizes p r j e l) = explained_under_way s w wn c tasks i t parts (in_d p r (state j)) _ _ e tt tt
  transition_explained (last_state p r j e l q) = explained_under_way s w wn c tasks i t parts (in_d p r (state j)) _ _ e tt tt
  transition_explained (misses_d p r e f) = explained_under_way s w wn c tasks i t parts (in_d p r swap_d) _ _ e tt (under_after_d p r)

module _ (s : Settings) (range : in_range s.workers s.capacity s.depth ≡ true) where
  limits : Range s.workers s.capacity s.depth
  limits = range_of s.workers s.capacity s.depth range

  pub step_explained :
      (m : Machine) (j : ℕ) (o : Operation) (t : Table) → Good s m → Parts m.cells t → j < s.workers → (m.workers j).operation ≡ Some o
      → Explained s m.cells (step s m j).0.cells (tasks_of s m) (tasks_of s (step s m j).0) (reply_to j (effect_of s m j o).answer) t
  unfolding done
  step_explained m j o t g p jn e =
      subst (λ (x : Machine × Stepped). To x.0.cells (tasks_of s x.0)) (sym (step_made s m j jn e))
      (subst (To (effect_of s m j o).contents) (sym (tasks_after s m j o))
      (transition_explained s (omega (arith, limits.greatest-depth)) j jn m.cells (tasks_of s m) g t p
      (step_transition s m j o limits.least-workers e (not_over s m j jn g))))
    where
      To : Cells → (ℕ → Task) → Type 0
      To c' tasks' = Explained s m.cells c' (tasks_of s m) tasks' (reply_to j (effect_of s m j o).answer) t
