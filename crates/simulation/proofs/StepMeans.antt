-- Every step on words that mean a machine does to them what it does to the machine. Rests on the steps, one by one.
use Prim.Native.Nat.{ℕ, suc}
use mathlib.Core.Path.{◌≡◌, refl}
use mathlib.Core.List.{List}
use Rattle.std.specs.Prelude.{Option, Some, None}
use native.Mathlib.Omega.{arith}
use Rattle.interface.specs.declared.Settings.{Settings}
use Rattle.interface.specs.declared.Answer.{Answer}
use Rattle.machine.specs.Sequential.{Operation}
use Rattle.machine.specs.Records.{Cells, Reads, Machine}
use Rattle.machine.specs.Steps.{counted, step}
use Rattle.machine.specs.Counter.{slot_b, swap, slot_d, swap_d, state}
use Rattle.machine.specs.Tasks.{Task, task_of, tasks_of}
use Rattle.machine.proofs.invariant.Transitions.{Transition, looks, finds, announces, reads_d, flips, reads_s, reads_t, slots_b, last_b, swaps, misses, checks_d, answers, passes, copies, slots_d, last_d, resizes, last_state, redirects, misses_d}
use Rattle.turns.specs.Turns.{step_in}
use Rattle.simulation.specs.Meaning.{Meaning}
use Rattle.simulation.proofs.frames.Entering.{simulated, simulated_idle}
use Rattle.simulation.proofs.frames.OwnWorker.{Ready, Next}
use Rattle.simulation.proofs.own.OwnSteps.{looks_means, reads_d_means, reads_s_means, reads_t_means, slot_b_means, misses_means, checks_d_means, copies_means, slot_d_means, misses_d_means}
use Rattle.simulation.proofs.cells.CellSteps.{announces_means, flips_means, swaps_means}
use Rattle.simulation.proofs.swap.Redirects.{redirects_means}
use Rattle.simulation.proofs.own.MarkSteps.{state_means}
use Rattle.simulation.proofs.own.EndSteps.{finds_means, answers_means, passes_means}

module _ {s : Settings} {l : List ℕ} {m : Machine} {w : ℕ} (ready : Ready s l m w) where
  transition_means :
      (c : Cells) (k : Task) (a : Option Answer) → Transition s w m.cells (tasks_of s m w) c k a
      → (y : Reads) → task_of s.workers (counted (m.workers w) y a) ≡ k → Next ready c y a
  transition_means _ _ _ (looks e) = looks_means ready e
  transition_means _ _ _ (finds e) = finds_means ready e
  transition_means _ _ _ (announces u e q) = announces_means ready u e q
  transition_means _ _ _ (reads_d p e) = reads_d_means ready p e
  transition_means _ _ _ (flips p e) = flips_means ready p e
  transition_means _ _ _ (reads_s p r e) = reads_s_means ready p r e
  transition_means _ _ _ (reads_t p r e) = reads_t_means ready p r e
  transition_means _ _ _ (slots_b p r i e b) = slot_b_means ready p r i (slot_b (suc i)) e
  transition_means _ _ _ (last_b p r i e b) = slot_b_means ready p r i swap e
  transition_means _ _ _ (swaps p r e f) = swaps_means ready p r e f
  transition_means _ _ _ (misses p r e f) = misses_means ready p r e f
  transition_means _ _ _ (checks_d p x e) = checks_d_means ready p x e
  transition_means _ _ _ (answers p x a e q) = answers_means ready p x e a q
  transition_means _ _ _ (passes p x e q) = passes_means ready p x e q
  transition_means _ _ _ (copies p r e) = copies_means ready p r e
  transition_means _ _ _ (slots_d p r i e b) = slot_d_means ready p r i (slot_d (suc i)) e
  transition_means _ _ _ (last_d p r i e b) = slot_d_means ready p r i (state 0) e
  transition_means _ _ _ (resizes p r i e b) = state_means ready p r i e (omega arith) (state (suc i)) (λ j h g. omega arith)
  transition_means _ _ _ (last_state p r i e b c) = state_means ready p r i e b swap_d (λ j h g. h)
  transition_means _ _ _ (redirects p r e f) = redirects_means ready p r e f
  transition_means _ _ _ (misses_d p r e f) = misses_d_means ready p r e f

  pub step_means : Meaning s (step_in l s w).0 (step s m w).0 × ((step_in l s w).1 ≡ (step s m w).1)
  step_means = by (m.workers w).operation refl
    where
      by :
          (o : Option Operation) → (m.workers w).operation ≡ o
          → Meaning s (step_in l s w).0 (step s m w).0 × ((step_in l s w).1 ≡ (step s m w).1)
      by None e = simulated_idle s ready.range l m ready.means ready.good w ready.known e
      by (Some o) e = simulated s ready.range l m ready.means ready.good w ready.known o e transition_means
