-- The directory swap that succeeds, on the words, means the machine's.
-- Rests on the marked buckets resolved in place, and on what words that stand for the working copy mean.
use Prim.Native.Nat.{ℕ, ◌+◌, ◌<◌}
use native.Mathlib.Omega.{arith}
use mathlib.Core.Path.{◌≡◌, refl, ap, sym, ◌∙◌, subst, subst⁻¹}
use mathlib.Core.Logic.{inl, inr}
use mathlib.Core.Bool.{or-false}
use mathlib.Core.List.{List}
use Rattle.std.specs.Prelude.{None}
use lib.Dec.{eqb}
use lib.ListN.{length, set}
use borrow.Author.Tests.{le-ltb}
use Rattle.interface.specs.declared.Settings.{Settings}
use Rattle.machine.specs.Choice.{when◌then◌else◌, assign}
use Rattle.machine.specs.Records.{Copy, Slot, Cells, Reads, Worker, Machine}
use Rattle.machine.specs.DirectoryPass.{leaf_of}
use Rattle.fields.specs.Fields.{header_number, worker_directory, worker_marks}
use Rattle.fields.specs.Regions.{words_needed, start_of, worker}
use Rattle.machine.specs.Steps.{counted, step_reply}
use Rattle.machine.proofs.laws.Base.{if_eq, eq_elim}
use Rattle.machine.specs.Counter.{Two, in_d, swap_d}
use Rattle.machine.proofs.invariant.Counter.{after_d}
use Rattle.machine.specs.Tasks.{Task, leaf, DirectoryFresh, IsMade, task_of, tasks_of}
use Rattle.machine.proofs.invariant.Inv.{leaf_body, ResolvedTo, KeptOrResolved}
use Rattle.machine.proofs.invariant.Transitions.{redirected_cells}
use Rattle.layout.specs.Shape.{word}
use Rattle.renumbering.specs.Numbers.{fresh_directory}
use Rattle.directory.specs.Directory.{resolved_at, nothing_to_split, redirected_at}
use Rattle.simulation.specs.Meaning.{at, current, HasDirectory, HasWork, Marked, Marks, Meaning}
use Rattle.simulation.proofs.frames.Frames.{own_head}
use Rattle.simulation.proofs.frames.Entering.{raised}
use Rattle.simulation.proofs.frames.OwnWorker.{worker_means, Ready, Next, slots_kept, own₁, beside₁, announced-at, plan_step}
use Rattle.simulation.proofs.swap.DirectorySwapped.{means₁, work, made_leaf, directed_keeps, directory_swapped}
use Rattle.machine.proofs.invariant.Preservation.{goes}
use Rattle.updates.specs.Updates.{update_at}
use Rattle.simulation.proofs.swap.Resolving as Resolving
use Rattle.simulation.proofs.swap.Resolving.{Start, Resolved, resolves, unmarked}

module _ {s : Settings} {l : List ℕ} {m : Machine} {w : ℕ} (ready : Ready s l m w) where
  abbrev k : Task
  k = tasks_of s m w

  abbrev c : Cells
  c = m.cells

  abbrev l₁ : List ℕ
  l₁ = raised s l w (m.workers w).steps

  -- where the worker's record is
  abbrev q : ℕ
  q = start_of s (worker w)

  abbrev slots : ℕ → Slot
  slots = (m.workers w).reads.slots

  abbrev o : Copy
  o = (m.workers w).reads.copy

  -- the worker with the step counted
  abbrev v : Worker
  v = counted (m.workers w) (m.workers w).reads None

  marks_same : at s l₁ (worker w) worker_marks ≡ at s l (worker w) worker_marks
  marks_same = beside₁ ready worker_marks (omega arith) (λ e. omega arith)

  module _ (p r : Two) (here : k.pc ≡ in_d p r swap_d) (fresh : DirectoryFresh c k)
      (next : (task_of s.workers v).pc ≡ after_d p r) where
    abbrev means₀ : Meaning s l₁ (record { cells = c; workers = assign m.workers w v })
    means₀ = means₁ ready p r here fresh next

    marks : Marks s l m w
    marks = (worker_means ready).marks (subst⁻¹ HasWork here tt) fresh

    -- a mark on the words is one of the working copy
    marked : (i a : ℕ) → i < s.workers → Resolving.Marks s l₁ c w slots o i a → Marked s l m w a
    marked i a h e = record { by = i; below = h; set = rw marks_same at e.marked; here = e.here }

    start : Start s l₁ c w slots o
    start = record {
      swap_ready = record {
        range = ready.range;
        enough = means₀.lent;
        keeps = directed_keeps ready p r here fresh next;
        known = ready.known;
        seen = slots_kept ready l₁ (λ i h b. beside₁ ready i b (λ e. omega arith));
      };
      coherent = ready.good.directory;
      directory = means₀.directory;
      apart = λ a e t u h g. means₀.apart t u (current a h) (current e g);
      depth = means₀.depth;
      grown = λ i a h e. grown a (marks.to a (marked i a h e)) (work ready p r here fresh next a);
      once = λ i j a h g e f. marks.once i j h g (rw marks_same at e.marked) (rw marks_same at f.marked) (e.here ∙ sym f.here);
      full = λ i h e f. marks.full i h (rw marks_same at e) f;
    }
      where
        grown : (a : ℕ) → IsMade (leaf_of o a) → KeptOrResolved s c k a → ResolvedTo s slots (leaf c a) (leaf_body c a) a (leaf_of o a)
        grown a h (inl e) = absurd (subst IsMade e h)
        grown a h (inr g) = g

    -- ---- the words after the swap

    -- resolved, if there is a mark
    l₂ : List ℕ
    l₂ = when eqb (word l₁ (q + worker_marks)) 0 then l₁ else resolved_at l₁ s q s.workers

    resolution : Resolved s l₁ c w slots o s.workers l₂
    unfolding l₂
    resolution =
        eq_elim (Resolved s l₁ c w slots o s.workers) (word l₁ (q + worker_marks)) 0 _ _ (unmarked start)
        (λ d. resolves start s.workers (omega arith))

    -- they stand for the working copy
    leaves : (a : ℕ) → leaf_of resolution.copy a ≡ leaf_of o a
    leaves a = by (work ready p r here fresh next a)
      where
        by : KeptOrResolved s c k a → leaf_of resolution.copy a ≡ leaf_of o a
        by (inl e) = resolution.rest a (λ i h f. subst IsMade e (marks.to a (marked i a h f))) ∙ sym e
        by (inr g) =
            let f = marks.from a (subst⁻¹ IsMade (made_leaf ready p r here fresh next a g) tt) in
            resolution.done a f.by f.below (record { marked = rw marks_same f.set; here = f.here })

    -- the words are long enough for every record
    long_enough : nothing_to_split l₁ s q ≡ eqb (word l₁ (q + worker_marks)) 0
    unfolding nothing_to_split
    long_enough = rw (le-ltb (length l₁) (words_needed s) means₀.lent) (or-false (eqb (word l₁ (q + worker_marks)) 0))

    swapped : redirected_at l₁ s q ≡ set l₂ header_number (fresh_directory l₁ s.workers)
    unfolding redirected_at l₂
    swapped =
        let number_same = own_head (own₁ ready) header_number (omega arith) in
        rw (← long_enough) (if_eq (word l₁ (q + worker_directory)) (word l₁ header_number) _ _
        (beside₁ ready worker_directory (omega arith) (λ e. omega arith)
        ∙ ((worker_means ready).directory (subst⁻¹ HasDirectory here tt)).from fresh ∙ sym number_same))

    redirected_means : Meaning s (redirected_at l₁ s q) (record { cells = redirected_cells c k; workers = assign m.workers w v })
    redirected_means = rw swapped (directory_swapped ready p r here fresh next l₂ resolution.copy resolution.mid leaves)

  pub redirects_means :
      (p r : Two) → (tasks_of s m w).pc ≡ in_d p r swap_d → DirectoryFresh m.cells (tasks_of s m w) → (y : Reads)
      → task_of s.workers (counted (m.workers w) y None) ≡ goes (tasks_of s m w) (after_d p r) (m.workers w).reads
      → Next ready (redirected_cells m.cells (tasks_of s m w)) y None
  unfolding update_at counted step_reply
  redirects_means p r e fresh y f =
      let a = announced-at ready (in_d p r swap_d) e in
      let g : y ≡ (m.workers w).reads = ap (λ (x : Task). x.reads) f in
      rw (plan_step ready _ a e, g)
      (redirected_means p r e fresh (ap (λ (x : Task). x.pc) f), refl)
