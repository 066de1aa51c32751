-- A machine's step as a transition of its worker's task: the kinds of step by counter, with the cells and the task they leave.
-- Rests on the program counter.
use Prim.Native.Nat.{ℕ, suc, ◌≤◌, ◌<◌}
use mathlib.Core.Path.{◌≡◌}
use mathlib.Core.Bool.{not}
use Rattle.std.specs.Prelude.{Option, Some, None}
use Rattle.interface.specs.declared.Settings.{Settings}
use Rattle.interface.specs.declared.Answer.{Answer}
use Rattle.machine.specs.Choice.{assign}
use Rattle.machine.specs.Sequential.{Update, account, update, find, looked}
use Rattle.machine.specs.Records.{Leaf, kept, made, Slot, empty, announced, Cells, Reads, Copy}
use Rattle.machine.specs.BucketPass.{next_state, checked}
use Rattle.machine.specs.DirectoryPass.{copy_of, leaf_of, resize, directory_of, body_made}
use Rattle.machine.specs.Steps.{with_directory, with_state, with_toggle, with_slot, with_copy, direct, assign_slot, assign_state, assign_toggle}
use Rattle.machine.specs.Counter.{Two, one, read_s, read_t, swap, slot_b, copy_d, swap_d, slot_d, state, idle, announce, look₁, look₂, read_d, flip, check_d, check_s, in_b, in_d}
use Rattle.machine.proofs.invariant.Counter.{after_b, after_c, after_d}
use Rattle.machine.specs.Tasks.{Task, target, held, DirectoryFresh, own}
use Rattle.machine.proofs.invariant.Inv.{body, Fresh}
use Rattle.machine.proofs.invariant.Preservation.{goes}

-- ---- tasks

-- an operation ended
abbrev pub ended_task : Task → Reads → Task
ended_task k r = record { pc = idle; operation = None; ticket = k.ticket; reads = r }

-- ---- the cells after a step that changes them

-- the bucket's toggle with worker w's bit flipped
abbrev pub flipped_cells : ℕ → Cells → Task → Cells
flipped_cells w c k = assign_toggle c (held k) (assign (own c k).toggle w (not ((own c k).toggle w)))

abbrev pub swapped_cells : Settings → Cells → Task → Cells
swapped_cells s c k =
    let r = k.reads in
    assign_state c (held k)
    (record { stamp = suc (own c k).state.stamp; value = next_state s (held k).depth r.state.value r.toggle r.slots })

abbrev pub redirected_cells : Cells → Task → Cells
redirected_cells c k =
    let x = k.reads.copy in
    direct c (record { directory = record { stamp = suc c.directory.stamp; value = directory_of x }; created = body_made x })

-- ---- what has been read after a step of the directory pass

-- when the directory is copied
abbrev pub copied_directory : Cells → Reads → Reads
copied_directory c r = with_copy (with_directory r c.directory) (copy_of c.directory.value)

-- the working copy after worker i's state step, by the leaf of its announced update, and by its slot
abbrev pub copy_leaf : Settings → Cells → ℕ → ℕ → Reads → Leaf → Copy
copy_leaf s c i t r (made x b) = r.copy
copy_leaf s c i t r (kept x) = resize s r.slots i t x (body c x) r.copy

abbrev pub copy_slot : Settings → Cells → ℕ → Reads → Slot → Copy
copy_slot s c i r empty = r.copy
copy_slot s c i r (announced u t) = copy_leaf s c i t r (leaf_of r.copy (account u))

-- when that step is done
abbrev pub resized_for : Settings → Cells → ℕ → Reads → Reads
resized_for s c i r = with_copy r (copy_slot s c i r (r.slots i))

-- ---- the transitions

-- worker w with task k, at cells c: the cells, the task and the answer that its step leaves
pub data Transition (s : Settings) (w : ℕ) (c : Cells) (k : Task) : Cells → Task → Option Answer → Type 0 where
  looks : k.pc ≡ look₁ → Transition s w c k c (goes k look₂ (with_directory k.reads c.directory)) None
  finds : k.pc ≡ look₂ → Transition s w c k c (ended_task k k.reads) (Some (looked (find (body c (held k)).items (target k))))
  announces : (u : Update) → k.pc ≡ announce → k.operation ≡ Some (update u)
      → Transition s w c k (assign_slot c w (announced u k.ticket)) (goes k (read_d one) k.reads) None
  reads_d : (p : Two) → k.pc ≡ read_d p → Transition s w c k c (goes k (flip p) (with_directory k.reads c.directory)) None
  flips : (p : Two) → k.pc ≡ flip p → Transition s w c k (flipped_cells w c k) (goes k (in_b p one read_s) k.reads) None
  reads_s : (p r : Two) → k.pc ≡ in_b p r read_s → Transition s w c k c (goes k (in_b p r read_t) (with_state k.reads (own c k).state)) None
  reads_t :
      (p r : Two) → k.pc ≡ in_b p r read_t → Transition s w c k c (goes k (in_b p r (slot_b 0)) (with_toggle k.reads (own c k).toggle)) None
  slots_b : (p r : Two) (i : ℕ) → k.pc ≡ in_b p r (slot_b i) → suc i < s.workers
      → Transition s w c k c (goes k (in_b p r (slot_b (suc i))) (with_slot k.reads i (c.slots i))) None
  last_b : (p r : Two) (i : ℕ) → k.pc ≡ in_b p r (slot_b i) → s.workers ≤ suc i
      → Transition s w c k c (goes k (in_b p r swap) (with_slot k.reads i (c.slots i))) None
  swaps : (p r : Two) → k.pc ≡ in_b p r swap → Fresh c k → Transition s w c k (swapped_cells s c k) (goes k (after_b p r) k.reads) None
  misses : (p r : Two) → k.pc ≡ in_b p r swap → (Fresh c k → ⊥) → Transition s w c k c (goes k (after_b p r) k.reads) None
  checks_d : (p x : Two) → k.pc ≡ check_d p x → Transition s w c k c (goes k (check_s p x) (with_directory k.reads c.directory)) None
  answers : (p x : Two) (a : Answer) → k.pc ≡ check_s p x → checked w k.ticket (body c (held k)) ≡ Some a
      → Transition s w c k c (ended_task k k.reads) (Some a)
  passes : (p x : Two) → k.pc ≡ check_s p x → checked w k.ticket (body c (held k)) ≡ None
      → Transition s w c k c (goes k (after_c p x) k.reads) None
  copies : (p r : Two) → k.pc ≡ in_d p r copy_d → Transition s w c k c (goes k (in_d p r (slot_d 0)) (copied_directory c k.reads)) None
  slots_d : (p r : Two) (i : ℕ) → k.pc ≡ in_d p r (slot_d i) → suc i < s.workers
      → Transition s w c k c (goes k (in_d p r (slot_d (suc i))) (with_slot k.reads i (c.slots i))) None
  last_d : (p r : Two) (i : ℕ) → k.pc ≡ in_d p r (slot_d i) → s.workers ≤ suc i
      → Transition s w c k c (goes k (in_d p r (state 0)) (with_slot k.reads i (c.slots i))) None
  resizes : (p r : Two) (i : ℕ) → k.pc ≡ in_d p r (state i) → suc i < s.workers
      → Transition s w c k c (goes k (in_d p r (state (suc i))) (resized_for s c i k.reads)) None
  last_state : (p r : Two) (i : ℕ) → k.pc ≡ in_d p r (state i) → i < s.workers → s.workers ≤ suc i
      → Transition s w c k c (goes k (in_d p r swap_d) (resized_for s c i k.reads)) None
  redirects : (p r : Two) → k.pc ≡ in_d p r swap_d → DirectoryFresh c k
      → Transition s w c k (redirected_cells c k) (goes k (after_d p r) k.reads) None
  misses_d : (p r : Two) → k.pc ≡ in_d p r swap_d → (DirectoryFresh c k → ⊥) → Transition s w c k c (goes k (after_d p r) k.reads) None
