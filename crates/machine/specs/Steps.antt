-- One step of a worker. What the worker has read says which shared cell its next step touches and what it does there,
-- so that "one step reads or changes at most one shared cell" holds by construction. Rests on the two passes and the
-- plan.
use Rattle.std.specs.Prelude.{ℕ, zero, suc, Bool, not, ltb, eqb, Option, Some, None}
use Rattle.interface.specs.declared.Settings.{Settings}
use Rattle.interface.specs.declared.Answer.{Answer}
use Rattle.interface.specs.declared.Refusal.{Refusal}
use Rattle.interface.specs.declared.Stepped.{Stepped}
use Rattle.machine.specs.Choice.{when◌then◌else◌, assign}
use Rattle.machine.specs.Sequential.{Update, Operation, update, lookup, account, find, looked}
use Rattle.machine.specs.Records.{Name, same, Body, State, Stamped, Bucket, Directory, bucket_of, Leaf, kept, made, Copy, Slot, empty, announced, Cells, Reads, Worker, Machine, new_bucket}
use Rattle.machine.specs.BucketPass.{next_state, checked}
use Rattle.machine.specs.DirectoryPass.{copy_of, leaf_of, resize, directory_of, body_made}
use Rattle.machine.specs.Plan.{Phase, announce, read_directory, flip_toggle, read_state, read_toggle, swap_state, check_state, copy_directory, swap_directory, read_slot, resize_for, phase, check_number}

-- ---- what a step does with the one cell it touches

-- The cell's contents afterwards, what the worker has read by then, and the operation's answer where the step ends it.
pub record Effect (A : Type 0) : Type 0 where
  pub contents : A
  pub reads : Reads
  pub answer : Option Answer

-- What the directory's cell gets: a directory, and the bodies of the buckets that become current with it.
pub record Directed : Type 0 where
  pub directory : Stamped Directory
  pub created : Name → Option Body

-- A step: the cell, and what is done with its contents. A step that touches no cell still counts.
pub data Access : Type 0 where
  no_cell : Reads → Access
  directory_cell : (Stamped Directory → Effect Directed) → Access
  slot_cell : ℕ → (Slot → Effect Slot) → Access
  state_cell : Name → (Stamped State → Effect (Stamped State)) → Access
  toggle_cell : Name → ((ℕ → Bool) → Effect (ℕ → Bool)) → Access

-- the contents c, what was read r, no answer
abbrev pub leaving : {A : Type 0} → A → Reads → Effect A
leaving c r = record { contents = c; reads = r; answer = None }

-- the directory's cell unchanged
abbrev pub unchanged : Stamped Directory → Directed
unchanged d = record { directory = d; created = λ x. None }

-- ---- what has been read, with one thing more

unfoldable pub with_directory : Reads → Stamped Directory → Reads
with_directory r d = record { directory = d; state = r.state; toggle = r.toggle; slots = r.slots; copy = r.copy }

unfoldable pub with_state : Reads → Stamped State → Reads
with_state r x = record { directory = r.directory; state = x; toggle = r.toggle; slots = r.slots; copy = r.copy }

unfoldable pub with_toggle : Reads → (ℕ → Bool) → Reads
with_toggle r t = record { directory = r.directory; state = r.state; toggle = t; slots = r.slots; copy = r.copy }

unfoldable pub with_slot : Reads → ℕ → Slot → Reads
with_slot r i x = record {
  directory = r.directory;
  state = r.state;
  toggle = r.toggle;
  slots = assign r.slots i x;
  copy = r.copy;
}

unfoldable pub with_copy : Reads → Copy → Reads
with_copy r c = record { directory = r.directory; state = r.state; toggle = r.toggle; slots = r.slots; copy = c }

-- ---- the steps of an update: worker j, what it has read r, its update u with ticket t

-- the bucket of the update, by the directory that was read
abbrev pub own_name : Reads → ℕ → Name
own_name r a = bucket_of r.directory.value a

unfoldable pub announcing : ℕ → Reads → Update → ℕ → Access
announcing j r u t = slot_cell j (λ old. leaving (announced u t) r)

unfoldable pub directory_reading : Reads → Access
directory_reading r = directory_cell (λ d. leaving (unchanged d) (with_directory r d))

-- "flip the own toggle bit"
unfoldable pub flipping : ℕ → Reads → ℕ → Access
flipping j r a = toggle_cell (own_name r a) (λ bits. leaving (assign bits j (not (bits j))) r)

unfoldable pub state_reading : Reads → ℕ → Access
state_reading r a = state_cell (own_name r a) (λ x. leaving x (with_state r x))

unfoldable pub toggle_reading : Reads → ℕ → Access
toggle_reading r a = toggle_cell (own_name r a) (λ bits. leaving bits (with_toggle r bits))

unfoldable pub slot_reading : Reads → ℕ → Access
slot_reading r i = slot_cell i (λ x. leaving x (with_slot r i x))

-- "The swap makes the copy current only if the bucket's state is still the one that was read."
-- The number is the bucket's depth.
unfoldable pub swapped : Settings → ℕ → Reads → Stamped State → Stamped State
swapped s d r x =
    when eqb x.stamp r.state.stamp
    then record { stamp = suc x.stamp; value = next_state s d r.state.value r.toggle r.slots }
    else x

unfoldable pub state_swapping : Settings → Reads → ℕ → Access
state_swapping s r a = state_cell (own_name r a) (λ x. leaving (swapped s (own_name r a).depth r x) r)

unfoldable pub state_checking : ℕ → Reads → ℕ → ℕ → Access
state_checking j r a t =
    state_cell (own_name r a) (λ x. record { contents = x; reads = r; answer = checked j t x.value.body })

-- a round of the directory pass begins: the directory that is read is the working copy
unfoldable pub directory_copying : Reads → Access
directory_copying r = directory_cell (λ d. leaving (unchanged d) (with_copy (with_directory r d) (copy_of d.value)))

-- "Each of the n steps reads the state of the bucket that worker's announced update belongs to in the working copy."
-- "A step for an empty slot, or for a bucket made in this round, reads nothing and counts."
unfoldable pub leaf_reading : Settings → Reads → ℕ → ℕ → Leaf → Access
leaf_reading s r i t (made x b) = no_cell r
leaf_reading s r i t (kept x) =
    state_cell x (λ y. leaving y (with_copy r (resize s r.slots i t x y.value.body r.copy)))

unfoldable pub resizing : Settings → Reads → ℕ → Slot → Access
resizing s r i empty = no_cell r
resizing s r i (announced u t) = leaf_reading s r i t (leaf_of r.copy (account u))

-- "The swap makes the working copy current, changed or not, only if the directory is still the one that was read."
unfoldable pub redirected : Reads → Stamped Directory → Directed
redirected r d =
    when eqb d.stamp r.directory.stamp
    then record {
      directory = record { stamp = suc d.stamp; value = directory_of r.copy };
      created = body_made r.copy;
    }
    else unchanged d

unfoldable pub directory_swapping : Reads → Access
directory_swapping r = directory_cell (λ d. leaving (redirected r d) r)

unfoldable pub update_access : Settings → ℕ → Reads → Update → ℕ → Phase → Access
update_access s j r u t announce = announcing j r u t
update_access s j r u t read_directory = directory_reading r
update_access s j r u t flip_toggle = flipping j r (account u)
update_access s j r u t read_state = state_reading r (account u)
update_access s j r u t read_toggle = toggle_reading r (account u)
update_access s j r u t (read_slot i) = slot_reading r i
update_access s j r u t swap_state = state_swapping s r (account u)
update_access s j r u t check_state = state_checking j r (account u) t
update_access s j r u t copy_directory = directory_copying r
update_access s j r u t (resize_for i) = resizing s r i (r.slots i)
update_access s j r u t swap_directory = directory_swapping r

-- ---- the steps of a lookup

-- "Lookup, 2 steps: read the directory; read the account's bucket's state and answer found with the total, or none."
unfoldable pub lookup_access : Reads → ℕ → ℕ → Access
lookup_access r a zero = directory_reading r
lookup_access r a (suc k) =
    state_cell (own_name r a)
    (λ x. record { contents = x; reads = r; answer = Some (looked (find x.value.body.items a)) })

-- worker j's next step, from what it keeps itself
unfoldable pub access : Settings → ℕ → Worker → Operation → Access
access s j w (lookup a) = lookup_access w.reads a w.steps
access s j w (update u) = update_access s j w.reads u w.last (phase s.workers w.steps)

-- ---- the shared cells after a step

-- a bucket that becomes current with a directory is new; the others are as they were
abbrev pub created : Bucket → Option Body → Bucket
created x None = x
created x (Some b) = new_bucket b

unfoldable pub direct : Cells → Directed → Cells
direct c e = record { directory = e.directory; slots = c.slots; buckets = λ x. created (c.buckets x) (e.created x) }

unfoldable pub assign_slot : Cells → ℕ → Slot → Cells
assign_slot c j x = record { directory = c.directory; slots = assign c.slots j x; buckets = c.buckets }

unfoldable pub assign_bucket : Cells → Name → Bucket → Cells
assign_bucket c x v =
    record { directory = c.directory; slots = c.slots; buckets = λ y. when same y x then v else c.buckets y }

unfoldable pub assign_state : Cells → Name → Stamped State → Cells
assign_state c x v = assign_bucket c x (record { state = v; toggle = (c.buckets x).toggle })

unfoldable pub assign_toggle : Cells → Name → (ℕ → Bool) → Cells
assign_toggle c x v = assign_bucket c x (record { state = (c.buckets x).state; toggle = v })

-- a step done: the shared cells, what the worker has read, its answer
abbrev pub after : {A : Type 0} → (A → Cells) → Effect A → Effect Cells
after write e = record { contents = write e.contents; reads = e.reads; answer = e.answer }

unfoldable pub perform : Access → Cells → Effect Cells
perform (no_cell r) c = leaving c r
perform (directory_cell f) c = after (direct c) (f c.directory)
perform (slot_cell j f) c = after (assign_slot c j) (f (c.slots j))
perform (state_cell x f) c = after (assign_state c x) (f (c.buckets x).state)
perform (toggle_cell x f) c = after (assign_toggle c x) (f (c.buckets x).toggle)

-- ---- the step as it is asked for

-- one step more, and the operation's end where it is answered
unfoldable pub counted : Worker → Reads → Option Answer → Worker
counted w r None = record { last = w.last; operation = w.operation; steps = suc w.steps; reads = r }
counted w r (Some a) = record { last = w.last; operation = None; steps = 0; reads = r }

-- "the step that answers it returns which, as 1 to 4, and 0 with any other operation's answer" (02, No. 4)
unfoldable pub check_of : Settings → Worker → Operation → ℕ
check_of s w (update u) = check_number s.workers w.steps
check_of s w (lookup a) = 0

-- after k steps, this one included, which is check c
unfoldable pub step_reply : ℕ → ℕ → Option Answer → Stepped
step_reply k c None = Stepped.Moved
step_reply k c (Some a) = Stepped.Answered (record { answer = a; steps = k; check = c })

unfoldable pub done : Machine → ℕ → ℕ → Effect Cells → Machine × Stepped
done m j c e =
    let w : Worker = m.workers j in (
      record { cells = e.contents; workers = assign m.workers j (counted w e.reads e.answer) },
      step_reply (suc w.steps) c e.answer,
    )

-- a worker without operation is idle
unfoldable pub step_of : Settings → Machine → ℕ → Option Operation → Machine × Stepped
step_of s m j None = (m, Stepped.Refused Refusal.Idle)
step_of s m j (Some o) =
    let w : Worker = m.workers j in done m j (check_of s w o) (perform (access s j w o) m.cells)

-- "A step checks 8, 3, 5": the machine and what worker j is answered. 8 is a matter of the memory.
unfoldable pub step : Settings → Machine → ℕ → Machine × Stepped
step s m j =
    when ltb j s.workers then step_of s m j (m.workers j).operation else (m, Stepped.Refused Refusal.Stranger)
