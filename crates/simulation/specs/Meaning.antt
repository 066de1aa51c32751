-- What the words mean: every shared cell of the machine and, per worker, its operation, ticket, steps, what it has
-- read, and whether its comparison would succeed. Left out is only what can no longer matter: what a worker has read in
-- an earlier part of its update, and the contents behind a comparison that would fail. Rests on the layout, on what a
-- bucket's state means, and on the machine.
use Rattle.std.specs.Prelude.{ℕ, ◌+◌, ◌*◌, ◌^◌, ◌≤◌, ◌<◌, ◌≡◌, List, eqb, length, Option, Some, None}
use Rattle.interface.specs.Numbers.{kind_none, kind_lookup}
use Rattle.interface.specs.declared.Settings.{Settings}
use Rattle.machine.specs.Choice.{when◌then◌else◌}
use Rattle.machine.specs.Sequential.{first_bits, Operation, update, lookup, account}
use Rattle.machine.specs.Records.{Name, Bucket, Slot, empty, announced, Machine}
use Rattle.machine.specs.DirectoryPass.{leaf_of}
use Rattle.fields.specs.Fields.{header_settings, header_needed, header_depth, header_number, slot_kind, slot_account, slot_total, slot_ticket, slot_size, worker_account, worker_total, worker_ticket, worker_steps, worker_held, worker_state, worker_toggle, worker_directory, worker_marks, worker_slots, record_count, record_toggle, record_depth, record_prefix, record_number}
use Rattle.fields.specs.Regions.{read_at, pool_size, words_needed, Region, record', start_of, slot, worker, entry}
use Rattle.machine.specs.Counter.{PC, DStep, copy_d, swap_d, slot_d, state}
use Rattle.machine.specs.Tasks.{leaf, held, IsMade, DirectoryFresh, tasks_of, own}
use Rattle.machine.specs.Passed.{HoldsBucket, PastState, in_buckets, in_directory, since_state, since_copy}
use Rattle.rules.specs.declared.Descriptor.{Descriptor}
use Rattle.rules.specs.Rules.{bit, descriptor_in}
use Rattle.simulation.specs.Buckets.{bits_of, update_from, slot_from, SoundSlots, Means}
use Rattle.lists.specs.Parts.{part}
use Rattle.record.specs.Loads.{loaded_state}
use Rattle.layout.specs.Shape.{word, first_word}

-- two comparisons have the same outcome
pub record SameOutcome (a b c d : ℕ) : Type 0 where
  pub to : a ≡ b → c ≡ d
  pub from : c ≡ d → a ≡ b

-- in a round of the bucket pass, past its state read
abbrev pub HasState : PC → Type 0
HasState = in_buckets (λ r. since_state ⊥ (Unit {0}))

-- in a round of the directory pass, past its directory read
abbrev pub HasDirectory : PC → Type 0
HasDirectory = in_directory (λ p r. since_copy ⊥ (Unit {0}))

abbrev pub Working : DStep → Type 0
Working copy_d = ⊥
Working swap_d = Unit {0}
Working (slot_d i) = ⊥
Working (state i) = Unit {0}

-- past its slot reads there
abbrev pub HasWork : PC → Type 0
HasWork = in_directory (λ p r. Working)

-- the operation that a worker's words are, if any
unfoldable pub operation_in : Descriptor → Option Operation
operation_in u =
    when eqb u.kind kind_none then None
    else when eqb u.kind kind_lookup then Some (lookup u.account) else Some (update (update_from u))

-- the slot whose words stand from i on
abbrev pub slot_in : List ℕ → ℕ → Slot
slot_in l i = slot_from (descriptor_in l i)

-- the account of a slot
abbrev pub account_in : Slot → ℕ
account_in empty = 0
account_in (announced u t) = account u

module _ (s : Settings) where
  -- word i of a region
  abbrev pub at : List ℕ → Region → ℕ → ℕ
  at l r i = word l (start_of s r + i)

  -- ---- bucket records

  -- the bucket that record r keeps
  abbrev pub name_in : List ℕ → ℕ → Name
  name_in l r = record { depth = at l (record' r) record_depth; prefix = at l (record' r) record_prefix }

  -- its cells
  pub record Keeps (l : List ℕ) (r : ℕ) (x : Bucket) : Type 0 where
    pub size : at l (record' r) record_count ≤ s.capacity
    pub state : Means (loaded_state l (start_of s (record' r)) s.capacity s.workers) x.state.value s.workers
    pub toggle : (j : ℕ) → j < s.workers → bits_of (at l (record' r) record_toggle) j ≡ x.toggle j

  -- account a's record is r, by the directory
  pub record Directs (l : List ℕ) (a r : ℕ) : Type 0 where
    pub in_pool : r < pool_size s
    pub names : at l (entry (first_bits s.depth a)) 0 ≡ start_of s (record' r)

  -- worker j's record is r
  pub record Refers (l : List ℕ) (j r : ℕ) : Type 0 where
    pub in_pool : r < pool_size s
    pub names : at l (worker j) worker_held ≡ start_of s (record' r)

  -- "nothing current and no worker refers to" is the contrary of this
  pub data Live (l : List ℕ) (m : Machine) (r : ℕ) : Type 0 where
    current : (a : ℕ) → Directs l a r → Live l m r
    referred : (j : ℕ) → j < s.workers → HoldsBucket (tasks_of s m j).pc → Refers l j r → Live l m r

  -- ---- workers

  -- worker i's state step has marked account a's bucket
  pub record Marked (l : List ℕ) (m : Machine) (j a : ℕ) : Type 0 where
    pub by : ℕ
    pub below : by < s.workers
    pub set : bit (at l (worker j) worker_marks) by ≡ 1
    pub here : leaf m.cells (account_in ((m.workers j).reads.slots by)) ≡ leaf m.cells a

  -- what is marked is what the working copy has split, each bucket by one mark
  pub record Marks (l : List ℕ) (m : Machine) (j : ℕ) : Type 0 where
    pub to : (a : ℕ) → Marked l m j a → IsMade (leaf_of (m.workers j).reads.copy a)
    pub from : (a : ℕ) → IsMade (leaf_of (m.workers j).reads.copy a) → Marked l m j a
    pub once :
        (i k : ℕ) → i < s.workers → k < s.workers → bit (at l (worker j) worker_marks) i ≡ 1
        → bit (at l (worker j) worker_marks) k ≡ 1
        → leaf m.cells (account_in ((m.workers j).reads.slots i))
        ≡ leaf m.cells (account_in ((m.workers j).reads.slots k)) → i ≡ k
    pub full :
        (i : ℕ) → i < s.workers → bit (at l (worker j) worker_marks) i ≡ 1 → (m.workers j).reads.slots i ≡ empty → ⊥

  pub record WorkerMeans (l : List ℕ) (m : Machine) (j : ℕ) : Type 0 where
    pub operation : operation_in (descriptor_in l (start_of s (worker j))) ≡ (m.workers j).operation
    pub narrow : at l (worker j) worker_account < 2 ^ 32
    pub fits : at l (worker j) worker_total < 2 ^ 64
    pub ticket : at l (worker j) worker_ticket ≡ (m.workers j).last
    pub steps : at l (worker j) worker_steps ≡ (m.workers j).steps
    pub toggle : (i : ℕ) → i < s.workers → bits_of (at l (worker j) worker_toggle) i ≡ (m.workers j).reads.toggle i
    pub slots : (i : ℕ) → i < s.workers → slot_in l (read_at (start_of s (worker j)) i) ≡ (m.workers j).reads.slots i
    pub sound : SoundSlots (part l (start_of s (worker j) + worker_slots) (slot_size * s.workers)) s.workers
    -- the bucket held
    pub held : HoldsBucket (tasks_of s m j).pc → (r : ℕ) × Refers l j r × (name_in l r ≡ held (tasks_of s m j))
    -- whether its comparisons would succeed
    pub number :
        HasState (tasks_of s m j).pc → (r : ℕ) → Refers l j r
        → SameOutcome (at l (worker j) worker_state) (at l (record' r) record_number) (m.workers j).reads.state.stamp
        (own m.cells (tasks_of s m j)).state.stamp
    pub directory :
        HasDirectory (tasks_of s m j).pc
        → SameOutcome (at l (worker j) worker_directory) (word l header_number) (m.workers j).reads.directory.stamp
        m.cells.directory.stamp
    -- the marks
    pub few : at l (worker j) worker_marks < 2 ^ s.workers
    pub unmarked :
        HasDirectory (tasks_of s m j).pc → (i : ℕ) → i < s.workers
        → (PastState s.workers i (tasks_of s m j).pc → ⊥) → bit (at l (worker j) worker_marks) i ≡ 0
    pub marks : HasWork (tasks_of s m j).pc → DirectoryFresh m.cells (tasks_of s m j) → Marks l m j

  -- ---- the whole

  pub record Meaning (l : List ℕ) (m : Machine) : Type 0 where
    pub lent : words_needed s ≤ length l
    pub first : word l header_settings ≡ first_word s
    pub needed : word l header_needed ≡ words_needed s
    pub depth : word l header_depth ≡ m.cells.directory.value.depth
    pub slots : (j : ℕ) → j < s.workers → slot_in l (start_of s (slot j)) ≡ m.cells.slots j
    pub narrow : (j : ℕ) → j < s.workers → at l (slot j) slot_account < 2 ^ 32
    pub fits : (j : ℕ) → j < s.workers → at l (slot j) slot_total < 2 ^ 64
    pub quiet : (j : ℕ) → j < s.workers → at l (slot j) slot_kind ≡ kind_none → at l (slot j) slot_ticket ≡ 0
    pub directory : (a : ℕ) → (r : ℕ) × Directs l a r × (name_in l r ≡ leaf m.cells a)
    pub cells : (r : ℕ) → Live l m r → Keeps l r (m.cells.buckets (name_in l r))
    pub apart : (r t : ℕ) → Live l m r → Live l m t → name_in l r ≡ name_in l t → r ≡ t
    pub workers : (j : ℕ) → j < s.workers → WorkerMeans l m j
