-- A worker as its task: the step to come, its operation, its last ticket and what it has read; the bucket that it
-- holds, and what of its reads is still current. Rests on the program counter and on the machine's records.
use Rattle.std.specs.Prelude.{ℕ, zero, suc, ◌≡◌, Option, Some, None}
use Rattle.machine.specs.Sequential.{account, Operation, update, lookup}
use Rattle.machine.specs.Records.{Name, Bucket, bucket_of, Leaf, kept, made, Cells, Reads, Worker, Machine}
use Rattle.machine.specs.Counter.{PC, idle, look₁, look₂, over, counter}
use Rattle.interface.specs.declared.Settings.{Settings}

-- A worker as its task: the step to come, its operation, its last ticket and what it has read.
pub record Task : Type 0 where
  pub pc : PC
  pub operation : Option Operation
  pub ticket : ℕ
  pub reads : Reads

-- the account that an operation is about
abbrev pub about : Option Operation → ℕ
about None = 0
about (Some (update u)) = account u
about (Some (lookup a)) = a

abbrev pub target : Task → ℕ
target k = about k.operation

-- ---- what a worker holds

-- an account's current bucket
abbrev pub leaf : Cells → ℕ → Name
leaf c a = bucket_of c.directory.value a

-- the bucket that a task's worker holds: its account's, by the directory it has read
abbrev pub held : Task → Name
held k = bucket_of k.reads.directory.value (target k)

-- that bucket's cells
abbrev pub own : Cells → Task → Bucket
own c k = c.buckets (held k)

-- the directory that was read is still the current one
abbrev pub DirectoryFresh : Cells → Task → Type 0
DirectoryFresh c k = k.reads.directory.stamp ≡ c.directory.stamp

-- in a working copy account a's bucket is split
abbrev pub IsMade : Leaf → Type 0
IsMade (kept x) = ⊥
IsMade (made x b) = Unit {0}

-- ---- the task of a worker

-- the counter of a lookup that has made k steps
abbrev pub lookup_counter : ℕ → PC
lookup_counter zero = look₁
lookup_counter (suc zero) = look₂
lookup_counter (suc (suc k)) = over

-- the counter of an operation that has made k steps
abbrev pub counter_of : ℕ → Option Operation → ℕ → PC
counter_of n None k = idle
counter_of n (Some (lookup a)) k = lookup_counter k
counter_of n (Some (update u)) k = counter n k

abbrev pub task_of : ℕ → Worker → Task
task_of n w =
    record {
      pc = counter_of n w.operation w.steps;
      operation = w.operation;
      ticket = w.last;
      reads = w.reads;
    }

abbrev pub tasks_of : Settings → Machine → ℕ → Task
tasks_of s m j = task_of s.workers (m.workers j)
