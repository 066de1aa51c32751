-- Where each region of the lent words stands for given settings, and how many words a table needs: a header, a slot
-- and a record per worker, the directory at depth M, and a pool of bucket records. Rests on the fields' names and on
-- runs of lists.
use Rattle.std.specs.Prelude.{ℕ, ◌+◌, ◌*◌, ◌^◌, ◌<◌, List}
use Rattle.interface.specs.Limits.{least_workers, least_capacity, least_depth}
use Rattle.interface.specs.declared.Settings.{Settings}
use Rattle.lists.specs.Parts.{part, overlay}
use Rattle.fields.specs.Fields.{header_size, slot_size, worker_slots, worker_size, record_size, spare_records, spare_words}

-- ---- addresses

-- worker w's slot
abbrev pub slot_at : ℕ → ℕ
slot_at w = header_size + slot_size * w

-- worker w's record, of n workers
unfoldable pub worker_at : ℕ → ℕ → ℕ
worker_at n w = header_size + slot_size * n + w * worker_size n

-- the slot of worker j that a worker has read: where in its record, and where if that is at p
abbrev pub slot_read : ℕ → ℕ
slot_read j = worker_slots + slot_size * j

abbrev pub read_at : ℕ → ℕ → ℕ
read_at p j = p + worker_slots + slot_size * j

-- the directory: past the header, the slots and the workers
unfoldable pub directory_start : ℕ → ℕ
directory_start n = header_size + slot_size * n + n * worker_size n

-- bucket record r: past the directory at depth M
unfoldable pub record_start : Settings → ℕ → ℕ
record_start s r = directory_start s.workers + 2 ^ s.depth + r * record_size s.capacity s.workers

-- how many bucket records there are: one for each entry of the directory at depth M, one for each worker, and two to
-- spare
unfoldable pub pool_size : Settings → ℕ
pool_size s = 2 ^ s.depth + s.workers + spare_records

-- ---- words needed

-- "The words needed for given settings"
unfoldable pub words_needed : Settings → ℕ
words_needed s = record_start s (pool_size s) + spare_words

-- those of the least settings (WordsLimit `least-words`): no table has fewer
abbrev pub least_words : ℕ
least_words =
    header_size + slot_size * least_workers + least_workers * worker_size least_workers + 2 ^ least_depth
    + (2 ^ least_depth + least_workers + spare_records) * record_size least_capacity least_workers + spare_words

-- "They are at most 16 × (2n+1) × 2^M × (b+n+4)."
unfoldable pub words_limit : Settings → ℕ
words_limit s = 16 * (2 * s.workers + 1) * 2 ^ s.depth * (s.capacity + s.workers + 4)

-- ---- regions

-- The regions of the memory: the header; worker j's slot; worker j's own record; entry e of the directory at depth M;
-- record r of the pool.
pub data Region : Type 0 where
  header : Region
  slot : ℕ → Region
  worker : ℕ → Region
  entry : ℕ → Region
  record' : ℕ → Region

unfoldable pub start_of : Settings → Region → ℕ
start_of s header = 0
start_of s (slot j) = slot_at j
start_of s (worker j) = worker_at s.workers j
start_of s (entry e) = directory_start s.workers + e
start_of s (record' r) = record_start s r

unfoldable pub region_size : Settings → Region → ℕ
region_size s header = header_size
region_size s (slot j) = slot_size
region_size s (worker j) = worker_size s.workers
region_size s (entry e) = 1
region_size s (record' r) = record_size s.capacity s.workers

-- the regions that there are
abbrev pub Within : Settings → Region → Type 0
Within s header = Unit {0}
Within s (slot j) = j < s.workers
Within s (worker j) = j < s.workers
Within s (entry e) = e < 2 ^ s.depth
Within s (record' r) = r < pool_size s

-- what a region holds, and the words with other contents there
unfoldable pub read : Settings → List ℕ → Region → List ℕ
read s l r = part l (start_of s r) (region_size s r)

unfoldable pub write : Settings → List ℕ → Region → List ℕ → List ℕ
write s l r xs = overlay l (start_of s r) xs
