-- The bucket records: where they are, which the directory or a worker refers to, and the next spare one, for any words.
-- Rests on the regions of the lent words.
use Rattle.std.specs.Prelude.{ℕ, zero, suc, ◌+◌, ◌-◌, ◌*◌, ◌%◌, ◌^◌, Bool, ◌||◌, List, ltb, eqb}
use Rattle.interface.specs.declared.Settings.{Settings}
use Rattle.machine.specs.Choice.{when◌then◌else◌}
use Rattle.fields.specs.Fields.{header_spare, worker_held, record_depth, record_prefix}
use Rattle.fields.specs.Regions.{directory_start, record_start, pool_size}
use Rattle.layout.specs.Shape.{word}
use Rattle.renumbering.specs.Numbers.{any_has}

-- the first entry of a bucket of depth d and prefix q in the directory at depth M; depths above M count as M
unfoldable pub first_entry : Settings → ℕ → ℕ → ℕ
first_entry s d q = q * 2 ^ (s.depth - d) % 2 ^ s.depth

-- the directory names the record at its own bucket's first entry
unfoldable pub current_at : List ℕ → Settings → ℕ → Bool
current_at l s q =
    eqb (word l (directory_start s.workers + first_entry s (word l (q + record_depth)) (word l (q + record_prefix)))) q

unfoldable pub held_by_any : List ℕ → ℕ → ℕ → Bool
held_by_any l n q = any_has l n worker_held q

-- "one that a worker still refers to is not": record r is current or held
unfoldable pub used_at : List ℕ → Settings → ℕ → Bool
used_at l s r = current_at l s (record_start s r) || held_by_any l s.workers (record_start s r)

-- the next record to use: the first spare one from the one kept in the header on, round the pool
unfoldable pub spare_from : List ℕ → Settings → ℕ → ℕ → ℕ
spare_from l s r zero = r
spare_from l s r (suc k) =
    when used_at l s r then spare_from l s (when ltb (suc r) (pool_size s) then suc r else 0) k else r

unfoldable pub spare_of : List ℕ → Settings → ℕ
spare_of l s = spare_from l s (word l header_spare % pool_size s) (pool_size s)
