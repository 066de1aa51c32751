-- A round on a bucket's record, and one worker's update alone, for any words. Rests on what a round makes of a bucket's
-- state, and on the record's words.
use Rattle.std.specs.Prelude.{ℕ, ◌+◌, ◌*◌, ◌≤◌, ◌<◌, ◌≡◌, List, eqb, length}
use Rattle.interface.specs.declared.Settings.{Settings}
use Rattle.fields.specs.Fields.{slot_size, worker_toggle, worker_slots, record_count, record_applied, record_depth, widest_record}
use Rattle.machine.specs.Choice.{when◌then◌else◌}
use Rattle.rounds.specs.Rounds.{changed_of, carry_of, with_applied, round_of}
use Rattle.rules.specs.declared.Descriptor.{Descriptor}
use Rattle.arrays.specs.declared.Position.{Position}
use Rattle.arrays.specs.declared.Position.TheVariants.{At, Before}
use Rattle.bucket.specs.declared.BucketState.{BucketState}
use Rattle.bucket.specs.State.{search_of, put_of, settle_of}
use Rattle.lists.specs.Parts.{part}
use Rattle.memory.specs.Words.{least}
use Rattle.layout.specs.Shape.{word, Fits}
use Rattle.record.specs.Bucket.{bucket_at}
use Rattle.storing.specs.Stores.{with_bucket_at}

-- the record's state after a round with what the worker at p has read; where no bit differs there is nothing to carry
-- out
unfoldable pub round_at : List ℕ → Settings → ℕ → ℕ → List ℕ
round_at l s p q =
    let toggle : ℕ = word l (p + worker_toggle) in
    let slots : List ℕ = part l (p + worker_slots) (slot_size * s.workers) in
    when eqb toggle (word l (q + record_applied))
    then l
    else with_bucket_at l s q (round_of (bucket_at l s q) slots s (word l (q + record_depth)) toggle)

-- what an update in place requires of the words: they fit, and the record at q is inside, with c accounts; a count
-- above b is read as b
abbrev pub Counted : List ℕ → Settings → ℕ → ℕ → Type 0
Counted l s q c =
    Fits l s × ((q + widest_record ≤ length l) × (c ≡ least (word l (q + record_count)) s.capacity))

-- and of the position that a search gave among c accounts: the account is there, or there is room for it
abbrev pub RoomAt : Settings → ℕ → Position → Type 0
RoomAt s c (At i) = Unit {0}
RoomAt s c (Before i) = c < s.capacity

-- that p is where worker j's update belongs among the c accounts of the record at q
abbrev pub Searched : List ℕ → Settings → ℕ → ℕ → ℕ → Position → Descriptor → Type 0
Searched l s q c j p u = Counted l s q c × ((j < s.workers) × (p ≡ search_of (bucket_at l s q) u.account))

-- the record at q in another state, with other applied bits
abbrev pub record_as : List ℕ → Settings → ℕ → ℕ → BucketState → List ℕ
record_as l s q bits x = with_bucket_at l s q (with_applied x bits)

-- after the update's total was set at position p, and worker j's ticket settled with an answer's number and total
unfoldable pub put_at : List ℕ → Settings → ℕ → ℕ → ℕ → Position → Descriptor → ℕ → ℕ → List ℕ
put_at l s q bits j p u answer posted =
    record_as l s q bits (settle_of (put_of (bucket_at l s q) p u.account u.total) j u.ticket answer posted)

-- after worker j's update alone, which is not crowded
unfoldable pub changed_at : List ℕ → Settings → ℕ → ℕ → ℕ → Position → Descriptor → List ℕ
changed_at l s q bits j p u = record_as l s q bits (changed_of (bucket_at l s q) j p u)

-- after worker j's update alone
unfoldable pub own_at : List ℕ → Settings → ℕ → ℕ → ℕ → Descriptor → List ℕ
own_at l s q bits j u = record_as l s q bits (carry_of (bucket_at l s q) s j u)
