-- A bucket split in place, on the words. Rests on a record's words as a bucket, and on spare records.
use Rattle.std.specs.Prelude.{ℕ, zero, suc, ◌+◌, ◌-◌, ◌*◌, ◌%◌, ◌^◌, List, ltb, set, replicate}
use Rattle.interface.specs.declared.Settings.{Settings}
use Rattle.machine.specs.Choice.{when◌then◌else◌}
use Rattle.fields.specs.Fields.{header_depth, header_spare, record_toggle, record_depth, record_prefix, record_number}
use Rattle.fields.specs.Regions.{directory_start, record_start}
use Rattle.halves.specs.Halves.{half_of}
use Rattle.bucket.specs.declared.BucketState.{BucketState}
use Rattle.lists.specs.Parts.{overlay}
use Rattle.layout.specs.Shape.{word}
use Rattle.spares.specs.Records.{first_entry, spare_of}
use Rattle.layout.specs.Addresses.{record_of}
use Rattle.record.specs.Bucket.{bucket_at, splittable_at}
use Rattle.storing.specs.Stores.{with_bucket_at}

-- a new bucket of depth d and prefix q in the record at r, with state x: number 0, all bits 0
unfoldable pub made_at : List ℕ → Settings → ℕ → ℕ → ℕ → BucketState → List ℕ
made_at l s r d q x =
    let l₂ : List ℕ = set (set l (r + record_toggle) 0) (r + record_depth) d in
    with_bucket_at (set (set l₂ (r + record_prefix) q) (r + record_number) 0) s r x

-- the directory's entries of a bucket of depth d and prefix q name the record at r
unfoldable pub directed_at : List ℕ → Settings → ℕ → ℕ → ℕ → List ℕ
directed_at l s d q r = overlay l (directory_start s.workers + first_entry s d q) (replicate (2 ^ (s.depth - d)) r)

-- one half, in a spare record; the header then has the number after it
unfoldable pub half_at : List ℕ → Settings → ℕ → ℕ → BucketState → List ℕ
half_at l s d q x =
    let r : ℕ = spare_of l s in
    directed_at (set (made_at l s (record_start s r) d q (half_of x d q)) header_spare (suc r)) s d q (record_start s r)

-- "The directory doubles when d+1 exceeds its depth."
unfoldable pub deepened_at : List ℕ → ℕ → List ℕ
deepened_at l d = when ltb (word l header_depth) d then set l header_depth d else l

-- the bucket in the record at q becomes two; depth and prefix are read as ones below M
unfoldable pub split_at : List ℕ → Settings → ℕ → List ℕ
split_at l s q =
    let d : ℕ = word l (q + record_depth) % s.depth + 1 in
    let prefix : ℕ = 2 * (word l (q + record_prefix) % 2 ^ (d - 1)) in
    let x : BucketState = bucket_at l s q in
    half_at (half_at (deepened_at l d) s d prefix x) s d (prefix + 1) x

-- "split while full and below depth M": at most so often
unfoldable pub split_while_at : List ℕ → Settings → ℕ → ℕ → List ℕ
split_while_at l s a zero = l
split_while_at l s a (suc f) =
    let q : ℕ = record_of l s a in
    when splittable_at l s q then split_while_at (split_at l s q) s a f else l
