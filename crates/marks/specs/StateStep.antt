-- A state step of the directory pass on the words, for any words: whether it marks a bucket, and the mark. Rests on the
-- rules, on what is settled in a bucket's record, and on the regions of the lent words. The worker's record is at p; a
-- bucket's record is at q.
use Rattle.std.specs.Prelude.{ℕ, ◌+◌, Bool, not, List, ltb, eqb, set}
use Rattle.interface.specs.Numbers.{kind_none}
use Rattle.interface.specs.declared.Settings.{Settings}
use Rattle.fields.specs.Fields.{slot_kind, slot_ticket, worker_marks}
use Rattle.fields.specs.Regions.{read_at}
use Rattle.machine.specs.Choice.{when◌then◌else◌, ◌and◌}
use Rattle.layout.specs.Shape.{word}
use Rattle.layout.specs.Addresses.{marked_at, record_for}
use Rattle.renumbering.specs.Numbers.{any}
use Rattle.record.specs.Bucket.{splittable_at, settled_ticket}
use Rattle.rules.specs.Rules.{with_bit}

-- a step of this round has found the bucket before
unfoldable pub found_before : List ℕ → Settings → ℕ → ℕ → ℕ → Bool
found_before l s p j q = any j (λ i. marked_at l p i and eqb (record_for l s p i) q)

-- "If that bucket is full, below depth M, and the ticket there is unsettled"
unfoldable pub splits_at : List ℕ → Settings → ℕ → ℕ → ℕ → Bool
splits_at l s p j q = splittable_at l s q and ltb (settled_ticket l s q j) (word l (read_at p j + slot_ticket))

unfoldable pub marks : List ℕ → Settings → ℕ → ℕ → Bool
marks l s p j =
    let q : ℕ = record_for l s p j in
    not (eqb (word l (read_at p j + slot_kind)) kind_none) and splits_at l s p j q and not (found_before l s p j q)

unfoldable pub state_step_at : List ℕ → Settings → ℕ → ℕ → List ℕ
state_step_at l s p j = when marks l s p j then set l (p + worker_marks) (with_bit (word l (p + worker_marks)) j) else l
