-- A bucket's record by the machine's names, for any words: its state, when it is full and what follows from it, and
-- what is settled in it. Rests on loads and on the rules.
use Rattle.std.specs.Prelude.{ℕ, ◌+◌, Bool, List}
use Rattle.interface.specs.declared.Settings.{Settings}
use Rattle.fields.specs.Fields.{record_count, record_depth, settled_from, answers_from, posted_from}
use Rattle.rules.specs.Rules.{holds_back_by, splittable_by}
use Rattle.bucket.specs.declared.BucketState.{BucketState}
use Rattle.record.specs.Loads.{loaded_state}
use Rattle.layout.specs.Shape.{word}

-- ---- a bucket's record, by the machine's names

abbrev pub bucket_at : List ℕ → Settings → ℕ → BucketState
bucket_at l s q = loaded_state l q s.capacity s.workers

abbrev pub holds_back_at : List ℕ → Settings → ℕ → Bool
holds_back_at l s q = holds_back_by s (word l (q + record_depth)) (word l (q + record_count))

abbrev pub splittable_at : List ℕ → Settings → ℕ → Bool
splittable_at l s q = splittable_by s (word l (q + record_depth)) (word l (q + record_count))

-- worker j's last settled ticket, its answer's number, and the word of the total that the answer has
abbrev pub settled_ticket : List ℕ → Settings → ℕ → ℕ → ℕ
settled_ticket l s q j = word l (settled_from q s.capacity + j)

abbrev pub settled_answer : List ℕ → Settings → ℕ → ℕ → ℕ
settled_answer l s q j = word l (answers_from q s.capacity s.workers + j)

abbrev pub settled_total : List ℕ → Settings → ℕ → ℕ → ℕ
settled_total l s q j = word l (posted_from q s.capacity s.workers + j)
