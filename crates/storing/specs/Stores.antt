-- The words with a bucket state stored in a bucket's record. Only the accounts that are there are copied. Rests on the
-- fields of a bucket record.
use Rattle.std.specs.Prelude.{ℕ, ◌+◌, List, set}
use Rattle.interface.specs.declared.Settings.{Settings}
use Rattle.bucket.specs.declared.BucketState.{BucketState}
use Rattle.fields.specs.Fields.{record_count, record_applied, accounts_from, totals_from, settled_from, answers_from, posted_from}
use Rattle.memory.specs.Words.{least, stored}

-- the words with state x in the record at q; its toggle, depth, prefix and number stay
unfoldable pub stored_state : List ℕ → ℕ → ℕ → ℕ → BucketState → List ℕ
stored_state l q b n x =
    let c : ℕ = least x.count b in
    let l₁ : List ℕ = set (set l (q + record_count) c) (q + record_applied) x.applied in
    let l₂ : List ℕ = stored l₁ (accounts_from q) x.accounts c in
    let l₃ : List ℕ = stored l₂ (totals_from q b) x.totals c in
    let l₄ : List ℕ = stored l₃ (settled_from q b) x.settled n in
    let l₅ : List ℕ = stored l₄ (answers_from q b n) x.answers n in
    stored l₅ (posted_from q b n) x.posted n

-- the same, by the machine's names
abbrev pub with_bucket_at : List ℕ → Settings → ℕ → BucketState → List ℕ
with_bucket_at l s q x = stored_state l q s.capacity s.workers x
