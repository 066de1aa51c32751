-- What a bucket record's words are as a bucket state. Only the accounts that are there are copied. Rests on the fields
-- of a bucket record.
use Rattle.std.specs.Prelude.{ℕ, zero, suc, ◌+◌, List, get_or, set, replicate}
use Rattle.bucket.specs.declared.BucketState.{BucketState}
use Rattle.interface.specs.Limits.{greatest_capacity}
use Rattle.fields.specs.Fields.{record_count, record_applied, accounts_from, totals_from, settled_from, answers_from, posted_from}
use Rattle.memory.specs.Words.{least}

-- k words from `at` on, and zeros after them: an array of a state
unfoldable pub copied : List ℕ → ℕ → ℕ → List ℕ
copied l at zero = replicate greatest_capacity 0
copied l at (suc k) = set (copied l at k) k (get_or l (at + k) 0)

-- the state in the record at q
unfoldable pub loaded_state : List ℕ → ℕ → ℕ → ℕ → BucketState
loaded_state l q b n =
    let c : ℕ = least (get_or l (q + record_count) 0) b in
    record {
      accounts = copied l (accounts_from q) c;
      totals = copied l (totals_from q b) c;
      settled = copied l (settled_from q b) n;
      answers = copied l (answers_from q b n) n;
      posted = copied l (posted_from q b n) n;
      count = c;
      applied = get_or l (q + record_applied) 0;
    }
