-- What a split's half takes of a bucket's state, for any field values. Rests on the definitions on a state.
use Rattle.std.specs.Prelude.{ℕ, zero, suc, ◌-◌, List, [], ◌∷◌, ◌++◌, map, eqb, length, get_or, replicate}
use Rattle.machine.specs.Choice.{when◌then◌else◌}
use Rattle.machine.specs.Sequential.{first_bits}
use Rattle.bucket.specs.declared.BucketState.{BucketState}
use Rattle.bucket.specs.State.{array_size, size_of}

-- the positions below k whose account has the first d bits q
unfoldable pub keeps : List ℕ → ℕ → ℕ → ℕ → List ℕ
keeps accounts d q zero = []
keeps accounts d q (suc k) =
    when eqb (first_bits d (get_or accounts k 0)) q then keeps accounts d q k ++ k ∷ [] else keeps accounts d q k

-- the items at these positions, and zeros after them, as many as an array has
unfoldable pub gathered : List ℕ → List ℕ → List ℕ
gathered l positions = map (λ i. get_or l i 0) positions ++ replicate (array_size - length positions) 0

-- "all settled tickets and answers copied", an answer's total with it, applied bits 0, and the accounts with the first
-- d bits q, in their order
unfoldable pub half_of : BucketState → ℕ → ℕ → BucketState
half_of x d q =
    let positions : List ℕ = keeps x.accounts d q (size_of x) in
    record {
      accounts = gathered x.accounts positions;
      totals = gathered x.totals positions;
      settled = x.settled;
      answers = x.answers;
      posted = x.posted;
      count = length positions;
      applied = 0;
    }
