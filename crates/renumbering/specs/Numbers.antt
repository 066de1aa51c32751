-- Numbers of states and of the directory, used again: the least one that no worker has read at this record.
-- Rests on the regions of the lent words.
use Rattle.std.specs.Prelude.{ℕ, zero, suc, ◌+◌, Bool, true, false, List, eqb}
use Rattle.machine.specs.Choice.{when◌then◌else◌, ◌and◌}
use Rattle.layout.specs.Shape.{word}
use Rattle.fields.specs.Fields.{worker_held, worker_state, worker_directory}
use Rattle.fields.specs.Regions.{worker_at}

-- some number below n passes the test
unfoldable pub any : ℕ → (ℕ → Bool) → Bool
any zero f = false
any (suc j) f = when f j then true else any j f

-- word k of some worker's record is x
abbrev pub any_has : List ℕ → ℕ → ℕ → ℕ → Bool
any_has l n k x = any n (λ j. eqb (word l (worker_at n j + k)) x)

-- the least number from i on that is not taken, at most i + k
unfoldable pub least_free : (ℕ → Bool) → ℕ → ℕ → ℕ
least_free taken i zero = i
least_free taken i (suc k) = when taken i then least_free taken (suc i) k else i

-- a worker that holds record q has read its state under number x
unfoldable pub number_taken : List ℕ → ℕ → ℕ → ℕ → Bool
number_taken l n q x =
    any n (λ j. eqb (word l (worker_at n j + worker_held)) q and eqb (word l (worker_at n j + worker_state)) x)

-- "none that a worker still refers to is used again": the next number of record q's state
unfoldable pub fresh_number : List ℕ → ℕ → ℕ → ℕ
fresh_number l n q = least_free (number_taken l n q) 0 n

unfoldable pub directory_taken : List ℕ → ℕ → ℕ → Bool
directory_taken l n x = any_has l n worker_directory x

unfoldable pub fresh_directory : List ℕ → ℕ → ℕ
fresh_directory l n = least_free (directory_taken l n) 0 n
