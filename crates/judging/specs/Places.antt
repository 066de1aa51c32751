-- The places of a log, all of them left. Rests on nothing.
use Rattle.std.specs.Prelude.{ℕ, ◌-◌, List, ◌++◌, replicate}
use Rattle.logs.specs.Log.{greatest_operations}

-- 1 at each of the first n places, 0 at the others
unfoldable pub all_left : ℕ → List ℕ
all_left n = replicate n 1 ++ replicate (greatest_operations - n) 0
