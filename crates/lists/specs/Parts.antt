-- Runs of items in a list: what stands there, and the list with another run there. Rests on nothing.
use Rattle.std.specs.Prelude.{ℕ, ◌+◌, List, ◌++◌, length, take, drop}

-- the run of `size` items at `at`
unfoldable pub part : {A : Type 0} → List A → ℕ → ℕ → List A
part l at size = take size (drop at l)

-- a list with the run xs at `at`
unfoldable pub overlay : {A : Type 0} → List A → ℕ → List A → List A
overlay l at xs = take at l ++ xs ++ drop (at + length xs) l
