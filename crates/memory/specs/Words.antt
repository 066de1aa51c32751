-- The lesser of two numbers, and the words with a part of an array stored in them. Rests on overlays.
use Rattle.std.specs.Prelude.{ℕ, ltb, List, take}
use Rattle.machine.specs.Choice.{when◌then◌else◌}
use Rattle.lists.specs.Parts.{overlay}

unfoldable pub least : ℕ → ℕ → ℕ
least a b = when ltb a b then a else b

-- the words with the first k items of an array at `at`
unfoldable pub stored : List ℕ → ℕ → List ℕ → ℕ → List ℕ
stored l at a k = overlay l at (take k a)
