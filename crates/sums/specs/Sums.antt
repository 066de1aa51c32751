-- The sum of what two words keep, as a word where it is a total. Rests on the range of totals, and on how a word keeps
-- one.
use Rattle.std.specs.Prelude.{ℕ, ℤ, ◌+ℤ◌, Option, Some, None}
use Rattle.std.specs.Int.{w64}
use Rattle.std.proofs.Common.{to_z, of_z}
use Rattle.machine.specs.Choice.{when◌then◌else◌}
use Rattle.machine.specs.Sequential.{is_total}

-- the sum of a total and an amount
unfoldable pub added : ℕ → ℕ → ℤ
added total amount = to_z w64 total +ℤ to_z w64 amount

-- "A sum outside the 64-bit signed range is turned down"
unfoldable pub sum_of : ℕ → ℕ → Option ℕ
sum_of total amount = when is_total (added total amount) then Some (of_z w64 (added total amount)) else None
