-- The rebate on the figures of document 02, about each band's edge and where the rounding turns, at both ends of the range: computed.
use Prim.Native.Nat.{ℕ, ◌-◌, ◌^◌}
use mathlib.Core.Path.{◌≡◌, refl}
use mathlib.Core.List.{List, [], ◌∷◌, map}
use lib.IntN.{ℤ, pos, negsuc}
use Rattle.rebate.specs.Rebate.{inside, due_by, rounded, rebate_on}

abbrev pub Case : Type 0
Case = ℤ × ℕ

abbrev pub Holds : List Case → Type 0
Holds cases = map (λ c. rebate_on c.0) cases ≡ map (λ c. c.1) cases

-- "So 6,000,000 gives 85,000; 1,000,033 gives 0; 1,000,034 gives 1."
pub figures : Holds ((pos 6_000_000, 85_000) ∷ (pos 1_000_033, 0) ∷ (pos 1_000_034, 1) ∷ [])
unfolding rebate_on rounded due_by inside
figures = refl

-- a band's end belongs to it, and the next one starts above it
pub edges : Holds (
    (pos 0, 0) ∷ (pos 1, 0) ∷ (pos 999_999, 0) ∷ (pos 1_000_000, 0) ∷ (pos 1_000_001, 0)
    ∷ (pos 4_999_999, 60_000) ∷ (pos 5_000_000, 60_000) ∷ (pos 5_000_001, 60_000)
    ∷ (pos 19_999_999, 435_000) ∷ (pos 20_000_000, 435_000) ∷ (pos 20_000_001, 435_000) ∷ [])
unfolding rebate_on rounded due_by inside
edges = refl

-- "half upward": in each band just below half a cent, and half a cent
pub halves : Holds (
    (pos 1_000_099, 1) ∷ (pos 1_000_100, 2) ∷ (pos 5_000_019, 60_000) ∷ (pos 5_000_020, 60_001)
    ∷ (pos 20_000_099, 435_003) ∷ (pos 20_000_100, 435_004) ∷ [])
unfolding rebate_on rounded due_by inside
halves = refl

-- "Every 64-bit total must work."
pub ends : Holds ((negsuc 0, 0) ∷ (negsuc (2 ^ 63 - 1), 0) ∷ (pos (2 ^ 63 - 1), 322_818_021_289_652_153) ∷ [])
unfolding rebate_on rounded due_by inside
ends = refl
