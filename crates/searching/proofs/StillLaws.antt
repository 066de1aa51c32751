-- Which answers leave every table as it is, by their numbers. Rests on the definition.
use Prim.Native.Nat.{ℕ}
use native.Mathlib.Omega.{arith}
use mathlib.Core.Path.{◌≡◌}
use mathlib.Core.Logic.{◌⊎◌, ◌≢◌}
use mathlib.Core.Bool.{true, false}
use mathlib.Core.List.{List}
use Rattle.std.proofs.lemmas.Bool.Decides.{nat_tests}
use Rattle.machine.specs.Choice.{when◌then◌else◌}
use Rattle.logs.specs.Log.{word_at, logged_answer}
use Rattle.replay.specs.Replay.{is_still, still_at}

abbrev Is : ℕ → Type 0
Is w = (w ≡ 21) ⊎ (w ≡ 22) ⊎ (w ≡ 20) ⊎ (w ≡ 25) ⊎ (w ≡ 27)

abbrev Not : ℕ → Type 0
Not w = (w ≢ 21) × (w ≢ 22) × (w ≢ 20) × (w ≢ 25) × (w ≢ 27)

tells : (w : ℕ) → ((is_still w ≡ true) × Is w) ⊎ ((is_still w ≡ false) × Not w)
unfolding is_still when◌then◌else◌
tells w = grind (arith, nat_tests)

pub still_tells :
    (l : List ℕ) (i : ℕ)
    → ((still_at l i ≡ true) × Is (word_at l i logged_answer)) ⊎ ((still_at l i ≡ false) × Not (word_at l i logged_answer))
unfolding still_at
still_tells l i = tells (word_at l i logged_answer)
