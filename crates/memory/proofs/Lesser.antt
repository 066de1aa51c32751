-- Laws of the lesser of two numbers. Rests on its definition.
use Prim.Native.Nat.{ℕ, ◌≤◌, ◌<◌, min}
use mathlib.Core.Path.{◌≡◌, refl, sym, ◌∙◌}
use mathlib.Core.Logic.{by_cases}
use mathlib.Core.Bool.{Bool, true, false}
use native.Mathlib.Omega.{arith}
use native.Mathlib.Decide.{dec_lt}
use lib.Dec.{ltb}
use borrow.Author.Tests.{ltb-true, ltb-false, lt-ltb, le-ltb}
use Rattle.machine.specs.Choice.{when◌then◌else◌}
use Rattle.memory.specs.Words.{least}
use Rattle.machine.proofs.laws.Base.{if_true, if_false}

pub least_bound : (a b : ℕ) → least a b ≤ b
unfolding least when◌then◌else◌
least_bound a b = go (ltb a b) refl
  where
    go : (t : Bool) → ltb a b ≡ t → (when t then a else b) ≤ b
    go true e = let h = ltb-true a b e in omega arith
    go false e = omega arith

pub least_same : (a b : ℕ) → a ≤ b → least a b ≡ a
unfolding least when◌then◌else◌
least_same a b h = go (ltb a b) refl
  where
    go : (t : Bool) → ltb a b ≡ t → (when t then a else b) ≡ a
    go true e = refl
    go false e = let k = ltb-false a b e in omega arith

pub count_bound : (a b c : ℕ) → c ≡ least a b → c ≤ b
count_bound a b c e = rw e (least_bound a b)

pub least_small : (a b : ℕ) → a < b → a ≡ least a b
unfolding least
least_small a b h = sym (if_true a b (lt-ltb a b h))

pub least_large : (a b : ℕ) → b ≤ a → b ≡ least a b
unfolding least
least_large a b h = sym (if_false a b (le-ltb a b h))

-- the library's lesser is the same
pub least_min : (a b : ℕ) → min a b ≡ least a b
least_min a b =
    by_cases (dec_lt a b)
    (λ h. let e : min a b ≡ a = omega arith in e ∙ least_small a b h)
    (λ h. let e : min a b ≡ b = omega arith in e ∙ least_large a b (omega arith))
