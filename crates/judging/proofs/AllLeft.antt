-- All places of a log left, as the search is given them. Rests on the definition.
use Prim.Native.Nat.{ℕ, zero, suc, ◌-◌, ◌≤◌, ◌<◌}
use native.Mathlib.Omega.{arith}
use mathlib.Core.Path.{◌≡◌, refl, fun_ext}
use mathlib.Core.Bool.{Bool, true, false}
use mathlib.Core.List.{List, ◌++◌}
use lib.Dec.{ltb, eqb}
use lib.ListN.{get_or, replicate}
use borrow.Author.Tests.{ltb-true, ltb-false}
use Rattle.searching.specs.Searching.{is_left}
use Rattle.judging.specs.Places.{all_left}

abbrev flags : ℕ → ℕ → List ℕ
flags n k = replicate n 1 ++ replicate k 0

zero_of : (k i : ℕ) → get_or (flags 0 k) i 0 ≡ 0
zero_of zero i = refl
zero_of (suc k) zero = refl
zero_of (suc k) (suc i) = zero_of k i

one_at : (n k i : ℕ) → i < n → get_or (flags n k) i 0 ≡ 1
one_at zero k i h = absurd (omega arith)
one_at (suc n) k zero h = refl
one_at (suc n) k (suc i) h = one_at n k i (omega arith)

zero_at : (n k i : ℕ) → n ≤ i → get_or (flags n k) i 0 ≡ 0
zero_at zero k i h = zero_of k i
zero_at (suc n) k zero h = absurd (omega arith)
zero_at (suc n) k (suc i) h = zero_at n k i (omega arith)

left_at : (n k i : ℕ) → eqb (get_or (flags n k) i 0) 1 ≡ ltb i n
left_at n k i = go (ltb i n) refl
  where
    go : (t : Bool) → ltb i n ≡ t → eqb (get_or (flags n k) i 0) 1 ≡ t
    go true e = rw (one_at n k i (ltb-true i n e))
    go false e = rw (zero_at n k i (ltb-false i n e))

pub all-left : (n : ℕ) → is_left (all_left n) ≡ (λ i. ltb i n)
unfolding is_left all_left
all-left n = fun_ext (λ i. left_at n (12 - n) i)
