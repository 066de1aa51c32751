-- Laws of words copied into an array of a state. Rests on the definition of loads.
use Prim.Native.Nat.{ℕ, zero, suc, ◌+◌, ◌≤◌, ◌<◌}
use mathlib.Core.Path.{◌≡◌, refl, ◌∙◌}
use mathlib.Core.Logic.{⊎_elim}
use mathlib.Core.List.{List}
use native.Mathlib.Nat.{eq-or-lt_of_le, le_of_suc-le-suc}
use native.Mathlib.Numerals.{add-one}
use native.Mathlib.Omega.{arith}
use lib.ListN.{length, get_or, set, length-set}
use lib.Seq.{get_or-set_same, get_or-set_other}
use Rattle.interface.specs.Limits.{greatest_capacity}
use Rattle.record.specs.Loads.{copied}

-- ---- words copied into an array

pub copied_more : (a l : List ℕ) (at i : ℕ) → a ≡ copied l at i → set a i (get_or l (at + i) 0) ≡ copied l at (i + 1)
unfolding copied
copied_more a l at i e = rw (e, add-one)

pub length_copied : (l : List ℕ) (at k : ℕ) → length (copied l at k) ≡ greatest_capacity
unfolding copied
length_copied l at zero = refl
length_copied l at (suc k) = length-set (copied l at k) k (get_or l (at + k) 0) ∙ length_copied l at k

pub get_d_copied : (l : List ℕ) (at k i : ℕ) → k ≤ greatest_capacity → i < k → get_or (copied l at k) i 0 ≡ get_or l (at + i) 0
unfolding copied
get_d_copied l at zero i h p = absurd (omega arith)
get_d_copied l at (suc k) i h p =
    let n = length_copied l at k in
    ⊎_elim
    (λ e. rw e (get_or-set_same (copied l at k) k (get_or l (at + k) 0) 0 (omega arith)))
    (λ m. get_or-set_other (copied l at k) k i (get_or l (at + k) 0) 0 (λ e. omega arith) ∙ get_d_copied l at k i (omega arith) m)
    (eq-or-lt_of_le (le_of_suc-le-suc p))

pub copied_same :
    (l m : List ℕ) (at to k : ℕ) → ((i : ℕ) → i < k → get_or l (at + i) 0 ≡ get_or m (to + i) 0) → copied l at k ≡ copied m to k
unfolding copied
copied_same l m at to zero h = refl
copied_same l m at to (suc k) h = rw (copied_same l m at to k (λ i p. h i (omega arith)), h k (omega arith))
