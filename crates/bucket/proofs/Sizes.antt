-- A state's arrays keep their items, and its count grows by one at most. Rests on the definitions of specs/State.
use mathlib.Core.Path.{◌≡◌, ◌∙◌}
use lib.ListN.{length, length-set}
use Prim.Native.Nat.{ℕ, ◌+◌, ◌≤◌}
use lib.Dec.{ltb}
use native.Mathlib.Omega.{arith}
use borrow.Author.Tests.{ltb-false}
use Rattle.interface.specs.Limits.{greatest_capacity}
use Rattle.bucket.specs.declared.BucketState.{BucketState}
use Rattle.machine.proofs.laws.Base.{if_elim}
use Rattle.bucket.specs.State.{array_size, size_of, put_of, remove_of, settle_of}
use Rattle.arrays.specs.declared.Position.{Position}
use Rattle.arrays.specs.declared.Position.TheVariants.{At, Before}
use Rattle.arrays.proofs.Laws.{length_inserted, length_removed}

-- the arrays of a state have so many items each
pub record Sized (s : BucketState) : Type 0 where
  pub accounts : length s.accounts ≡ greatest_capacity
  pub totals : length s.totals ≡ greatest_capacity
  pub settled : length s.settled ≡ greatest_capacity
  pub answers : length s.answers ≡ greatest_capacity
  pub posted : length s.posted ≡ greatest_capacity

-- ---- a state's arrays keep their items

pub put_sized : (x : BucketState) (p : Position) (a v : ℕ) → Sized x → Sized (put_of x p a v)
unfolding put_of
put_sized x (At i) a v z =
    record {
      accounts = z.accounts;
      totals = length-set x.totals i v ∙ z.totals;
      settled = z.settled;
      answers = z.answers;
      posted = z.posted;
    }
put_sized x (Before i) a v z =
    if_elim Sized (ltb (size_of x) array_size) _ x
    (λ t. record {
      accounts = length_inserted x.accounts (size_of x) i a ∙ z.accounts;
      totals = length_inserted x.totals (size_of x) i v ∙ z.totals;
      settled = z.settled;
      answers = z.answers;
      posted = z.posted;
    })
    (λ t. z)

pub remove_sized : (x : BucketState) (p : Position) → Sized x → Sized (remove_of x p)
unfolding remove_of
remove_sized x (At i) z =
    record {
      accounts = length_removed x.accounts (size_of x) i ∙ z.accounts;
      totals = length_removed x.totals (size_of x) i ∙ z.totals;
      settled = z.settled;
      answers = z.answers;
      posted = z.posted;
    }
remove_sized x (Before i) z = z

pub settle_sized : (x : BucketState) (j t a v : ℕ) → Sized x → Sized (settle_of x j t a v)
unfolding settle_of
settle_sized x j t a v z =
    record {
      accounts = z.accounts;
      totals = z.totals;
      settled = length-set x.settled j t ∙ z.settled;
      answers = length-set x.answers j a ∙ z.answers;
      posted = length-set x.posted j v ∙ z.posted;
    }

-- ---- the count

-- an update adds at most one account, a delete none
module _ (x : BucketState) where
  pub size_bound : size_of x ≤ x.count
  unfolding size_of
  size_bound =
      if_elim (λ (k : ℕ). k ≤ x.count) (ltb x.count array_size) _ _ (λ e. omega arith)
      (λ e. omega (arith, ltb-false x.count array_size e))

  pub put_count : (p : Position) (a v : ℕ) → (put_of x p a v).count ≤ x.count + 1
  unfolding put_of
  put_count (At i) a v = omega arith
  put_count (Before i) a v =
      if_elim (λ (z : BucketState). z.count ≤ x.count + 1) (ltb (size_of x) array_size) _ _ (λ e. let h = size_bound in omega arith)
      (λ e. omega arith)

  pub remove_count : (p : Position) → (remove_of x p).count ≤ x.count
  unfolding remove_of
  remove_count (At i) = let h = size_bound in omega arith
  remove_count (Before i) = omega arith
