-- Laws of a bucket's state: its size, and each case of put and remove. Rests on the definitions of specs/State.
use Prim.Native.Nat.{ℕ, ◌+◌, ◌-◌, ◌≤◌, ◌<◌}
use mathlib.Core.Path.{◌≡◌, refl}
use mathlib.Core.Bool.{true, false}
use mathlib.Core.List.{List}
use native.Mathlib.Omega.{arith}
use lib.Dec.{ltb}
use lib.ListN.{length}
use lib.Seq.{set_out}
use borrow.Author.Tests.{ltb-true, ltb-false, lt-ltb, le-ltb}
use Rattle.machine.specs.Choice.{when◌then◌else◌}
use Rattle.machine.proofs.laws.Base.{if_elim, if_false}
use Rattle.bucket.specs.State.{array_size, size_of, put_of, remove_of}
use Rattle.arrays.specs.Arrays.{inserted_in, removed_from}
use Rattle.bucket.specs.declared.BucketState.{BucketState}
use Rattle.arrays.specs.declared.Position.TheVariants.{At, Before}

-- ---- the count

pub size_is : (x : BucketState) → x.count ≤ array_size → size_of x ≡ x.count
unfolding size_of
size_is x h =
    if_elim (λ (k : ℕ). k ≡ x.count) (ltb x.count array_size) x.count array_size (λ e. refl)
    (λ e. omega (arith, ltb-false x.count array_size e))

pub size_large : (x : BucketState) → array_size ≤ x.count → size_of x ≡ array_size
unfolding size_of
size_large x h = if_false x.count array_size (le-ltb x.count array_size h)

pub size_limit : (x : BucketState) → size_of x ≤ array_size
unfolding size_of
size_limit x =
    if_elim (λ (n : ℕ). n ≤ array_size) (ltb x.count array_size) x.count array_size
    (λ e. omega (arith, ltb-true x.count array_size e)) (λ e. omega arith)

-- ---- put and remove

module _ (x : BucketState) (n i : ℕ) (e : n ≡ size_of x) where
  pub put_new :
      (a v : ℕ) (ks vs : List ℕ) → n < array_size → ks ≡ inserted_in x.accounts n i a → vs ≡ inserted_in x.totals n i v
      → record {
        accounts = ks;
        totals = vs;
        settled = x.settled;
        answers = x.answers;
        posted = x.posted;
        count = n + 1;
        applied = x.applied;
      }
      ≡ put_of x (Before i) a v
  unfolding put_of when◌then◌else◌
  put_new a v ks vs h p q = let room : ltb (size_of x) array_size ≡ true = rw e at (lt-ltb n array_size h) in rw (room, p, q, e)

  pub put_none : (a v : ℕ) → array_size ≤ n → x ≡ put_of x (Before i) a v
  unfolding put_of when◌then◌else◌
  put_none a v h = let room : ltb (size_of x) array_size ≡ false = rw e at (le-ltb n array_size h) in rw room

  pub removed_at :
      (ks vs : List ℕ) (k : ℕ) → ks ≡ removed_from x.accounts n i → vs ≡ removed_from x.totals n i → k ≡ n - 1
      → record {
        accounts = ks;
        totals = vs;
        settled = x.settled;
        answers = x.answers;
        posted = x.posted;
        count = k;
        applied = x.applied;
      }
      ≡ remove_of x (At i)
  unfolding remove_of
  removed_at ks vs k p q r = rw (p, q, r, e)

-- a position past the array
pub put_past : (x : BucketState) (a v i : ℕ) → length x.totals ≤ i → x ≡ put_of x (At i) a v
unfolding put_of
put_past x a v i h = rw (set_out x.totals i v h)
