-- Bounds of the words of workers, slots and bucket records in words that fit. Rests on the regions of the lent words.
use Prim.Native.Nat.{ℕ, suc, ◌+◌, ◌*◌, ◌^◌, ◌≤◌, ◌<◌}
use native.Mathlib.Nat.{suc-mul, mul-le-mul, mul-le-mul_right, lt_of_lt_of_le}
use native.Mathlib.Omega.{arith}
use mathlib.Core.Path.{◌≡◌}
use mathlib.Core.List.{List}
use lib.Dec.{leb}
use lib.ListN.{length}
use lib.Pow.{pow_mono}
use borrow.Author.Tests.{leb-true}
use Rattle.interface.specs.Limits.{greatest_workers, greatest_capacity}
use Rattle.interface.specs.declared.Settings.{Settings}
use Rattle.fields.specs.Fields.{deepest, worker_size, widest_record}
use Rattle.fields.specs.Regions.{slot_at, worker_at, directory_start}
use Rattle.machine.specs.Sequential.{first_bits}
use Rattle.machine.proofs.laws.Base.{if_elim}
use Rattle.machine.proofs.laws.Bits.{bits_below}
use Rattle.memory.specs.Words.{least}
use Rattle.memory.proofs.Lesser.{least_bound}
use Rattle.layout.specs.Shape.{Fits, settings_of}
use Rattle.layout.specs.Addresses.{record_in, record_of, held_by}

-- ---- words that fit

pub fits_kept : {l m : List ℕ} {s : Settings} → length l ≡ length m → Fits l s → Fits m s
fits_kept e f =
    record {
      least = f.least;
      workers = f.workers;
      least-capacity = f.least-capacity;
      capacity = f.capacity;
      depth = f.depth;
      room = omega arith;
    }

pub workers_bound : (n w : ℕ) → n ≤ greatest_workers → w ≤ greatest_workers → w * worker_size n ≤ 448
workers_bound n w h k = let each : worker_size n ≤ 56 = omega arith in mul-le-mul k each

pub start_bound : (n : ℕ) → n ≤ greatest_workers → directory_start n ≤ 496
unfolding directory_start
start_bound n h = omega (arith, workers_bound n n h h)

worker_end : (n w : ℕ) → w < n → worker_at n w + worker_size n ≤ directory_start n
unfolding worker_at directory_start
worker_end n w h =
    let e = suc-mul w (worker_size n) in
    let k : suc w * worker_size n ≤ n * worker_size n = mul-le-mul_right (worker_size n) h in
    omega arith

worker_start : (n w : ℕ) → slot_at n ≤ worker_at n w
unfolding worker_at
worker_start n w = omega arith

pub settings_small : (x : ℕ) → (settings_of x).workers ≤ greatest_workers
unfolding settings_of
settings_small x = omega arith

-- a worker's record at p lies between the slots and the directory
pub record Placed (l : List ℕ) (s : Settings) (p : ℕ) : Type 0 where
  pub slots : slot_at s.workers ≤ p
  pub inside : p + worker_size s.workers + widest_record ≤ length l
  pub low : p + worker_size s.workers ≤ 496

module _ {l : List ℕ} {s : Settings} (fits : Fits l s) where
  pub placed : (w : ℕ) → w < s.workers → Placed l s (worker_at s.workers w)
  placed w h =
      let f : Fits l s = fits in
      let a = worker_start s.workers w in
      let b = worker_end s.workers w h in
      let c = start_bound s.workers f.workers in
      record { slots = a; inside = omega arith; low = omega arith }

  pub long : widest_record ≤ length l
  long = let f : Fits l s = fits in omega arith

-- ---- a bucket record

pub record_in_inside : (l : List ℕ) (q : ℕ) → widest_record ≤ length l → record_in l q + widest_record ≤ length l
unfolding record_in
record_in_inside l q h =
    if_elim (λ (r :
    ℕ). r + widest_record ≤ length l) (leb (q + widest_record) (length l)) q 0 (λ e. leb-true (q + widest_record) (length l) e) (λ e. h)

pub record_inside : {l : List ℕ} {s : Settings} → Fits l s → (a : ℕ) → record_of l s a + widest_record ≤ length l
unfolding record_of
record_inside {l} f a = record_in_inside l _ (long f)

pub held_inside : {l : List ℕ} {s : Settings} → Fits l s → (p : ℕ) → held_by l p + widest_record ≤ length l
unfolding held_by
held_inside {l} f p = record_in_inside l _ (long f)

pub bits_small : (a m : ℕ) → m ≤ deepest → first_bits m a < 2 ^ deepest
bits_small a m h = lt_of_lt_of_le (bits_below m a (omega arith)) (pow_mono h)

-- ---- the accounts of a record that are looked at

pub size_limit : {l : List ℕ} {s : Settings} (c x : ℕ) → Fits l s → c ≡ least x s.capacity → c ≤ greatest_capacity
size_limit {l} {s} c x f e =
    let n = least_bound x s.capacity in
    let m = f.capacity in
    omega arith
