-- The words needed are within document 01's limit, for all settings. Rests on arithmetic.
use Prim.Native.Nat.{ℕ, ◌+◌, ◌*◌, ◌^◌, ◌≤◌}
use native.Mathlib.Nat.{add-mul, mul_assoc, mul_comm, mul_left_comm, one-le-pow, mul-le-mul_left, le-mul_of_pos_right}
use native.Mathlib.Omega.{arith}
use mathlib.Core.Path.{◌≡◌, refl}
use mathlib.Core.Bool.{true}
use Rattle.interface.specs.Limits.{least_workers, least_capacity, least_depth, in_range, Range}
use Rattle.interface.specs.declared.Settings.{Settings}
use Rattle.interface.proofs.Laws.{range_of}
use Rattle.fields.specs.Fields.{header_size, slot_size, worker_size, record_size, spare_words, spare_records}
use Rattle.fields.specs.Regions.{directory_start, record_start, pool_size, words_needed, least_words, words_limit}

-- P stands for 2^M and c for b+n+4; every part of the sum is at most so many times P * c or n * (P * c)
sum_within :
    (n b P c : ℕ) → c ≡ b + n + 4 → 1 ≤ n → 2 ≤ b → 1 ≤ P
    → header_size + slot_size * n + n * worker_size n + P + (P + n + spare_records) * record_size b n + spare_words ≤ 16 * (2 * n + 1) * P * c
sum_within n b P c e one two positive =
    let workers : n * worker_size n ≤ 4 * (n * c) = rw (← mul_left_comm n 4 c) (mul-le-mul_left n (omega arith)) in
    let records : (P + n + spare_records) * record_size b n ≤ 3 * ((P + n + spare_records) * c) =
    rw (← mul_left_comm (P + n + spare_records) 3 c) (mul-le-mul_left _ (omega arith)) in
    let spread : (P + n + spare_records) * c ≡ P * c + n * c + spare_records * c = simp add-mul in
    let limit : 16 * (2 * n + 1) * P * c ≡ 32 * (n * (P * c)) + 16 * (P * c) = simp (mul_assoc, add-mul) (omega arith) in
    let c≤ : c ≤ P * c = rw (mul_comm c P) at (le-mul_of_pos_right c positive) in
    let P≤ : P ≤ P * c = le-mul_of_pos_right P (omega arith) in
    let nc≤ : n * c ≤ n * (P * c) = mul-le-mul_left n c≤ in
    let q≤ : P * c ≤ n * (P * c) = rw (mul_comm (P * c) n) at (le-mul_of_pos_right (P * c) one) in
    omega arith

-- "They are at most 16 × (2n+1) × 2^M × (b+n+4)."
pub within_limit : (s : Settings) → in_range s.workers s.capacity s.depth ≡ true → words_needed s ≤ words_limit s
unfolding words_needed record_start directory_start pool_size words_limit
within_limit s h =
    let r : Range s.workers s.capacity s.depth = range_of _ _ _ h in
    sum_within _ _ (2 ^ s.depth) _ refl r.least-workers r.least-capacity (one-le-pow s.depth 2 (omega arith))

pub least-words : words_needed (record { workers = least_workers; capacity = least_capacity; depth = least_depth }) ≡ least_words
unfolding words_needed record_start directory_start pool_size
least-words = refl

-- near the program's 8,192 words: the greatest capacity that they hold with 8 workers at depth 7, and settings that they do
-- not hold; and the greatest of all
pub needed_at_depth_7 : words_needed (record { workers = 8; capacity = 12; depth = 7 }) ≡ 8_137
unfolding words_needed record_start directory_start pool_size
needed_at_depth_7 = refl

pub needed_past_the_program : words_needed (record { workers = 5; capacity = 4; depth = 8 }) ≡ 8_200
unfolding words_needed record_start directory_start pool_size
needed_past_the_program = refl

pub needed_at_depth_8 : words_needed (record { workers = 8; capacity = 16; depth = 8 }) ≡ 17_305
unfolding words_needed record_start directory_start pool_size
needed_at_depth_8 = refl
