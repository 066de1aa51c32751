-- Two different records never share a word, and each lies inside the words needed: laws of the layout, and of reading and writing a region.
-- Rests on the laws of runs of words.
use Prim.Native.Nat.{ℕ, zero, suc, ◌+◌, ◌*◌, ◌^◌, ◌≤◌, ◌<◌}
use native.Mathlib.Nat.{suc-mul, mul-le-mul_right, eq_of_mul-eq-mul_right, eq-or-lt_of_le}
use native.Mathlib.Omega.{arith}
use native.Mathlib.Decide.{dec_lt}
use mathlib.Core.Path.{◌≡◌, refl}
use mathlib.Core.Logic.{◌≢◌, ◌⊎◌, inl, inr, ⊎_elim}
use mathlib.Core.List.{List, [], ◌∷◌}
use lib.ListN.{length, get_or}
use Rattle.interface.specs.declared.Settings.{Settings}
use Rattle.fields.specs.Fields.{header_size, slot_size, worker_size, record_size, widest_record, spare_words}
use Rattle.fields.specs.Regions.{words_needed, Region, header, slot, worker, entry, record', start_of, region_size, Within, read, write, pool_size, worker_at, directory_start, record_start}
use Rattle.lists.proofs.PartLaws.{length_part, length_overlay, part_here, part_before, part_after}

-- ---- the layout as five arrays of regions, one behind the other

-- the array that a region is of, and its index there
kind_of : Region → ℕ
kind_of header = 0
kind_of (slot j) = 1
kind_of (worker j) = 2
kind_of (entry e) = 3
kind_of (record' r) = 4

index_of : Region → ℕ
index_of header = 0
index_of (slot j) = j
index_of (worker j) = j
index_of (entry e) = e
index_of (record' r) = r

-- array k: how many regions it has, the words of each, and where it starts
count_of : Settings → ℕ → ℕ
count_of s k = get_or (1 ∷ s.workers ∷ s.workers ∷ 2 ^ s.depth ∷ pool_size s ∷ []) k 0

each_of : Settings → ℕ → ℕ
each_of s k = get_or (header_size ∷ slot_size ∷ worker_size s.workers ∷ 1 ∷ record_size s.capacity s.workers ∷ []) k 0

base_of : Settings → ℕ → ℕ
base_of s zero = 0
base_of s (suc k) = base_of s k + count_of s k * each_of s k

-- what the layout says of a region that there is
record Lies (s : Settings) (r : Region) : Type 0 where
  kind : kind_of r < 5
  index : index_of r < count_of s (kind_of r)
  start : start_of s r ≡ base_of s (kind_of r) + index_of r * each_of s (kind_of r)
  size : region_size s r ≡ each_of s (kind_of r)

lies : (s : Settings) (r : Region) → Within s r → Lies s r
unfolding start_of region_size worker_at directory_start record_start kind_of index_of count_of each_of base_of
lies s header w = omega arith
lies s (slot j) w = omega arith
lies s (worker j) w = omega arith
lies s (entry e) w = omega arith
lies s (record' r) w = omega arith

needed_is : (s : Settings) → words_needed s ≡ base_of s 5 + spare_words
unfolding words_needed record_start directory_start pool_size count_of each_of base_of
needed_is s = omega arith

region_at : ℕ → ℕ → Region
region_at k i = get_or (header ∷ slot i ∷ worker i ∷ entry i ∷ record' i ∷ []) k header

region-at : (r : Region) → region_at (kind_of r) (index_of r) ≡ r
unfolding kind_of index_of region_at
region-at header = refl
region-at (slot j) = refl
region-at (worker j) = refl
region-at (entry e) = refl
region-at (record' r) = refl

-- a region is known by its array and its index there
same_region : (r q : Region) → kind_of r ≡ kind_of q → index_of r ≡ index_of q → r ≡ q
same_region r q k i = cc (region-at r, region-at q)

-- ---- regions are apart and inside

-- one ends no later than the next ones start
next_index : (i j size : ℕ) → i < j → i * size + size ≤ j * size
next_index i j size h = let e = suc-mul i size in let k = mul-le-mul_right size h in omega arith

module _ (s : Settings) where
  bases_rise : (j k : ℕ) → j ≤ k → base_of s j ≤ base_of s k
  unfolding base_of
  bases_rise j zero h = let e : j ≡ 0 = omega arith in rw e (omega arith)
  bases_rise j (suc k) h =
      ⊎_elim (λ e. rw e (omega arith)) (λ (b : j < suc k). let m = bases_rise j k (omega arith) in omega arith) (eq-or-lt_of_le h)

  region_end : (r : Region) → Lies s r → start_of s r + region_size s r ≤ base_of s (suc (kind_of r))
  unfolding base_of
  region_end r lr = let k = next_index _ _ (each_of s (kind_of r)) lr.index in omega arith

  -- a region ends no later than one in a later array starts, or one at a later index in the same array
  later_array : (r q : Region) → Lies s r → Lies s q → kind_of r < kind_of q → start_of s r + region_size s r ≤ start_of s q
  later_array r q lr lq h = let k = region_end r lr in let m = bases_rise (suc (kind_of r)) (kind_of q) h in omega arith

  later_index :
      (r q : Region) → Lies s r → Lies s q → kind_of r ≡ kind_of q → index_of r < index_of q
      → start_of s r + region_size s r ≤ start_of s q
  later_index r q lr lq e h = let k = next_index _ _ (each_of s (kind_of r)) h in rw (lq.start, ← e) (omega arith)

  -- two different regions share no word
  pub regions_apart :
      (r q : Region) → Within s r → Within s q → r ≢ q
      → (start_of s r + region_size s r ≤ start_of s q) ⊎ (start_of s q + region_size s q ≤ start_of s r)
  regions_apart r q w v ne =
      go (dec_lt (kind_of r) (kind_of q)) (dec_lt (kind_of q) (kind_of r)) (dec_lt (index_of r) (index_of q)) (dec_lt (index_of q) (index_of r))
    where
      lr : Lies s r
      lr = lies s r w

      lq : Lies s q
      lq = lies s q v

      go :
          Dec (kind_of r < kind_of q) → Dec (kind_of q < kind_of r) → Dec (index_of r < index_of q) → Dec (index_of q < index_of r)
          → (start_of s r + region_size s r ≤ start_of s q) ⊎ (start_of s q + region_size s q ≤ start_of s r)
      go (yes a) b c d = inl (later_array r q lr lq a)
      go (no a) (yes b) c d = inr (later_array q r lq lr b)
      go (no a) (no b) (yes c) d = inl (later_index r q lr lq (omega arith) c)
      go (no a) (no b) (no c) (yes d) = inr (later_index q r lq lr (omega arith) d)
      go (no a) (no b) (no c) (no d) = absurd (ne (same_region r q (omega arith) (omega arith)))

  pub region_inside : (r : Region) → Within s r → start_of s r + region_size s r + spare_words ≤ words_needed s
  region_inside r w =
      let lr = lies s r w in
      let k = region_end r lr in
      let m = bases_rise (suc (kind_of r)) 5 lr.kind in
      let e = needed_is s in
      omega arith

-- ---- the pool's records

record_size_positive : (s : Settings) → 0 < record_size s.capacity s.workers
record_size_positive s = omega arith

pub record_starts_apart : (s : Settings) (r q : ℕ) → start_of s (record' r) ≡ start_of s (record' q) → r ≡ q
unfolding start_of record_start
record_starts_apart s r q e = eq_of_mul-eq-mul_right (record_size s.capacity s.workers) (record_size_positive s) r q (omega arith)

-- one test of a start keeps a record of any settings inside
pub record_inside : (s : Settings) (r : ℕ) → r < pool_size s → start_of s (record' r) + widest_record ≤ words_needed s
unfolding region_size
record_inside s r w = let k = region_inside s (record' r) w in let p = record_size_positive s in omega arith

-- ---- reading and writing a region

module _ (s : Settings) (l : List ℕ) (enough : words_needed s ≤ length l) (r : Region) (w : Within s r) where
  fits : start_of s r + region_size s r ≤ length l
  fits = let k = region_inside s r w in omega arith

  pub length_read : length (read s l r) ≡ region_size s r
  unfolding read
  length_read = length_part l (start_of s r) (region_size s r) fits

  module _ (xs : List ℕ) (e : length xs ≡ region_size s r) where
    pub length_write : length (write s l r xs) ≡ length l
    unfolding write
    length_write = length_overlay l (start_of s r) xs (rw e fits)

    pub read_here : read s (write s l r xs) r ≡ xs
    unfolding read write
    read_here = rw (← e) (part_here l (start_of s r) xs (rw e fits))

    pub read_other : (q : Region) → Within s q → r ≢ q → read s (write s l r xs) q ≡ read s l q
    unfolding read write
    read_other q v ne =
        let f : start_of s r + length xs ≤ length l = rw e fits in
        let g = region_inside s q v in
        ⊎_elim
        (λ h. part_after l (start_of s r) xs f (start_of s q) (region_size s q) (rw e h) (omega arith))
        (λ h. part_before l (start_of s r) xs f (start_of s q) (region_size s q) h)
        (regions_apart s r q w v ne)
