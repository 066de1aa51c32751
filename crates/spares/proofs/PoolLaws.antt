-- Bounds of the bucket records and of the directory's entries in words that hold every record, and the turns of the search for a spare
-- record. Rests on the bounds of a worker's words.
use Prim.Native.Nat.{ℕ, zero, suc, ◌+◌, ◌-◌, ◌*◌, ◌/◌, ◌%◌, ◌^◌, ◌≤◌, ◌<◌}
use native.Mathlib.Nat.{suc-mul, mul_assoc, mul-le-mul, mul-le-mul_right, mod-lt, mod-add-div, add-mul-mod_self_left, add-mul, mul-mod_left}
use native.Mathlib.Numerals.{add-one}
use native.Mathlib.Omega.{arith}
use mathlib.Core.Path.{◌≡◌, refl, sym, ◌∙◌, ap}
use mathlib.Core.Bool.{Bool, true, false}
use mathlib.Core.List.{List}
use lib.Dec.{ltb}
use lib.ListN.{length}
use lib.Pow.{pow-add, pow_pos, pow_mono, mod-pow-add}
use borrow.Author.Tests.{lt-ltb, le-ltb, ltb-true}
use Rattle.interface.specs.Limits.{greatest_workers, greatest_capacity}
use Rattle.interface.specs.declared.Settings.{Settings}
use Rattle.machine.specs.Choice.{when◌then◌else◌}
use Rattle.fields.specs.Fields.{header_spare, deepest, record_size, widest_record}
use Rattle.fields.specs.Regions.{directory_start, record_start, pool_size, words_needed, start_of}
use Rattle.machine.proofs.laws.Base.{if_elim, if_true}
use Rattle.fields.proofs.Regions.{record_inside}
use Rattle.layout.specs.Shape.{word, Whole}
use Rattle.spares.specs.Records.{first_entry, current_at, held_by_any, used_at, spare_from, spare_of}
use Rattle.layout.proofs.Positions.{fits_kept, start_bound}

-- ---- records

pub start_is : (s : Settings) (r a x : ℕ) → a ≡ directory_start s.workers → x ≡ 2 ^ s.depth
    → a + x + r * record_size s.capacity s.workers ≡ record_start s r
unfolding record_start
start_is s r a x e f = rw (e, f)

pub pool_bound : (s : Settings) → s.workers ≤ greatest_workers → s.depth ≤ deepest → pool_size s ≤ 32_778
unfolding pool_size
pool_bound s h k = let m = pow_mono k in omega arith

module _ (s : Settings) (r : ℕ) (h : s.workers ≤ greatest_workers) (k : s.capacity ≤ greatest_capacity) (m : s.depth ≤ deepest)
    (n : r ≤ pool_size s) where
  pub product_bound : r * record_size s.capacity s.workers ≤ 2_032_236
  product_bound =
      let size : record_size s.capacity s.workers ≤ widest_record = omega arith in
      let most = pool_bound s h m in
      let few : r ≤ 32_778 = omega arith in
      mul-le-mul few size

  pub record_start_bound : record_start s r ≤ 2_065_500
  unfolding record_start
  record_start_bound =
      let a = start_bound s.workers h in
      let b = pow_mono m in
      let d = product_bound in
      omega arith

pub whole_kept : {l m : List ℕ} {s : Settings} → length l ≡ length m → Whole l s → Whole m s
whole_kept e f = record { fits = fits_kept e f.fits; all = omega arith }

module _ {l : List ℕ} {s : Settings} (whole : Whole l s) where
  pub pool_inside : (r : ℕ) → r < pool_size s → record_start s r + widest_record ≤ length l
  unfolding start_of
  pool_inside r h = let w : Whole l s = whole in omega (arith, record_inside s r h)

  pub directory_inside : directory_start s.workers + 2 ^ s.depth ≤ length l
  unfolding words_needed record_start
  directory_inside = let w : Whole l s = whole in omega arith

-- ---- entries of the directory

-- a prefix counts by its low bits only
pub entry_is : (s : Settings) (d q x w : ℕ) → x ≡ 2 ^ s.depth → w ≡ 2 ^ (s.depth - d) → (q % x) * w % x ≡ first_entry s d q
unfolding first_entry
entry_is s d q x w e f =
    let n : ℕ = 2 ^ s.depth in
    let k : ℕ = 2 ^ (s.depth - d) in
    let parts : q * k ≡ (q % n) * k + n * (q / n * k) =
    sym (ap (λ (x : ℕ). x * k) (mod-add-div q n)) ∙ add-mul (q % n) (n * (q / n)) k
    ∙ ap (λ (x : ℕ). (q % n) * k + x) (mul_assoc n (q / n) k) in
    rw (e, f, parts, add-mul-mod_self_left)

pub entry_below : (s : Settings) (d q : ℕ) → first_entry s d q < 2 ^ s.depth
unfolding first_entry
entry_below s d q = mod-lt _ (pow_pos s.depth)

-- the entries of a bucket of depth d are all below 2^M
pub entries_inside : (s : Settings) (d q : ℕ) → d ≤ s.depth → first_entry s d q + 2 ^ (s.depth - d) ≤ 2 ^ s.depth
unfolding first_entry
entries_inside s d q h =
    let m : ℕ = s.depth - d in
    let x : ℕ = q * 2 ^ m / 2 ^ m % 2 ^ d in
    let whole : s.depth ≡ d + m = omega arith in
    let all : 2 ^ s.depth ≡ 2 ^ d * 2 ^ m = ap (λ (j : ℕ). 2 ^ j) whole ∙ pow-add 2 d m in
    let exact : q * 2 ^ m % 2 ^ s.depth ≡ x * 2 ^ m + q * 2 ^ m % 2 ^ m =
    ap (λ (j : ℕ). q * 2 ^ m % 2 ^ j) whole ∙ mod-pow-add (q * 2 ^ m) d m in
    let room : suc x * 2 ^ m ≤ 2 ^ d * 2 ^ m = mul-le-mul_right (2 ^ m) (mod-lt _ (pow_pos d)) in
    omega (arith, mul-mod_left q (2 ^ m), suc-mul x (2 ^ m))

-- ---- the search for a spare record

module _ (l : List ℕ) (s : Settings) (r q : ℕ) (t : Bool) (e : q ≡ record_start s r) (f : t ≡ current_at l s q) where
  pub used_current : t ≡ true → true ≡ used_at l s r
  unfolding used_at
  used_current g = let h : current_at l s (record_start s r) ≡ true = sym (f ∙ ap (current_at l s) e) ∙ g in rw h

  pub used_held : (u : Bool) → t ≡ false → u ≡ held_by_any l s.workers q → u ≡ used_at l s r
  unfolding used_at
  used_held u g k =
      let h : current_at l s (record_start s r) ≡ false = sym (f ∙ ap (current_at l s) e) ∙ g in
      rw h (k ∙ ap (held_by_any l s.workers) e)

module _ (l : List ℕ) (s : Settings) where
  pub spare_start : (x n : ℕ) → n ≡ pool_size s → x ≡ word l header_spare → spare_from l s (x % n) n ≡ spare_of l s
  unfolding spare_of
  spare_start x n e f = rw (e, f)

  pub spare_found : (r k : ℕ) → 0 < k → used_at l s r ≡ false → spare_from l s r k ≡ r
  unfolding spare_from when◌then◌else◌
  spare_found r zero h e = absurd (omega arith)
  spare_found r (suc k) h e = rw e

  spare_next :
      (r k n : ℕ) → 0 < k → used_at l s r ≡ true → (when ltb (suc r) (pool_size s) then suc r else 0) ≡ n
      → spare_from l s n (k - 1) ≡ spare_from l s r k
  unfolding spare_from
  spare_next r zero n h e f = absurd (omega arith)
  spare_next r (suc k) n h e f =
      let less : suc k - 1 ≡ k = omega arith in
      ap (spare_from l s n) less ∙ sym (if_true _ r e ∙ ap (λ (x : ℕ). spare_from l s x k) f)

  pub spare_up : (r k : ℕ) → 0 < k → used_at l s r ≡ true → r + 1 < pool_size s → spare_from l s (r + 1) (k - 1) ≡ spare_from l s r k
  unfolding when◌then◌else◌
  spare_up r k h e b = spare_next r k (r + 1) h e (rw (lt-ltb (suc r) (pool_size s) (omega arith)) (sym (add-one r)))

  pub spare_round : (r k : ℕ) → 0 < k → used_at l s r ≡ true → pool_size s ≤ r + 1 → spare_from l s 0 (k - 1) ≡ spare_from l s r k
  unfolding when◌then◌else◌
  spare_round r k h e b = spare_next r k 0 h e (rw (le-ltb (suc r) (pool_size s) (omega arith)))

  pub spare_end : (r k : ℕ) → k ≤ 0 → spare_from l s r k ≡ r
  unfolding spare_from
  spare_end r zero h = refl
  spare_end r (suc k) h = absurd (omega arith)

  from_below : (r k : ℕ) → r < pool_size s → spare_from l s r k < pool_size s
  unfolding spare_from
  from_below r zero h = h
  from_below r (suc k) h =
      if_elim (λ (x : ℕ). x < pool_size s) (used_at l s r) _ r
      (λ e. from_below (when ltb (suc r) (pool_size s) then suc r else 0) k (if_elim (λ (x : ℕ). x < pool_size s) (ltb (suc r) (pool_size s)) (suc r) 0 (ltb-true (suc r) (pool_size s))
      (λ b. omega arith)))
      (λ e. h)

  pub spare_below : spare_of l s < pool_size s
  unfolding spare_of pool_size
  spare_below = from_below _ _ (mod-lt _ (omega arith))
