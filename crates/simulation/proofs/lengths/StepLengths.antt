-- Each step and each part of the directory swap keeps the number of words. Rests on the bounds of words, on the laws of
-- a state's arrays, and on those of runs and of stored states.
use Prim.Native.Nat.{ℕ, zero, suc, ◌+◌, ◌-◌, ◌*◌, ◌%◌, ◌^◌, ◌≤◌, ◌<◌}
use native.Mathlib.Nat.{mod-lt}
use native.Mathlib.Omega.{arith}
use mathlib.Core.Path.{◌≡◌, refl, ◌∙◌, sym}
use mathlib.Core.List.{List}
use lib.Dec.{ltb, eqb}
use lib.ListN.{length, set, length-set, length-replicate, replicate}
use borrow.Author.Tests.{ltb-true}
use Rattle.interface.specs.declared.Settings.{Settings}
use Rattle.fields.specs.Fields.{header_depth, header_spare, slot_account, slot_size, worker_toggle, record_count, record_applied, record_toggle, record_depth, record_prefix, record_number, widest_record}
use Rattle.fields.specs.Regions.{slot_at, worker_at, read_at, directory_start, record_start}
use Rattle.machine.proofs.laws.Base.{if_elim, and_parts}
use Rattle.halves.specs.Halves.{half_of}
use Rattle.rules.specs.Rules.{full_by, splittable_by}
use Rattle.bucket.specs.declared.BucketState.{BucketState}
use Rattle.lists.specs.Parts.{part, overlay}
use Rattle.lists.proofs.PartLaws.{length_part, length_overlay}
use Rattle.bucket.proofs.Sizes.{Sized}
use Rattle.record.proofs.States.{loaded_sized}
use Rattle.storing.proofs.Trips.{length_state}
use Rattle.layout.specs.Shape.{word, Fits, Whole}
use Rattle.layout.specs.Addresses.{record_of}
use Rattle.record.specs.Bucket.{bucket_at, holds_back_at, splittable_at}
use Rattle.engine.specs.Engine.{announced_at}
use Rattle.inplace.specs.InPlace.{round_at}
use Rattle.spares.specs.Records.{first_entry, spare_of}
use Rattle.splits.specs.Splits.{made_at, directed_at, half_at, deepened_at, split_at, split_while_at}
use Rattle.taking.specs.Taking.{carried_at, taken_at}
use Rattle.layout.proofs.Positions.{fits_kept, record_inside, placed}
use Rattle.spares.proofs.PoolLaws.{whole_kept, pool_inside, directory_inside, entries_inside, spare_below}
use Rattle.rounds.proofs.Sizes.{carry_sized, round_sized}
use Rattle.halves.proofs.Laws.{half_sized}

-- ---- lengths after each step

length_copied_run :
    (l : List ℕ) (from to k : ℕ) → from + k ≤ length l → to + k ≤ length l → length (overlay l to (part l from k)) ≡ length l
length_copied_run l from to k h f =
    let e = length_part l from k h in
    length_overlay l to (part l from k) (omega arith)

module _ (l : List ℕ) (s : Settings) (fits : Fits l s) where
  pub length_announced : (w : ℕ) → w < s.workers → length (announced_at l (worker_at s.workers w) w) ≡ length l
  unfolding announced_at
  length_announced w h =
      let b = placed fits w h in
      length_copied_run l (worker_at s.workers w) (slot_at w) slot_size (omega arith) (omega arith)

  pub length_round : (p q : ℕ) → q + widest_record ≤ length l → length (round_at l s p q) ≡ length l
  unfolding round_at
  length_round p q h =
      if_elim (λ (m : List ℕ). length m ≡ length l) (eqb (word l (p + worker_toggle)) (word l (q + record_applied))) l _ (λ e. refl)
      (λ e. length_state l q s.capacity s.workers _ h fits.capacity fits.workers (round_sized _ _ _ _ _ (loaded_sized l q _ _)))

-- ---- each part of the swap keeps the number of words

pub length_made :
    (l : List ℕ) (s : Settings) (r d q : ℕ) (x : BucketState) → Fits l s → r + widest_record ≤ length l → Sized x
    → length (made_at l s r d q x) ≡ length l
unfolding made_at
length_made l s r d q x fits h z =
    let m : List ℕ = set (set (set (set l (r + record_toggle) 0) (r + record_depth) d) (r + record_prefix) q) (r + record_number) 0 in
    let e : length m ≡ length l = simp length-set in
    length_state m r s.capacity s.workers x (omega arith) fits.capacity fits.workers z ∙ e

pub length_directed : (l : List ℕ) (s : Settings) (d q r : ℕ) → Whole l s → d ≤ s.depth → length (directed_at l s d q r) ≡ length l
unfolding directed_at
length_directed l s d q r w h =
    let xs : List ℕ = replicate (2 ^ (s.depth - d)) r in
    let e : length xs ≡ 2 ^ (s.depth - d) = length-replicate (2 ^ (s.depth - d)) r in
    length_overlay l (directory_start s.workers + first_entry s d q) xs (omega (arith, directory_inside w, entries_inside s d q h))

pub length_half :
    (l : List ℕ) (s : Settings) (d q : ℕ) (x : BucketState) → Whole l s → d ≤ s.depth → Sized x → length (half_at l s d q x) ≡ length l
unfolding half_at
length_half l s d q x w h z =
    let r : ℕ = spare_of l s in
    let p : ℕ = record_start s r in
    let m : List ℕ = made_at l s p d q (half_of x d q) in
    let e : length (set m header_spare (suc r)) ≡ length l =
    length-set m header_spare (suc r)
    ∙ length_made l s p d q (half_of x d q) w.fits (pool_inside w r (spare_below l s)) (half_sized x d q z) in
    length_directed (set m header_spare (suc r)) s d q p (whole_kept (sym e) w) h ∙ e

pub length_deepened : (l : List ℕ) (d : ℕ) → length (deepened_at l d) ≡ length l
unfolding deepened_at
length_deepened l d =
    if_elim (λ (m : List ℕ). length m ≡ length l) (ltb (word l header_depth) d) _ l (λ e. length-set l header_depth d) (λ e. refl)

pub length_split : (l : List ℕ) (s : Settings) (q : ℕ) → Whole l s → 1 ≤ s.depth → length (split_at l s q) ≡ length l
unfolding split_at
length_split l s q w h =
    let d : ℕ = word l (q + record_depth) % s.depth + 1 in
    let k : d ≤ s.depth = omega (arith, mod-lt (word l (q + record_depth)) h) in
    let prefix : ℕ = 2 * (word l (q + record_prefix) % 2 ^ (d - 1)) in
    let x : BucketState = bucket_at l s q in
    let z : Sized x = loaded_sized l q s.capacity s.workers in
    let m : List ℕ = deepened_at l d in
    let e : length m ≡ length l = length_deepened l d in
    let f : length (half_at m s d prefix x) ≡ length l = length_half m s d prefix x (whole_kept (sym e) w) k z ∙ e in
    length_half (half_at m s d prefix x) s d (prefix + 1) x (whole_kept (sym f) w) k z ∙ f

pub length_split_while : (l : List ℕ) (s : Settings) (a f : ℕ) → Whole l s → length (split_while_at l s a f) ≡ length l
unfolding split_while_at splittable_by
length_split_while l s a zero w = refl
length_split_while l s a (suc f) w =
    let q : ℕ = record_of l s a in
    if_elim (λ (m : List ℕ). length m ≡ length l) (splittable_at l s q) _ l
    (λ t.
    let deep = ltb-true (word l (q + record_depth)) s.depth (and_parts (full_by s (word l (q + record_count))) _ t).1 in
    let e = length_split l s q w (omega arith) in
    length_split_while (split_at l s q) s a f (whole_kept (sym e) w) ∙ e)
    (λ t. refl)

pub length_carried :
    (l : List ℕ) (s : Settings) (p i q : ℕ) → Fits l s → q + widest_record ≤ length l → length (carried_at l s p i q) ≡ length l
unfolding carried_at
length_carried l s p i q fits h =
    length_state l q s.capacity s.workers _ h fits.capacity fits.workers
    (carry_sized _ s i _ (loaded_sized l q s.capacity s.workers))

module _ (s : Settings) (p : ℕ) where
  pub length_taken : (l : List ℕ) (i : ℕ) → Whole l s → length (taken_at l s p i) ≡ length l
  unfolding taken_at
  length_taken l i w =
      let m : List ℕ = split_while_at l s (word l (read_at p i + slot_account)) s.depth in
      let e : length m ≡ length l = length_split_while l s (word l (read_at p i + slot_account)) s.depth w in
      let fits : Fits m s = fits_kept (sym e) w.fits in
      let a : ℕ = word m (read_at p i + slot_account) in
      if_elim (λ (n : List ℕ). length n ≡ length l) (holds_back_at m s (record_of m s a)) m _ (λ t. e)
      (λ t. length_carried m s p i (record_of m s a) fits (record_inside fits a) ∙ e)
