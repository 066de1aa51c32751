-- A split put together from its parts, and the splits of an account's bucket one after another.
-- Rests on the definitions of a split, and on the bounds of its records.
use Prim.Native.Nat.{ℕ, zero, suc, ◌+◌, ◌-◌, ◌*◌, ◌%◌, ◌^◌, ◌≤◌, ◌<◌}
use native.Mathlib.Nat.{mod-lt}
use native.Mathlib.Numerals.{add-one}
use native.Mathlib.Omega.{arith}
use mathlib.Core.Path.{◌≡◌, refl, sym, ◌∙◌, ap}
use mathlib.Core.Bool.{Bool, true, false}
use mathlib.Core.List.{List}
use lib.Dec.{ltb}
use lib.ListN.{length, set, replicate}
use lib.Pow.{pow_pos, pow_mono}
use borrow.Author.Tests.{ltb-true, lt-ltb, le-ltb}
use Rattle.interface.specs.declared.Settings.{Settings}
use Rattle.machine.specs.Choice.{when◌then◌else◌}
use Rattle.fields.specs.Fields.{header_depth, header_spare, deepest, record_toggle, record_depth, record_prefix, record_number}
use Rattle.fields.specs.Regions.{directory_start, record_start}
use Rattle.machine.proofs.laws.Base.{if_true, if_false, and_parts}
use Rattle.rules.specs.Rules.{full_by, splittable_by}
use Rattle.halves.specs.Halves.{half_of}
use Rattle.bucket.specs.declared.BucketState.{BucketState}
use Rattle.lists.specs.Parts.{overlay}
use Rattle.layout.specs.Shape.{word, Whole}
use Rattle.layout.specs.Addresses.{record_of}
use Rattle.record.specs.Bucket.{bucket_at, splittable_at}
use Rattle.storing.specs.Stores.{with_bucket_at}
use Rattle.spares.specs.Records.{first_entry, spare_of}
use Rattle.splits.specs.Splits.{made_at, directed_at, half_at, deepened_at, split_at, split_while_at}
use Rattle.spares.proofs.PoolLaws.{directory_inside, entries_inside}

-- ---- one split

pub made_is :
    (l a b c m z : List ℕ) (s : Settings) (r d q : ℕ) (x : BucketState) → a ≡ set l (r + record_toggle) 0 → b ≡ set a (r + record_depth) d
    → c ≡ set b (r + record_prefix) q
    → m ≡ set c (r + record_number) 0 → z ≡ with_bucket_at m s r x → z ≡ made_at l s r d q x
unfolding made_at
made_is l a b c m z s r d q x e f g h k = rw (k, h, g, f, e)

pub directed_inside :
    {l : List ℕ} {s : Settings} → Whole l s → (d q a e : ℕ) → d ≤ s.depth → a ≡ directory_start s.workers → e ≡ first_entry s d q
    → a + e + 2 ^ (s.depth - d) ≤ length l
directed_inside {s = s} w d q a e h f g = omega (arith, directory_inside w, entries_inside s d q h)

pub directed_is :
    (l z : List ℕ) (s : Settings) (d q r a e w : ℕ) → a ≡ directory_start s.workers → e ≡ first_entry s d q → w ≡ 2 ^ (s.depth - d)
    → z ≡ overlay l (a + e) (replicate (a + e + w - (a + e)) r) → z ≡ directed_at l s d q r
unfolding directed_at
directed_is l z s d q r a e w f g h k = let width : a + e + w - (a + e) ≡ w = omega arith in rw (k, width, h, g, f)

pub half_is : (l a b z : List ℕ) (s : Settings) (d q r p : ℕ) (x y : BucketState) → r ≡ spare_of l s → p ≡ record_start s r → y ≡ half_of x d q
    → a ≡ made_at l s p d q y → b ≡ set a header_spare (r + 1) → z ≡ directed_at b s d q p → z ≡ half_at l s d q x
unfolding half_at
half_is l a b z s d q r p x y e f g h k m = rw (m, k, h, g, f, e, add-one)

module _ (l : List ℕ) (d x : ℕ) (e : x ≡ word l header_depth) where
  pub deepened_more : (z : List ℕ) → x < d → z ≡ set l header_depth d → z ≡ deepened_at l d
  unfolding deepened_at when◌then◌else◌
  deepened_more z h f = let t : ltb (word l header_depth) d ≡ true = lt-ltb _ d (omega arith) in rw (t, f)

  pub deepened_same : d ≤ x → l ≡ deepened_at l d
  unfolding deepened_at when◌then◌else◌
  deepened_same h = let t : ltb (word l header_depth) d ≡ false = le-ltb _ d (omega arith) in rw t

-- the depth of the halves, and the span of their prefixes
pub record Depths (s : Settings) (u : ℕ) : Type 0 where
  pub depth : u % s.depth < s.depth
  pub span : 2 ^ (u % s.depth + 1 - 1) ≤ 32_768
  pub positive : 0 < 2 ^ (u % s.depth + 1 - 1)

pub depths : (s : Settings) (u : ℕ) → 1 ≤ s.depth → s.depth ≤ deepest → Depths s u
depths s u h k =
    let below = mod-lt u h in
    record { depth = below; span = pow_mono {j = deepest} (omega arith); positive = pow_pos _ }

pub prefix_small :
    (s : Settings) (u v w : ℕ) → 1 ≤ s.depth → s.depth ≤ deepest → w ≡ 2 ^ (u % s.depth + 1 - 1) → 2 * (v % w) + 1 ≤ 65_536
prefix_small s u v w h k e =
    let d = depths s u h k in
    rw e (omega (arith, mod-lt v d.positive))

pub split_is :
    (l a b z : List ℕ) (s : Settings) (q u v w : ℕ) (x : BucketState) → u ≡ word l (q + record_depth) → v ≡ word l (q + record_prefix)
    → w ≡ 2 ^ (u % s.depth + 1 - 1) → x ≡ bucket_at l s q → a ≡ deepened_at l (u % s.depth + 1)
    → b ≡ half_at a s (u % s.depth + 1) (2 * (v % w)) x → z ≡ half_at b s (u % s.depth + 1) (2 * (v % w) + 1) x → z ≡ split_at l s q
unfolding split_at
split_is l a b z s q u v w x e f g h k m n = rw (n, m, k, h, g, f, e)

-- ---- splits of an account's bucket

pub splittable_depth : (l : List ℕ) (s : Settings) (q : ℕ) → splittable_at l s q ≡ true → 1 ≤ s.depth
unfolding splittable_by
splittable_depth l s q h = omega (arith, ltb-true (word l (q + record_depth)) s.depth (and_parts (full_by s _) _ h).1)

module _ (l : List ℕ) (s : Settings) (a q : ℕ) (t : Bool) (e : q ≡ record_of l s a) (f : t ≡ splittable_at l s q) where
  tested : splittable_at l s (record_of l s a) ≡ t
  tested = sym (f ∙ ap (splittable_at l s) e)

  pub while_done : (k : ℕ) → t ≡ false → l ≡ split_while_at l s a k
  unfolding split_while_at
  while_done zero h = refl
  while_done (suc k) h = sym (if_false _ l (tested ∙ h))

  pub while_turn :
      (m : List ℕ) (i n : ℕ) → i < n → t ≡ true → m ≡ split_at l s q → split_while_at m s a (n - (i + 1)) ≡ split_while_at l s a (n - i)
  unfolding split_while_at
  while_turn m i n h b d =
      let next : n - i ≡ suc (n - (i + 1)) = omega arith in
      rw (next, d, e) (sym (if_true _ l (tested ∙ b)))

pub while_end : (l : List ℕ) (s : Settings) (a i n : ℕ) → n ≤ i → l ≡ split_while_at l s a (n - i)
unfolding split_while_at
while_end l s a i n h = let none : n - i ≡ 0 = omega arith in rw none
