-- One half of a split bucket, made in a spare record and named by the bucket's entries. Rests on the words' stores and on spare records.
use Prim.Native.Nat.{ℕ, suc, ◌+◌, ◌-◌, ◌/◌, ◌^◌, ◌≤◌, ◌<◌}
use native.Mathlib.Omega.{arith}
use native.Mathlib.Nat.{zero-add}
use mathlib.Core.Path.{◌≡◌, refl, ap, ◌∙◌, subst, subst⁻¹}
use mathlib.Core.Logic.{◌≢◌, inr}
use mathlib.Core.Bool.{true, false}
use mathlib.Core.List.{List}
use lib.Dec.{eqb}
use lib.ListN.{length, set, replicate}
use lib.Seq.{get_or-set_other}
use Rattle.interface.specs.Limits.{in_range}
use Rattle.interface.specs.declared.Settings.{Settings}
use Rattle.machine.specs.Choice.{when◌then◌else◌}
use Rattle.machine.specs.Records.{Name, State, new_bucket}
use Rattle.fields.specs.Fields.{header_depth, header_spare, header_size, record_toggle, record_depth, record_prefix, record_number, record_accounts}
use Rattle.fields.specs.Regions.{pool_size, words_needed, Region, record', start_of, region_size, Within, header, entry}
use Rattle.machine.specs.DirectoryPass.{half}
use Rattle.lists.specs.Parts.{overlay}
use Rattle.storing.specs.Stores.{stored_state}
use Rattle.bucket.specs.declared.BucketState.{BucketState}
use Rattle.bucket.specs.State as State
use Rattle.halves.specs.Halves.{half_of}
use Rattle.simulation.specs.Buckets.{bits_of, Means}
use Rattle.halves.proofs.Laws.{length_keeps}
use Rattle.simulation.proofs.buckets.Ties.{half_means}
use Rattle.layout.specs.Shape.{word}
use Rattle.spares.specs.Records.{first_entry, spare_of}
use Rattle.splits.specs.Splits.{made_at, directed_at, half_at}
use Rattle.simulation.specs.Meaning.{at, Keeps}
use Rattle.simulation.proofs.frames.Frames.{at_here, header_start, header_wide, record_wide, keeps_same, Inside, inside_trans, set_inside}
use Rattle.simulation.proofs.frames.WordBits.{no-bits}
use Rattle.simulation.proofs.frames.BucketWords.{Stored, stored_words}
use Rattle.bucket.proofs.Sizes.{size_bound}
use Rattle.simulation.proofs.frames.Spares.{spare_within, spare_unheld, spare_unnamed}
use Rattle.simulation.proofs.swap.Directing.{directed_length, directed_entries, directed_other}
use Rattle.simulation.proofs.frames.Storing.{head_same, record_frame, record_entries, record_others, stored_inside, stored_beside, head_frame, head_entries, head_others}
use Rattle.simulation.proofs.swap.Halves.{Left, Frame, frame_trans, SameRecord, Halved}

-- ---- a half has no more accounts than the whole

half_few : (x : BucketState) (d q : ℕ) → (half_of x d q).count ≤ x.count
unfolding half_of
half_few x d q = omega (arith, length_keeps x.accounts d q (State.size_of x), size_bound x)

module _ (s : Settings) (range : in_range s.workers s.capacity s.depth ≡ true) (l : List ℕ) (enough : words_needed s ≤ length l)
    (x : Name) (y : BucketState) (z : State) (low : x.depth ≤ s.depth) (short : x.prefix < 2 ^ x.depth) (m : Means y z s.workers)
    (few : y.count ≤ s.capacity) where
  abbrev r : ℕ
  r = spare_of l s

  abbrev R : ℕ
  R = start_of s (record' r)

  abbrev h : BucketState
  h = half_of y x.depth x.prefix

  -- ---- the words after each store

  abbrev l₁ : List ℕ
  l₁ = set l (R + record_toggle) 0

  abbrev l₂ : List ℕ
  l₂ = set l₁ (R + record_depth) x.depth

  abbrev l₃ : List ℕ
  l₃ = set l₂ (R + record_prefix) x.prefix

  abbrev l₄ : List ℕ
  l₄ = set l₃ (R + record_number) 0

  abbrev l₅ : List ℕ
  l₅ = stored_state l₄ R s.capacity s.workers h

  abbrev l₆ : List ℕ
  l₆ = set l₅ header_spare (suc r)

  abbrev l₇ : List ℕ
  l₇ = overlay l₆ (start_of s (entry (first_entry s x.depth x.prefix))) (replicate (2 ^ (s.depth - x.depth)) R)

  words : half_at l s x.depth x.prefix y ≡ l₇
  unfolding half_at made_at directed_at start_of
  words = refl

  in-pool : r < pool_size s
  in-pool = spare_within s l

  wide : (i : ℕ) → i < record_accounts → i < region_size s (record' r)
  wide i k = rw record_wide (omega arith)

  one : (w : List ℕ) (i v : ℕ) → words_needed s ≤ length w → i < record_accounts → Inside s (record' r) w (set w (R + i) v)
  one w i v e k = set_inside s w e (record' r) in-pool i v (wide i k)

  i₁ : Inside s (record' r) l l₁
  i₁ = one l record_toggle 0 enough (omega arith)

  i₂ : Inside s (record' r) l l₂
  i₂ = inside_trans i₁ (one l₁ record_depth x.depth (omega (arith, i₁.same_length)) (omega arith))

  i₃ : Inside s (record' r) l l₃
  i₃ = inside_trans i₂ (one l₂ record_prefix x.prefix (omega (arith, i₂.same_length)) (omega arith))

  i₄ : Inside s (record' r) l l₄
  i₄ = inside_trans i₃ (one l₃ record_number 0 (omega (arith, i₃.same_length)) (omega arith))

  mine : (w : List ℕ) (i v : ℕ) → words_needed s ≤ length w → i < record_accounts → at s (set w (R + i) v) (record' r) i ≡ v
  mine w i v e k = at_here s w e (record' r) i v in-pool (wide i k)

  aside : (w : List ℕ) (i k v : ℕ) → k ≢ i → at s (set w (R + i) v) (record' r) k ≡ at s w (record' r) k
  aside w i k v d = get_or-set_other w (R + i) (R + k) v 0 (λ e. d (omega arith))

  toggle₄ : at s l₄ (record' r) record_toggle ≡ 0
  toggle₄ =
      aside l₃ record_number record_toggle 0 (λ e. omega arith) ∙ aside l₂ record_prefix record_toggle x.prefix (λ e. omega arith)
      ∙ aside l₁ record_depth record_toggle x.depth (λ e. omega arith) ∙ mine l record_toggle 0 enough (omega arith)

  depth₄ : at s l₄ (record' r) record_depth ≡ x.depth
  depth₄ =
      aside l₃ record_number record_depth 0 (λ e. omega arith) ∙ aside l₂ record_prefix record_depth x.prefix (λ e. omega arith)
      ∙ mine l₁ record_depth x.depth (omega (arith, i₁.same_length)) (omega arith)

  prefix₄ : at s l₄ (record' r) record_prefix ≡ x.prefix
  prefix₄ =
      aside l₃ record_number record_prefix 0 (λ e. omega arith)
      ∙ mine l₂ record_prefix x.prefix (omega (arith, i₂.same_length)) (omega arith)

  stored : Stored s l₄ l₅ r (record { body = half x z.body; applied = λ j. false })
  stored =
      let k = half_few y x.depth x.prefix in
      stored_words s range l₄ (omega (arith, i₄.same_length)) r in-pool h _
      (half_means y z s.workers x m) (omega arith)

  i₅ : Inside s (record' r) l l₅
  i₅ = inside_trans i₄ (stored_inside s l₄ l₅ r in-pool _ stored)

  beside₅ : (i : ℕ) → record_toggle ≤ i → i < record_accounts → at s l₅ (record' r) i ≡ at s l₄ (record' r) i
  beside₅ = stored_beside s l₄ l₅ r in-pool _ stored

  enough₅ : words_needed s ≤ length l₅
  enough₅ = omega (arith, i₅.same_length)

  frame₆ : Frame s l₅ l₆
  frame₆ = head_frame s l₅ enough₅ header_spare (suc r) (omega arith) (inr refl)

  enough₆ : words_needed s ≤ length l₆
  enough₆ = omega (arith, frame₆.same_length, enough₅)

  other₇ : (v : Region) (i : ℕ) → Within s v → i < region_size s v → ((e : ℕ) → v ≢ entry e) → at s l₇ v i ≡ at s l₆ v i
  other₇ = directed_other s l₆ enough₆ x.depth x.prefix R low short

  head₇ : (i : ℕ) → i < header_size → word l₇ i ≡ word l₆ i
  head₇ i k = rw (header_start, zero-add) at (other₇ header i tt (rw header_wide k) (λ e q. let z : ◌≡◌ {A = ℕ} 0 1 = cc in omega arith))

  frame₇ : Frame s l₆ l₇
  frame₇ = record {
    same_length = directed_length s l₆ enough₆ x.depth x.prefix R low short;
    left = λ v i w f k. other₇ v i w k (λ e q. subst Left q f);
    header = λ i k d e. head₇ i k;
  }

  records₇ : (t : ℕ) → t < pool_size s → SameRecord s l₅ l₇ t
  records₇ t k i b =
      other₇ (record' t) i k b (λ e q. let z : ◌≡◌ {A = ℕ} 0 1 = cc in omega arith)
      ∙ head_others s l₅ enough₅ header_spare (suc r) (omega arith) t k i b

  kept : Keeps s l₅ r (new_bucket (half x z.body))
  unfolding new_bucket
  kept = record {
    size = stored.size;
    state = stored.state;
    toggle = λ j k. ap (λ (w : ℕ). bits_of w j) (beside₅ record_toggle (omega arith) (omega arith) ∙ toggle₄) ∙ no-bits j;
  }

  halved : Halved s l l₇ x z.body r
  halved = record {
    frame = frame_trans s (record_frame s r i₅) (frame_trans s frame₆ frame₇);
    depth =
        head₇ header_depth (omega arith) ∙ get_or-set_other l₅ header_spare header_depth (suc r) 0 (λ e. omega arith)
        ∙ head_same s r i₅ header_depth (omega arith);
    in_pool = in-pool;
    unheld = spare_unheld s l;
    spare = spare_unnamed s l;
    entries = λ e k. directed_entries s l₆ enough₆ x.depth x.prefix R low short e k
        ∙ ap (λ (w : ℕ). when eqb (e / 2 ^ (s.depth - x.depth)) x.prefix then R else w)
        (head_entries s l₅ enough₅ header_spare (suc r) (omega arith) e k ∙ record_entries s r i₅ e k);
    others = λ t k d i b. records₇ t k i b ∙ record_others s r i₅ t k d i b;
    name = λ o. record {
      depth =
          (records₇ r in-pool record_depth (wide record_depth (omega arith)) ∙ beside₅ record_depth (omega arith) (omega arith) ∙ depth₄) o;
      prefix =
          (records₇ r in-pool record_prefix (wide record_prefix (omega arith)) ∙ beside₅ record_prefix (omega arith) (omega arith)
          ∙ prefix₄) o;
    };
    keeps = keeps_same s l₅ l₇ r _ (records₇ r in-pool) kept;
  }

  pub halved_at : Halved s l (half_at l s x.depth x.prefix y) x z.body (spare_of l s)
  halved_at = subst⁻¹ (λ (w : List ℕ). Halved s l w x z.body r) words halved
