-- A round that has one worker's own update alone to carry out, on the words of a bucket's record: each way that it can go.
-- Rests on the laws of arrays changed in the words, and of a round with one update.
use Prim.Native.Nat.{ℕ, ◌+◌, ◌*◌, ◌≤◌, ◌<◌}
use native.Mathlib.Nat.{add_assoc}
use native.Mathlib.Omega.{arith}
use mathlib.Core.Path.{◌≡◌, refl, sym, ◌∙◌, ap}
use mathlib.Core.Logic.{◌≢◌}
use mathlib.Core.Bool.{Bool, true, false}
use mathlib.Core.List.{List}
use lib.ListN.{length, get_or, length-set}
use borrow.Author.Tests.{lt-ltb}
use Rattle.interface.specs.declared.Settings.{Settings}
use Rattle.fields.specs.Fields.{slot_kind, slot_account, slot_total, slot_ticket, slot_size, worker_toggle, worker_slots, record_count, record_applied, record_depth, accounts_from, totals_from, settled_from, answers_from, posted_from, widest_record}
use Rattle.fields.specs.Regions.{read_at}
use Rattle.rounds.specs.Rounds.{carry_of, with_applied}
use Rattle.rules.specs.Rules.{holds_back_by, descriptor_in, bit, flip_bit}
use Rattle.bucket.specs.declared.BucketState.{BucketState}
use Rattle.rules.specs.declared.Descriptor.{Descriptor}
use Rattle.rounds.proofs.Laws.{help_left, help_back, help_carried}
use Rattle.rules.proofs.Laws.{pending_settled, pending_differs}
use Rattle.lists.specs.Parts.{part}
use Rattle.lists.proofs.PartLaws.{get_d_part}
use Rattle.memory.specs.Words.{least}
use Rattle.record.specs.Loads.{loaded_state}
use Rattle.record.proofs.Runs.{get_d_copied}
use Rattle.record.proofs.States.{loaded_count}
use Rattle.layout.specs.Shape.{word, Fits}
use Rattle.record.specs.Bucket.{bucket_at, settled_ticket}
use Rattle.storing.specs.Stores.{with_bucket_at}
use Rattle.inplace.specs.InPlace.{Counted, own_at, round_at}
use Rattle.rules.proofs.Bits.{flip_own, flip_others}
use Rattle.inplace.proofs.Rounds.{round_done}
use Rattle.inplace.proofs.ArrayChanges.{array_kept, arrays_stored}
use Rattle.inplace.proofs.OwnUpdate.{first_in}
use Rattle.own.proofs.OneHelped.{helping, round_one}

-- what a round of worker w, whose record is at p, has tested: the toggle that it has read differs from the applied bits by its own bit,
-- and the bucket, with count accounts, holds updates back or not
pub record Tested (l : List ℕ) (s : Settings) (p q w toggle count : ℕ) (back : Bool) : Type 0 where
  pub fits : Fits l s
  pub worker : w < s.workers
  pub inside : q + widest_record ≤ length l
  pub known : toggle ≡ word l (p + worker_toggle)
  pub flips : toggle ≡ flip_bit (word l (q + record_applied)) w
  pub counted : count ≡ least (word l (q + record_count)) s.capacity
  pub held : back ≡ holds_back_by s (word l (q + record_depth)) count

pub tested :
    (l : List ℕ) (s : Settings) (p q w toggle d count : ℕ) (back : Bool)
    → Fits l s × ((w < s.workers) × ((q + widest_record ≤ length l)
    × ((toggle ≡ word l (p + worker_toggle)) × (toggle ≡ flip_bit (word l (q + record_applied)) w))))
    → count ≡ least (word l (q + record_count)) s.capacity → d ≡ word l (q + record_depth) → back ≡ holds_back_by s d count
    → Tested l s p q w toggle count back
tested l s p q w toggle d count back (fits, (worker, (inside, (known, flips)))) counted deep held =
    record {
      fits = fits;
      worker = worker;
      inside = inside;
      known = known;
      flips = flips;
      counted = counted;
      held = held ∙ ap (λ (k : ℕ). holds_back_by s k count) deep;
    }

module _ {l : List ℕ} {s : Settings} {p q w toggle count : ℕ} {back : Bool} (y : Tested l s p q w toggle count back) where
  abbrev before : BucketState
  before = bucket_at l s q

  abbrev slots : List ℕ
  slots = part l (p + worker_slots) (slot_size * s.workers)

  abbrev depth : ℕ
  depth = word l (q + record_depth)

  others : (j : ℕ) → j ≢ w → bit toggle j ≡ bit before.applied j
  unfolding loaded_state
  others j d = ap (λ (k : ℕ). bit k j) y.flips ∙ flip_others (word l (q + record_applied)) w j d

  differs : bit toggle w ≢ bit before.applied w
  unfolding loaded_state
  differs e = flip_own (word l (q + record_applied)) w (ap (λ (k : ℕ). bit k w) (sym y.flips) ∙ e)

  -- x is the state with worker w helped
  round_is :
      {m : List ℕ} (x : BucketState) → m ≡ with_bucket_at l s q (with_applied x toggle)
      → helping before slots s depth toggle w others before w ≡ x
      → m ≡ round_at l s p q
  unfolding loaded_state
  round_is {m} x e h =
      round_done l s p q toggle (word l (q + record_applied)) y.known refl (λ d. differs (ap (λ (k : ℕ). bit k w) d)) before
      (with_applied x toggle) slots m depth refl refl refl
      (ap (λ (z : BucketState). with_applied z toggle) (sym h) ∙ round_one before slots s depth toggle w others y.worker) e

  count_is : count ≡ before.count
  unfolding loaded_state
  count_is = y.counted

  -- nothing but the count and the applied bits is written
  first_stored : {m : List ℕ} → m ≡ first_in l q count toggle → m ≡ with_bucket_at l s q (with_applied before toggle)
  unfolding with_applied loaded_state
  first_stored {m} e =
      let n : length m ≡ length l = ap length e ∙ simp length-set in
      let b = y.fits.capacity in
      let a = y.fits.workers in
      let c : ℕ = before.count in
      let h : c ≤ s.capacity = loaded_count l q s.capacity s.workers in
      arrays_stored l q s.capacity s.workers c c toggle (λ v. v) (λ v. v) (λ v. v) (λ v. v) (λ v. v) h m m m m m m
      (e ∙ ap (λ (o : ℕ). first_in l q o toggle) count_is)
      (array_kept m (accounts_from q) c (omega arith) m refl (omega arith))
      (array_kept m (totals_from q s.capacity) c (omega arith) m refl (omega arith))
      (array_kept m (settled_from q s.capacity) s.workers (omega arith) m refl (omega arith))
      (array_kept m (answers_from q s.capacity s.workers) s.workers (omega arith) m refl (omega arith))
      (array_kept m (posted_from q s.capacity s.workers) s.workers (omega arith) m refl (omega arith))

  -- whether the bucket holds updates back, by the accounts of its state
  held_is : holds_back_by s depth before.count ≡ back
  held_is = ap (holds_back_by s depth) (sym count_is) ∙ sym y.held

  pub own_held_back : {m : List ℕ} → back ≡ true → m ≡ first_in l q count toggle → m ≡ round_at l s p q
  own_held_back t e = round_is before (first_stored e) (help_back before s depth toggle w _ (held_is ∙ t))

  pub own_required : Counted l s q count × (w < s.workers)
  own_required = ((y.fits, (y.inside, y.counted)), y.worker)

  -- u is what was read in the worker's own slot
  module _ {u : Descriptor} (read : u ≡ descriptor_in l (read_at p w)) {settled : ℕ} (last : settled ≡ settled_ticket l s q w) where
    slot-word : (k : ℕ) → k < slot_size → get_or slots (slot_size * w + k) 0 ≡ word l (read_at p w + k)
    slot-word k h = get_d_part l (p + worker_slots) (slot_size * s.workers) (slot_size * w + k) (omega arith) ∙ rw (← add_assoc)

    slot_is : descriptor_in slots (slot_size * w) ≡ u
    unfolding descriptor_in
    slot_is =
        rw (
          read,
          slot-word slot_kind (omega arith),
          slot-word slot_account (omega arith),
          slot-word slot_total (omega arith),
          slot-word slot_ticket (omega arith),
        )

    ticket_is : get_or before.settled w 0 ≡ settled
    unfolding loaded_state
    ticket_is =
        let n = y.fits.workers in
        get_d_copied l (settled_from q s.capacity) s.workers w (omega arith) y.worker ∙ sym last

    pub own_settled : {m : List ℕ} → u.ticket ≤ settled → m ≡ first_in l q count toggle → m ≡ round_at l s p q
    own_settled h e =
        round_is before (first_stored e)
        (help_left before s depth toggle w _
        (pending_settled toggle before.applied w (get_or before.settled w 0) _ (rw (slot_is, ticket_is) h)))

    pub own_carried : {m : List ℕ} → back ≡ false → settled < u.ticket → m ≡ own_at l s q toggle w u → m ≡ round_at l s p q
    unfolding own_at
    own_carried t h e =
        round_is (carry_of before s w u) e
        (help_carried before s depth toggle w _
        (pending_differs toggle before.applied w (get_or before.settled w 0) _ differs
        ∙ rw (slot_is, ticket_is) (lt-ltb settled u.ticket h))
        (held_is ∙ t)
        ∙ ap (carry_of before s w) slot_is)
