-- The words of a bucket record: what a state loaded from them depends on, a state stored in them, and a round on them.
-- Rests on the laws of loads and stores and on what a round means.
use Prim.Native.Nat.{ℕ, ◌+◌, ◌*◌, ◌≤◌, ◌<◌}
use native.Mathlib.Omega.{arith}
use mathlib.Core.Path.{◌≡◌, refl, ap, sym, ◌∙◌, subst}
use mathlib.Core.Logic.{◌⊎◌, ⊎_elim}
use mathlib.Core.Bool.{Bool, true}
use mathlib.Core.List.{List}
use lib.ListN.{length, get_or, set, take}
use lib.Seq.{ext_get_or, length-take-le, get_or-take, get_or-set_other}
use Rattle.interface.specs.Limits.{in_range, Range, greatest_workers, greatest_capacity}
use Rattle.interface.proofs.Laws.{range_of}
use Rattle.interface.specs.declared.Settings.{Settings}
use Rattle.machine.specs.Records.{State, Slot}
use Rattle.machine.specs.BucketPass.{next_state}
use Rattle.fields.specs.Fields.{slot_size, worker_toggle, worker_slots, record_count, record_applied, record_toggle, record_depth, record_accounts, accounts_from, record_size, widest_record}
use Rattle.fields.specs.Regions.{pool_size, words_needed, record', start_of}
use Rattle.machine.proofs.laws.Base.{eq_elim}
use Rattle.bucket.specs.declared.BucketState.{BucketState}
use Rattle.bucket.specs.State.{array_size}
use Rattle.rounds.specs.Rounds.{round_of}
use Rattle.simulation.specs.Buckets.{items_of, settled_of, bits_of, slot_of, SoundSlots, Means}
use Rattle.bucket.proofs.Laws.{size_is}
use Rattle.simulation.proofs.buckets.Ties.{round_means}
use Rattle.lists.specs.Parts.{part}
use Rattle.record.specs.Loads.{loaded_state}
use Rattle.storing.specs.Stores.{stored_state}
use Rattle.fields.proofs.Regions.{record_inside}
use Rattle.bucket.proofs.Sizes.{Sized}
use Rattle.record.proofs.States.{loaded_kept, loaded_sized, loaded_count}
use Rattle.memory.proofs.Lesser.{least_bound}
use Rattle.storing.proofs.Trips.{Same, length_state, count_word, state_elsewhere, trip}
use Rattle.layout.specs.Shape.{word}
use Rattle.inplace.specs.InPlace.{round_at}
use Rattle.simulation.specs.Meaning.{at}
use Rattle.rounds.proofs.Sizes.{round_count, round_idle}

-- ---- a state loaded

-- toggle, depth, prefix and number are no part of a state
pub loaded_set :
    (l : List ℕ) (q b n i v : ℕ) → record_toggle ≤ i → i < record_accounts → loaded_state (set l (q + i) v) q b n ≡ loaded_state l q b n
loaded_set l q b n i v h g =
    loaded_kept (set l (q + i) v) l q q b n
    (λ k d o. get_or-set_other l (q + i) (q + k) v 0 (λ e. ⊎_elim (λ f. omega arith) (λ f. omega arith) o))

applied_loaded : (l : List ℕ) (q b n : ℕ) → (loaded_state l q b n).applied ≡ get_or l (q + record_applied) 0
unfolding loaded_state
applied_loaded l q b n = refl

-- ---- a state that is the same as far as a record keeps it means the same

take_same : (k : ℕ) (l l' : List ℕ) → k ≤ length l → k ≤ length l' → ((i : ℕ) → i < k → get_or l' i 0 ≡ get_or l i 0) → take k l' ≡ take k l
take_same k l l' h h' same =
    let e = length-take-le k l h in
    let e' = length-take-le k l' h' in
    ext_get_or 0 (take k l') (take k l) (e' ∙ sym e)
    (λ i d. get_or-take k l' i 0 (omega arith) ∙ same i (omega arith) ∙ sym (get_or-take k l i 0 (omega arith)))

module _ (x y : BucketState) (n : ℕ) (z : State) (sized : Sized y) (same : Same n x y) (m : Means x z n) where
  few : y.count ≤ array_size
  few = omega (arith, same.count, m.sound.count)

  same_accounts : take y.count y.accounts ≡ take x.count x.accounts
  same_accounts = rw same.count
      (take_same x.count x.accounts y.accounts (omega (arith, m.sound.accounts, m.sound.count))
      (omega (arith, sized.accounts, m.sound.count)) same.account)

  same_totals : take y.count y.totals ≡ take x.count x.totals
  same_totals = rw same.count
      (take_same x.count x.totals y.totals (omega (arith, m.sound.totals, m.sound.count))
      (omega (arith, sized.totals, m.sound.count)) same.total)

  same_items : items_of y ≡ items_of x
  unfolding items_of
  same_items = rw (size_is y few, size_is x m.sound.count, same_accounts, same_totals)

  same_settled : (j : ℕ) → j < n → settled_of y j ≡ settled_of x j
  unfolding settled_of
  same_settled j h = rw (same.settled j h, same.answer j h, same.posted j h)

  same_means : Means y z n
  same_means = record {
    sound = record {
      count = few;
      accounts = sized.accounts;
      totals = sized.totals;
      settled = sized.settled;
      answers = sized.answers;
      posted = sized.posted;
      ascending = rw same_items m.sound.ascending;
      narrow = rw same_accounts m.sound.narrow;
      fits = rw same_totals m.sound.fits;
    };
    items = same_items ∙ m.items;
    settled = λ j h. same_settled j h ∙ m.settled j h;
    applied = λ j h. ap (λ (w : ℕ). bits_of w j) same.applied ∙ m.applied j h;
  }

-- ---- a state stored

-- the words l' are the words l but for the state in record r, which means y
pub record Stored (s : Settings) (l l' : List ℕ) (r : ℕ) (y : State) : Type 0 where
  pub same_length : length l' ≡ length l
  -- the words before the record, its toggle, depth, prefix and number, and those behind it
  pub elsewhere :
      (i : ℕ)
      → (i < start_of s (record' r))
      ⊎ (((start_of s (record' r) + record_toggle ≤ i) × (i < accounts_from (start_of s (record' r))))
      ⊎ (start_of s (record' r) + record_size s.capacity s.workers ≤ i))
      → get_or l' i 0 ≡ get_or l i 0
  pub size : at s l' (record' r) record_count ≤ s.capacity
  pub state : Means (loaded_state l' (start_of s (record' r)) s.capacity s.workers) y s.workers

module _ (s : Settings) (range : in_range s.workers s.capacity s.depth ≡ true) (l : List ℕ) (enough : words_needed s ≤ length l)
    (r : ℕ) (rn : r < pool_size s) where
  abbrev q : ℕ
  q = start_of s (record' r)

  limits : Range s.workers s.capacity s.depth
  limits = range_of s.workers s.capacity s.depth range

  pub stored_words :
      (x : BucketState) (y : State) → Means x y s.workers → x.count ≤ s.capacity
      → Stored s l (stored_state l (start_of s (record' r)) s.capacity s.workers x) r y
  stored_words x y m few =
      let h = limits in
      let small : s.capacity ≤ greatest_capacity = omega arith in
      let few_workers : s.workers ≤ greatest_workers = omega arith in
      record {
        same_length = length_state l q s.capacity s.workers x fits small few_workers sized;
        elsewhere = state_elsewhere l q s.capacity s.workers x fits small few_workers sized;
        size = rw (count_word l q s.capacity s.workers x fits small few_workers sized) (least_bound x.count s.capacity);
        state =
            same_means x _ s.workers y (loaded_sized _ q s.capacity s.workers)
            (trip l q s.capacity s.workers x fits small few_workers sized few) m;
      }
    where
      fits : q + widest_record ≤ length l
      fits = omega (arith, record_inside s r rn)

      sized : Sized x
      sized =
          let h = m.sound in
          record { accounts = h.accounts; totals = h.totals; settled = h.settled; answers = h.answers; posted = h.posted }

-- ---- a round

-- The words of record r, which keeps state y, after a round with the toggle bits and the slots that the worker at p has read.
module _ (s : Settings) (range : in_range s.workers s.capacity s.depth ≡ true) (l : List ℕ) (enough : words_needed s ≤ length l)
    (r : ℕ) (rn : r < pool_size s) (p : ℕ) (y : State) (bits : ℕ → Bool) (slots : ℕ → Slot) where
  -- the record's state, the bucket's depth, and the words of the slots read
  abbrev before : BucketState
  before = loaded_state l (start_of s (record' r)) s.capacity s.workers

  abbrev depth : ℕ
  depth = at s l (record' r) record_depth

  abbrev read : List ℕ
  read = part l (p + worker_slots) (slot_size * s.workers)

  abbrev next : State
  next = next_state s depth y bits slots

  pub round_words :
      at s l (record' r) record_count ≤ s.capacity → Means before y s.workers
      → ((j : ℕ) → j < s.workers → bits_of (word l (p + worker_toggle)) j ≡ bits j) → SoundSlots read s.workers
      → ((j : ℕ) → j < s.workers → slot_of read j ≡ slots j)
      → Stored s l (round_at l s p (start_of s (record' r))) r next
  unfolding round_at
  round_words size state toggle sound same =
      eq_elim (λ l'. Stored s l l' r next) (word l (p + worker_toggle)) (at s l (record' r) record_applied) _ _
      (λ e. record {
        same_length = refl;
        elsewhere = λ i h. refl;
        size = size;
        state = subst (λ (x : BucketState). Means x next s.workers)
            (round_idle before read s depth (word l (p + worker_toggle))
            (e ∙ sym (applied_loaded l (start_of s (record' r)) s.capacity s.workers))) after;
      })
      (λ d. stored_words s range l enough r rn _ _ after
      (round_count before read s depth _ (loaded_count l (start_of s (record' r)) s.capacity s.workers)))
    where
      after : Means (round_of before read s depth (word l (p + worker_toggle))) next s.workers
      after =
          let h = limits s range l enough r rn in
          round_means s depth (omega arith) (omega arith) before (word l (p + worker_toggle)) read y bits slots state toggle sound same
