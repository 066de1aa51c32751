-- Opening: its words mean the fresh machine; words that mean a machine are never strange.
-- Rests on the layout and on the laws of runs of words.
use Prim.Native.Nat.{ℕ, zero, suc, ◌+◌, ◌-◌, ◌*◌, ◌/◌, ◌%◌, ◌^◌, ◌≤◌, ◌<◌}
use native.Mathlib.Omega.{arith}
use native.Mathlib.Nat.{add-zero, zero-add, add_assoc, suc-mul, mul-le-mul_right, mul-le-mul}
use lib.Pow.{pow_pos}
use mathlib.Core.Path.{◌≡◌, ap, sym, ◌∙◌, subst}
use mathlib.Core.Bool.{true, false}
use mathlib.Core.List.{List, [], ◌∷◌, ◌++◌}
use lib.ListN.{length, get_or, replicate, length-append, length-replicate, get_or-replicate, get_or-append}
use lib.Seq.{get_or-append-add}
use borrow.Author.Tests.{le-ltb}
use Rattle.interface.specs.Limits.{in_range, Range, least_workers, greatest_workers, least_capacity, greatest_capacity, least_depth, within}
use Rattle.interface.proofs.Laws.{range_of, within_is}
use Rattle.interface.specs.declared.Settings.{Settings}
use Rattle.machine.specs.Choice.{when◌then◌else◌}
use Rattle.machine.specs.Sequential.{first_bits}
use Rattle.machine.specs.Records.{Machine, empty_body, new_bucket, first_directory, first_cells, no_reads, opened, bucket_of}
use Rattle.fields.specs.Fields.{header_settings, header_needed, header_depth, header_spare, capacity_unit, depth_unit, deepest, mark_unit, mark, least_first, greatest_first, slot_kind, slot_account, slot_total, slot_ticket, slot_size, worker_kind, worker_account, worker_total, worker_ticket, worker_steps, worker_toggle, worker_marks, worker_slots, worker_size, record_count, record_applied, record_toggle, record_depth, record_prefix, settled_from, answers_from, posted_from, record_size, widest_record, spare_records}
use Rattle.fields.specs.Regions.{slot_at, worker_at, slot_read, read_at, directory_start, record_start, pool_size, words_needed, least_words, record', start_of, slot, worker, entry}
use Rattle.bucket.specs.declared.BucketState.{BucketState}
use Rattle.bucket.specs.State.{size_of}
use Rattle.rules.specs.Rules.{descriptor_in, answer_of}
use Rattle.simulation.specs.Buckets.{pairs, items_of, settled_of, slot_from, Means}
use Rattle.lists.specs.Parts.{part, overlay}
use Rattle.memory.specs.Words.{least}
use Rattle.record.specs.Loads.{copied, loaded_state}
use Rattle.lists.proofs.PartLaws.{length_overlay, get_d_overlay_in}
use Rattle.fields.proofs.Regions.{region_inside, record_starts_apart}
use Rattle.record.proofs.Runs.{get_d_copied}
use Rattle.memory.proofs.Lesser.{least_same}
use Rattle.record.proofs.States.{loaded_sized}
use Rattle.layout.specs.Shape.{word, settings_of, first_word, strange, shape_of}
use Rattle.opening.specs.Opening.{fresh_words}
use Rattle.opening.proofs.FreshWords.{fresh_parts}
use Rattle.simulation.specs.Meaning.{at, operation_in, name_in, Keeps, Directs, Live, current, referred, WorkerMeans, Meaning}
use Rattle.simulation.proofs.frames.Frames.{entry_within, record_wide}
use Rattle.simulation.proofs.frames.OwnWorker.{slots_at}
use Rattle.simulation.proofs.frames.WordBits.{no-bits}

-- ---- the checks behind 8

-- what is left of a number by a unit, past whole units
rest_of : (x k r : ℕ) → r < deepest + 1 → x ≡ (deepest + 1) * k + r → x % (deepest + 1) ≡ r
rest_of x k r h e = omega arith

product : (a b c d : ℕ) → a ≤ c → b ≤ d → a * b ≤ c * d
product a b c d h k = mul-le-mul h k

module _ (s : Settings) (range : in_range s.workers s.capacity s.depth ≡ true) where
  limits : Range s.workers s.capacity s.depth
  limits = range_of s.workers s.capacity s.depth range

  -- the first word keeps the settings
  pub settings_kept : settings_of (first_word s) ≡ s
  unfolding settings_of first_word
  settings_kept =
      let k = limits in
      let x : ℕ = first_word s in
      let n : x % greatest_workers + 1 ≡ s.workers = omega arith in
      let above : x / capacity_unit ≡ mark * (mark_unit / capacity_unit) + (s.capacity - 1) + greatest_capacity * s.depth = omega arith in
      let c : x / capacity_unit % greatest_capacity ≡ s.capacity - 1 =
      rest_of (x / capacity_unit) (mark * (deepest + 1) + s.depth) (s.capacity - 1) (omega arith) (omega arith) in
      let b : x / capacity_unit % greatest_capacity + 1 ≡ s.capacity = omega arith in
      let top : x / depth_unit ≡ mark * (mark_unit / depth_unit) + s.depth = omega arith in
      let d : x / depth_unit % (deepest + 1) ≡ s.depth = rest_of (x / depth_unit) mark s.depth (omega arith) (omega arith) in
      λ i. record { workers = n i; capacity = b i; depth = d i }

  marked : within least_first (first_word s) greatest_first ≡ true
  unfolding first_word
  marked = let k = limits in within_is least_first (first_word s) greatest_first (omega arith) (omega arith)

  -- the words needed are enough for the checks
  needed_least : least_words ≤ words_needed s
  unfolding words_needed record_start directory_start pool_size
  needed_least =
      let k = limits in
      let p = pow_pos s.depth in
      let few : ℕ = 2 ^ least_depth + least_workers + spare_records in
      let records : few * record_size least_capacity least_workers ≤ (2 ^ s.depth + s.workers + spare_records) * record_size s.capacity
      s.workers =
      product few (record_size least_capacity least_workers) _ _ (omega arith) (omega arith) in
      let workers : least_workers * worker_size least_workers ≤ s.workers * worker_size s.workers =
      product least_workers (worker_size least_workers) _ _ (omega arith) (omega arith) in
      omega arith

  module _ (l : List ℕ) (m : Machine) (means : Meaning s l m) where
    pub shape_is : shape_of l ≡ s
    shape_is = ap settings_of means.first ∙ settings_kept

    pub strange_never : strange l ≡ false
    unfolding strange
    strange_never =
        let first : within least_first (word l header_settings) greatest_first ≡ true = rw means.first marked in
        let long = needed_least in
        let rest = (fresh_parts s).1 in
        let p = pow_pos s.depth in
        let lent = means.lent in
        simp (
          shape_is,
          le-ltb (length l) least_words (omega arith),
          first,
          le-ltb (length l) (word l header_needed) (rw means.needed lent),
          le-ltb (length l) (directory_start s.workers + widest_record) (omega arith),
        )

-- ---- the words of a fresh table

module _ (s : Settings) (range : in_range s.workers s.capacity s.depth ≡ true) where
  abbrev n : ℕ
  n = s.workers

  abbrev d : ℕ
  d = directory_start n

  abbrev front : List ℕ
  front = first_word s ∷ words_needed s ∷ 0 ∷ 0 ∷ 1 ∷ replicate (d - (header_spare + 1)) 0

  abbrev entries : List ℕ
  entries = replicate (2 ^ s.depth) (record_start s 0)

  front_length : length front ≡ d
  front_length = let k = (fresh_parts s).0 in rw length-replicate (omega arith)

  front_entries : length (front ++ entries) ≡ d + 2 ^ s.depth
  front_entries = length-append front entries ∙ rw (front_length, length-replicate)

  fresh_length : length (fresh_words s) ≡ words_needed s
  unfolding fresh_words
  fresh_length =
      let k = (fresh_parts s).1 in
      length-append (front ++ entries) _ ∙ rw (front_entries, length-replicate) (omega arith)

  fresh_quiet : (i : ℕ) → header_spare < i → i < d → get_or (fresh_words s) i 0 ≡ 0
  unfolding fresh_words
  fresh_quiet i h k =
      let e = front_length in
      let f = front_entries in
      get_or-append (front ++ entries) _ 0 i (omega arith) ∙ get_or-append front entries 0 i (omega arith) ∙ go i h k
    where
      go : (i : ℕ) → header_spare < i → i < d → get_or front i 0 ≡ 0
      go (suc (suc (suc (suc (suc i))))) h k = get_or-replicate (d - (header_spare + 1)) i 0 0 (omega arith)
      go zero h k = absurd (omega arith)
      go (suc zero) h k = absurd (omega arith)
      go (suc (suc zero)) h k = absurd (omega arith)
      go (suc (suc (suc zero))) h k = absurd (omega arith)
      go (suc (suc (suc (suc zero)))) h k = absurd (omega arith)

  fresh_entry : (e : ℕ) → e < 2 ^ s.depth → get_or (fresh_words s) (d + e) 0 ≡ record_start s 0
  unfolding fresh_words
  fresh_entry e h =
      let f = front_entries in
      get_or-append (front ++ entries) _ 0 (d + e) (omega arith)
      ∙ subst (λ (k : ℕ). get_or (front ++ entries) (k + e) 0 ≡ record_start s 0) front_length
      (get_or-append-add front entries e 0 ∙ get_or-replicate (2 ^ s.depth) e (record_start s 0) 0 h)

  fresh_rest : (i : ℕ) → d + 2 ^ s.depth + i < words_needed s → get_or (fresh_words s) (d + 2 ^ s.depth + i) 0 ≡ 0
  unfolding fresh_words
  fresh_rest i h =
      let size : ℕ = words_needed s - (d + 2 ^ s.depth) in
      subst (λ (k : ℕ). get_or (front ++ entries ++ replicate size 0) (k + i) 0 ≡ 0) front_entries
      (get_or-append-add (front ++ entries) (replicate size 0) i 0 ∙ get_or-replicate size i 0 0 (omega arith))

  module _ (l : List ℕ) (enough : words_needed s ≤ length l) where
    abbrev pub after : List ℕ
    after = overlay l 0 (fresh_words s)

    fits : 0 + length (fresh_words s) ≤ length l
    fits = let e = fresh_length in omega arith

    fresh_word : (i : ℕ) → i < words_needed s → word after i ≡ get_or (fresh_words s) i 0
    fresh_word i h = let e = fresh_length in rw (zero-add i) at (get_d_overlay_in l 0 (fresh_words s) fits i (omega arith))

    zero_slot : (j k : ℕ) → j < n → k < slot_size → at s after (slot j) k ≡ 0
    unfolding start_of directory_start
    zero_slot j k jn h =
        let b = (fresh_parts s).1 in
        fresh_word (slot_at j + k) (omega arith) ∙ fresh_quiet (slot_at j + k) (omega arith) (omega arith)

    zero_worker : (j k : ℕ) → j < n → k < worker_size n → at s after (worker j) k ≡ 0
    unfolding start_of directory_start worker_at
    zero_worker j k jn h =
        let b = (fresh_parts s).1 in
        let e = suc-mul j (worker_size n) in
        let f : suc j * (worker_size n) ≤ n * (worker_size n) = mul-le-mul_right (worker_size n) jn in
        fresh_word (worker_at n j + k) (omega arith) ∙ fresh_quiet (worker_at n j + k) (omega arith) (omega arith)

    zero_record : (r k : ℕ) → r < pool_size s → k < record_size s.capacity n → at s after (record' r) k ≡ 0
    unfolding start_of record_start
    zero_record r k rn h =
        let b = region_inside s (record' r) rn in
        let w = record_wide s r in
        let i : ℕ = r * record_size s.capacity s.workers + k in
        let f : start_of s (record' r) + k ≡ d + 2 ^ s.depth + i = omega arith in
        ap (word after) f ∙ fresh_word (d + 2 ^ s.depth + i) (omega arith) ∙ fresh_rest i (omega arith)

    entry_names : (e : ℕ) → e < 2 ^ s.depth → at s after (entry e) 0 ≡ start_of s (record' 0)
    unfolding start_of
    entry_names e h = let b = (fresh_parts s).1 in rw (add-zero (d + e)) (fresh_word (d + e) (omega arith) ∙ fresh_entry e h)

    -- every account's record is the first
    first_record : (a : ℕ) → Directs s after a 0
    unfolding pool_size
    first_record a = record { in_pool = omega arith; names = entry_names (first_bits s.depth a) (entry_within s a) }

    only_record : (r : ℕ) → Live s after opened r → r ≡ 0
    unfolding opened
    only_record r (current a h) = record_starts_apart s r 0 (sym h.names ∙ (first_record a).names)
    only_record r (referred j jn g h) = absurd g

    here : (k : ℕ) → k < record_size s.capacity n → at s after (record' 0) k ≡ 0
    unfolding pool_size
    here k h = zero_record 0 k (omega arith) h

    abbrev q : ℕ
    q = start_of s (record' 0)

    abbrev state : BucketState
    state = loaded_state after q s.capacity n

    no_accounts : state.count ≡ 0
    unfolding loaded_state
    no_accounts = rw (here record_count (omega arith)) (least_same 0 s.capacity (omega arith))

    no_items : items_of state ≡ []
    unfolding items_of size_of pairs when◌then◌else◌
    no_items = rw no_accounts

    state_means : Means state (new_bucket empty_body).state.value n
    unfolding new_bucket settled_of answer_of when◌then◌else◌ loaded_state
    state_means =
        let k = range_of n s.capacity s.depth range in
        let early : (start from j : ℕ) → start ≡ q + from → j < n → from + n ≤ record_size s.capacity n
        → get_or (copied after start n) j 0 ≡ 0 =
        λ start from j e jn b. rw e
        (get_d_copied after (q + from) n j (omega arith) jn ∙ rw (add_assoc q from j) (here (from + j) (omega arith))) in
        let sized = loaded_sized after q s.capacity n in
        record {
          sound = record {
            count = rw no_accounts (omega arith);
            accounts = sized.accounts;
            totals = sized.totals;
            settled = sized.settled;
            answers = sized.answers;
            posted = sized.posted;
            ascending = rw no_items tt;
            narrow = rw no_accounts tt;
            fits = rw no_accounts tt;
          };
          items = no_items;
          settled = λ j jn o. record {
            ticket = early (settled_from q s.capacity) (settled_from 0 s.capacity) j (omega arith) jn (omega arith) o;
            answer = answer_of (early (answers_from q s.capacity n) (answers_from 0 s.capacity n) j (omega arith) jn (omega arith) o)
                (early (posted_from q s.capacity n) (posted_from 0 s.capacity n) j (omega arith) jn (omega arith) o);
          };
          applied = λ j jn. rw (here record_applied (omega arith)) (no-bits j);
        }

    first_keeps : Keeps s after 0 (first_cells.buckets (name_in s after 0))
    unfolding first_cells new_bucket
    first_keeps = record {
      size = rw (here record_count (omega arith)) (omega arith);
      state = state_means;
      toggle = λ j jn. rw (here record_toggle (omega arith)) (no-bits j);
    }

    idle_means : (j : ℕ) → j < n → WorkerMeans s after opened j
    unfolding opened no_reads operation_in slot_from descriptor_in when◌then◌else◌ first_directory new_bucket
    idle_means j jn =
        let zero : (k : ℕ) → k < worker_size n → at s after (worker j) k ≡ 0 = λ k h. zero_worker j k jn h in
        let read : (i o : ℕ) → i < n → o < slot_size → word after (read_at (start_of s (worker j)) i + o) ≡ 0 =
        λ i o h k. let e : read_at (start_of s (worker j)) i + o ≡ start_of s (worker j) + (slot_read i + o) = omega arith in
        ap (word after) e ∙ zero (slot_read i + o) (omega arith) in
        let run : (i o : ℕ) → i < n → o < slot_size
        → get_or (part after (start_of s (worker j) + worker_slots) (slot_size * n)) (slot_size * i + o) 0 ≡ 0 =
        λ i o h k. slots_at s after j i o h k ∙ read i o h k in
        record {
          operation = rw (zero worker_kind (omega arith));
          narrow = rw (zero worker_account (omega arith)) (omega arith);
          fits = rw (zero worker_total (omega arith)) (omega arith);
          ticket = zero worker_ticket (omega arith);
          steps = zero worker_steps (omega arith);
          toggle = λ i h. rw (zero worker_toggle (omega arith)) (no-bits i);
          slots = λ i h. rw (read i slot_kind h (omega arith));
          sound = record {
            narrow = λ i h. rw (run i slot_account h (omega arith)) (omega arith);
            fits = λ i h. rw (run i slot_total h (omega arith)) (omega arith);
            quiet = λ i h e. run i slot_ticket h (omega arith);
          };
          held = λ h. absurd h;
          number = λ h. absurd h;
          directory = λ h. absurd h;
          few = rw (zero worker_marks (omega arith)) (pow_pos n);
          unmarked = λ h. absurd h;
          marks = λ h. absurd h;
        }

    -- the words of an opening mean the fresh machine
    pub opened_means : Meaning s after opened
    unfolding opened first_cells slot_from descriptor_in when◌then◌else◌ first_directory bucket_of fresh_words
    opened_means =
        let long : length after ≡ length l = length_overlay l 0 (fresh_words s) fits in
        let least = needed_least s range in
        record {
          lent = rw long enough;
          first = fresh_word header_settings (omega arith);
          needed = fresh_word header_needed (omega arith);
          depth = fresh_word header_depth (omega arith);
          slots = λ j jn. rw (zero_slot j slot_kind jn (omega arith));
          narrow = λ j jn. rw (zero_slot j slot_account jn (omega arith)) (omega arith);
          fits = λ j jn. rw (zero_slot j slot_total jn (omega arith)) (omega arith);
          quiet = λ j jn e. zero_slot j slot_ticket jn (omega arith);
          directory =
              λ a. (
                0,
                first_record a,
                λ i. record { depth = here record_depth (omega arith) i; prefix = here record_prefix (omega arith) i },
              );
          cells = λ r h. subst (λ k. Keeps s after k (first_cells.buckets (name_in s after k))) (sym (only_record r h)) first_keeps;
          apart = λ r t h k e. only_record r h ∙ sym (only_record t k);
          workers = idle_means;
        }
