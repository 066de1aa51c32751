-- A change of shared cells that is no directory swap: words of one slot or of one bucket record change, and no worker's.
-- Rests on words that are the same.
use Prim.Native.Nat.{ℕ, ◌^◌, ◌<◌}
use native.Mathlib.Omega.{arith}
use native.Mathlib.Decide.{ℕ_discrete}
use mathlib.Core.Path.{◌≡◌, refl, ap, sym, ◌∙◌}
use mathlib.Core.Logic.{◌≢◌, by_cases}
use mathlib.Core.List.{List}
use lib.ListN.{length}
use Rattle.interface.specs.Numbers.{kind_none}
use Rattle.interface.specs.declared.Settings.{Settings}
use Rattle.machine.specs.Sequential.{first_bits}
use Rattle.machine.specs.Records.{Name, Bucket, Slot, Machine}
use Rattle.machine.specs.Steps.{assign_slot, assign_bucket}
use Rattle.machine.proofs.laws.Base.{assign_elim}
use Rattle.machine.proofs.laws.Cells.{bucket_elim}
use Rattle.machine.specs.Tasks.{held, tasks_of}
use Rattle.fields.specs.Fields.{header_settings, header_needed, header_depth, header_number, header_size, slot_kind, slot_account, slot_total, slot_ticket, worker_state, worker_marks, record_number}
use Rattle.fields.specs.Regions.{pool_size, record', start_of, slot, worker, entry}
use Rattle.simulation.specs.Buckets.{slot_from}
use Rattle.layout.specs.Shape.{word}
use Rattle.simulation.specs.Meaning.{at, slot_in, name_in, Keeps, Refers, Live, current, referred, HasState, SameOutcome, WorkerMeans, Meaning}
use Rattle.simulation.proofs.frames.Frames.{state_holds, live_within, inside_head, Inside, entry_within, slot_wide, worker_wide, record_wide, SameWords, descriptor_first, name_same, keeps_same, refers_same, directs_same, marks_same, worker_same}
use Rattle.simulation.proofs.frames.Entering.{refers_once}

-- ---- the whole meaning

-- the machine with other slots and buckets
abbrev pub with_cells : Machine → (ℕ → Slot) → (Name → Bucket) → Machine
with_cells m slots buckets =
    record { cells = record { directory = m.cells.directory; slots = slots; buckets = buckets }; workers = m.workers }

module _ (s : Settings) (l l' : List ℕ) (m : Machine) (slots' : ℕ → Slot) (buckets' : Name → Bucket) where
  -- what is asked of such a change
  pub record Change : Type 0 where
    pub same_length : length l' ≡ length l
    pub head : (k : ℕ) → k < header_size → word l' k ≡ word l k
    pub entries : (a : ℕ) → SameWords s l l' (entry (first_bits s.depth a))
    pub workers : (j : ℕ) → j < s.workers → SameWords s l l' (worker j)
    pub names : (r : ℕ) → r < pool_size s → name_in s l' r ≡ name_in s l r
    pub slots : (j : ℕ) → j < s.workers → slot_in l' (start_of s (slot j)) ≡ slots' j
    pub narrow : (j : ℕ) → j < s.workers → at s l' (slot j) slot_account < 2 ^ 32
    pub fits : (j : ℕ) → j < s.workers → at s l' (slot j) slot_total < 2 ^ 64
    pub quiet : (j : ℕ) → j < s.workers → at s l' (slot j) slot_kind ≡ kind_none → at s l' (slot j) slot_ticket ≡ 0
    pub cells : (r : ℕ) → Live s l m r → Keeps s l' r (buckets' (name_in s l r))
    pub number :
        (j : ℕ) → j < s.workers → HasState (tasks_of s m j).pc → (r : ℕ) → Refers s l j r
        → SameOutcome (at s l (worker j) worker_state) (at s l' (record' r) record_number) (m.workers j).reads.state.stamp
        (buckets' (held (tasks_of s m j))).state.stamp

  module _ (means : Meaning s l m) (h : Change) where
    pub change_means : Meaning s l' (with_cells m slots' buckets')
    change_means = record {
      lent = rw h.same_length means.lent;
      first = h.head header_settings (omega arith) ∙ means.first;
      needed = h.head header_needed (omega arith) ∙ means.needed;
      depth = h.head header_depth (omega arith) ∙ means.depth;
      slots = h.slots;
      narrow = h.narrow;
      fits = h.fits;
      quiet = h.quiet;
      directory = λ a. let x = means.directory a in
          (x.0, directs_same s l l' a x.0 (h.entries a) x.1, h.names x.0 x.1.in_pool ∙ x.2);
      cells = λ r q. let g = live_before r q in rw (h.names r (live_within r g)) (h.cells r g);
      apart = λ r t q u e. let g = live_before r q in let i = live_before t u in
          means.apart r t g i (sym (h.names r (live_within r g)) ∙ e ∙ h.names t (live_within t i));
      workers = λ j jn. each j jn (means.workers j jn);
    }
      where
        back : (j r : ℕ) → j < s.workers → Refers s l' j r → Refers s l j r
        back j r jn = refers_same s l' l j r (λ k b. sym (h.workers j jn k b))

        live_before : (r : ℕ) → Live s l' (with_cells m slots' buckets') r → Live s l m r
        live_before r (current a d) = current a (directs_same s l' l a r (λ k b. sym (h.entries a k b)) d)
        live_before r (referred j jn g d) = referred j jn g (back j r jn d)

        each : (j : ℕ) → j < s.workers → WorkerMeans s l m j → WorkerMeans s l' (with_cells m slots' buckets') j
        each j jn g =
            let words = h.workers j jn in
            worker_same s l l' m (with_cells m slots' buckets') j refl means.lent h.same_length jn words g
            (λ x. let y = g.held x in (y.0, refers_same s l l' j y.0 words y.1, h.names y.0 y.1.in_pool ∙ y.2))
            (λ x r y. h.number j jn x r (back j r jn y))
            (λ x. rw (h.head header_number (omega arith)) (g.directory x))
            (λ x y. marks_same s l l' m (with_cells m slots' buckets') j refl (λ a. refl) (words worker_marks (rw worker_wide (omega arith)))
            (g.marks x y))

-- ---- one slot

module _ (s : Settings) (l l' : List ℕ) (m : Machine) (means : Meaning s l m) where
  -- the words of slot w changed to those of slot x
  pub slot_means :
      (w : ℕ) (x : Slot) → Inside s (slot w) l l' → slot_in l' (start_of s (slot w)) ≡ x → at s l' (slot w) slot_account < 2 ^ 32
      → at s l' (slot w) slot_total < 2 ^ 64
      → (at s l' (slot w) slot_kind ≡ kind_none → at s l' (slot w) slot_ticket ≡ 0)
      → Meaning s l' (record { cells = assign_slot m.cells w x; workers = m.workers })
  unfolding assign_slot
  slot_means w x f is narrow fits quiet = change_means s l l' m _ _ means (record {
    same_length = f.same_length;
    head = inside_head f (λ e. let z : ◌≡◌ {A = ℕ} 0 1 = cc in omega arith);
    entries = λ a k b. f.same (entry _) k (entry_within s a) b (λ e. let z : ◌≡◌ {A = ℕ} 0 1 = cc in omega arith);
    workers = λ j jn k b. f.same (worker j) k jn b (λ e. let z : ◌≡◌ {A = ℕ} 0 1 = cc in omega arith);
    names = λ r rn. name_same s l l' r (records r rn);
    slots = λ j jn. assign_elim (λ (y : Slot). slot_in l' (start_of s (slot j)) ≡ y) m.cells.slots w x j
        (λ e. rw e is)
        (λ d. ap slot_from (descriptor_first s l l' (slot j) (others j jn d) (rw slot_wide (omega arith))) ∙ means.slots j jn);
    narrow =
        λ j jn. by_cases (ℕ_discrete j w) (λ e. rw e narrow)
        (λ d. rw (others j jn d slot_account (rw slot_wide (omega arith))) (means.narrow j jn));
    fits =
        λ j jn. by_cases (ℕ_discrete j w) (λ e. rw e fits)
        (λ d. rw (others j jn d slot_total (rw slot_wide (omega arith))) (means.fits j jn));
    quiet = λ j jn. by_cases (ℕ_discrete j w) (λ e. rw e quiet)
        (λ d. rw (others j jn d slot_kind (rw slot_wide (omega arith)), others j jn d slot_ticket (rw slot_wide (omega arith)))
        (means.quiet j jn));
    cells = λ r g. keeps_same s l l' r _ (records r (live_within r g)) (means.cells r g);
    number = λ j jn h r g. rw (records r g.in_pool record_number (rw record_wide (omega arith))) ((means.workers j jn).number h r g);
  })
    where
      records : (r : ℕ) → r < pool_size s → SameWords s l l' (record' r)
      records r rn k b = f.same (record' r) k rn b (λ e. let z : ◌≡◌ {A = ℕ} 0 1 = cc in omega arith)

      others : (j : ℕ) → j < s.workers → j ≢ w → SameWords s l l' (slot j)
      others j jn d k b = f.same (slot j) k jn b (λ e. d (cc))

  -- ---- one bucket record

  -- The words of record r, which keeps bucket x, changed to those of bucket v under the same name. No other live record has that name, and
  -- the workers that refer to it compare with the new number as they do with the new stamp.
  pub record_means :
      (r : ℕ) (x : Name) (v : Bucket) → r < pool_size s → Inside s (record' r) l l' → name_in s l r ≡ x → name_in s l' r ≡ name_in s l r
      → ((t : ℕ) → Live s l m t → name_in s l t ≡ x → t ≡ r) → Keeps s l' r v
      → ((j : ℕ) → j < s.workers → HasState (tasks_of s m j).pc → Refers s l j r → held (tasks_of s m j) ≡ x
      → SameOutcome (at s l (worker j) worker_state) (at s l' (record' r) record_number) (m.workers j).reads.state.stamp
      v.state.stamp)
      → Meaning s l' (record { cells = assign_bucket m.cells x v; workers = m.workers })
  unfolding assign_bucket
  record_means r x v rn f is name only keeps agree = change_means s l l' m _ _ means (record {
    same_length = f.same_length;
    head = inside_head f (λ e. let z : ◌≡◌ {A = ℕ} 0 1 = cc in omega arith);
    entries = λ a k b. f.same (entry _) k (entry_within s a) b (λ e. let z : ◌≡◌ {A = ℕ} 0 1 = cc in omega arith);
    workers = λ j jn k b. f.same (worker j) k jn b (λ e. let z : ◌≡◌ {A = ℕ} 0 1 = cc in omega arith);
    names = λ t tn. by_cases (ℕ_discrete t r) (λ e. rw e name) (λ d. name_same s l l' t (records t tn d));
    slots = λ j jn. ap slot_from (descriptor_first s l l' (slot j) (slots' j jn) (rw slot_wide (omega arith))) ∙ means.slots j jn;
    narrow = λ j jn. rw (slots' j jn slot_account (rw slot_wide (omega arith))) (means.narrow j jn);
    fits = λ j jn. rw (slots' j jn slot_total (rw slot_wide (omega arith))) (means.fits j jn);
    quiet =
        λ j jn. rw (slots' j jn slot_kind (rw slot_wide (omega arith)), slots' j jn slot_ticket (rw slot_wide (omega arith)))
        (means.quiet j jn);
    cells = λ t g. bucket_elim (Keeps s l' t) m.cells x v (name_in s l t)
        (λ e. rw (only t g e) keeps)
        (λ d. keeps_same s l l' t _ (records t (live_within t g) (λ e. d (rw e is))) (means.cells t g));
    number = numbers;
  })
    where
      records : (t : ℕ) → t < pool_size s → t ≢ r → SameWords s l l' (record' t)
      records t tn d k b = f.same (record' t) k tn b (λ e. d (cc))

      slots' : (j : ℕ) → j < s.workers → SameWords s l l' (slot j)
      slots' j jn k b = f.same (slot j) k jn b (λ e. let z : ◌≡◌ {A = ℕ} 0 1 = cc in omega arith)

      numbers : (j : ℕ) → j < s.workers → HasState (tasks_of s m j).pc → (t : ℕ) → Refers s l j t
          → SameOutcome (at s l (worker j) worker_state) (at s l' (record' t) record_number) (m.workers j).reads.state.stamp
          ((assign_bucket m.cells x v).buckets (held (tasks_of s m j))).state.stamp
      numbers j jn h t g =
          let y = (means.workers j jn).held (state_holds (tasks_of s m j).pc h) in
          let named : name_in s l t ≡ held (tasks_of s m j) = rw (refers_once s l j t y.0 g y.1) y.2 in
          bucket_elim (λ (b : Bucket). SameOutcome (at s l (worker j) worker_state) (at s l' (record' t) record_number)
          (m.workers j).reads.state.stamp b.state.stamp)
          m.cells x v (held (tasks_of s m j))
          (λ e. let z = only t (referred j jn (state_holds (tasks_of s m j).pc h) g) (named ∙ e) in rw z (agree j jn h (rw z at g) e))
          (λ d. rw (records t g.in_pool (λ e. d (sym named ∙ rw e is)) record_number (rw record_wide (omega arith)))
          ((means.workers j jn).number h t g))
