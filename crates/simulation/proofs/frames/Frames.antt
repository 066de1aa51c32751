-- Words of regions after a store, and what a change inside one region keeps of the meaning. Rests on the laws of regions.
use Prim.Native.Nat.{ℕ, ◌+◌, ◌*◌, ◌-◌, ◌^◌, ◌≤◌, ◌<◌}
use native.Mathlib.Omega.{arith}
use native.Mathlib.Nat.{add_assoc, zero-add, div-le_self, pow-le-pow_right}
use native.Mathlib.Decide.{ℕ_discrete, dec_lt}
use mathlib.Core.Path.{◌≡◌, refl, ap, sym, ◌∙◌, subst⁻¹}
use mathlib.Core.Logic.{◌≢◌, ◌⊎◌, inl, inr, ⊎_elim, by_cases}
use mathlib.Core.List.{List}
use lib.ListN.{length, get_or, set, length-set}
use lib.Seq.{get_or-set_same, get_or-set_other}
use Rattle.interface.specs.declared.Settings.{Settings}
use Rattle.machine.specs.Choice.{assign}
use Rattle.machine.specs.Records.{Bucket, Worker, Machine}
use Rattle.fields.specs.Fields.{header_settings, header_needed, header_depth, header_number, header_size, slot_kind, slot_account, slot_total, slot_ticket, slot_size, worker_account, worker_total, worker_ticket, worker_steps, worker_held, worker_state, worker_toggle, worker_directory, worker_marks, worker_slots, worker_size, record_count, record_toggle, record_depth, record_prefix, record_number, record_size}
use Rattle.fields.specs.Regions.{slot_read, read_at, pool_size, words_needed, Region, record', start_of, region_size, Within, header, slot, worker, entry}
use Rattle.machine.specs.Sequential.{place, first_bits}
use Rattle.machine.proofs.laws.Base.{assign_other}
use Rattle.machine.proofs.laws.Places.{place_below}
use Rattle.machine.proofs.laws.Bits.{bits_below}
use Rattle.machine.specs.Passed.{HoldsBucket}
use Rattle.machine.specs.Counter.{PC, in_b}
use Rattle.machine.specs.Tasks.{leaf, held, DirectoryFresh, tasks_of, own}
use Rattle.rules.specs.Rules.{descriptor_in}
use Rattle.simulation.specs.Buckets.{slot_from}
use Rattle.lists.specs.Parts.{part, overlay}
use Rattle.lists.proofs.PartLaws.{length_part, get_d_part, part_ext, length_overlay, get_d_overlay_in, get_d_overlay_before, get_d_overlay_after}
use Rattle.fields.proofs.Regions.{regions_apart, region_inside}
use Rattle.record.proofs.States.{loaded_same}
use Rattle.layout.specs.Shape.{word}
use Rattle.simulation.specs.Meaning.{at, operation_in, name_in, Keeps, Directs, Refers, Live, current, referred, HasState, HasDirectory, HasWork, SameOutcome, Marked, Marks, WorkerMeans, Meaning}

-- ---- one word

module _ (s : Settings) (l : List ℕ) (enough : words_needed s ≤ length l) where
  -- word i of a region is there
  pub word_there : (r : Region) (i : ℕ) → Within s r → i < region_size s r → start_of s r + i < length l
  word_there r i w h = omega (arith, region_inside s r w)

  pub at_here : (r : Region) (i v : ℕ) → Within s r → i < region_size s r → at s (set l (start_of s r + i) v) r i ≡ v
  at_here r i v w h = get_or-set_same l (start_of s r + i) v 0 (word_there r i w h)

  pub at_beside :
      (r : Region) (i k v : ℕ) → Within s r → i < region_size s r → k < region_size s r → k ≢ i
      → at s (set l (start_of s r + i) v) r k ≡ at s l r k
  at_beside r i k v w h g d = get_or-set_other l (start_of s r + i) (start_of s r + k) v 0 (λ e. d (omega arith))

  pub at_other :
      (r q : Region) (i k v : ℕ) → Within s r → Within s q → i < region_size s r → k < region_size s q → r ≢ q
      → at s (set l (start_of s r + i) v) q k ≡ at s l q k
  at_other r q i k v w x h g d =
      get_or-set_other l (start_of s r + i) (start_of s q + k) v 0
      (λ e. ⊎_elim (λ (a : start_of s r + region_size s r ≤ start_of s q). absurd (omega arith))
      (λ (a : start_of s q + region_size s q ≤ start_of s r). absurd (omega arith)) (regions_apart s r q w x d))

-- ---- a run of words from word i of a region on

module _ (s : Settings) (l : List ℕ) (enough : words_needed s ≤ length l) (r : Region) (w : Within s r) (i : ℕ) (xs : List ℕ)
    (fits : i + length xs ≤ region_size s r) where
  run_there : start_of s r + i + length xs ≤ length l
  run_there = omega (arith, region_inside s r w)

  pub over_length : length (overlay l (start_of s r + i) xs) ≡ length l
  over_length = length_overlay l (start_of s r + i) xs run_there

  pub over_here : (k : ℕ) → k < length xs → at s (overlay l (start_of s r + i) xs) r (i + k) ≡ get_or xs k 0
  over_here k h = rw (← add_assoc) (get_d_overlay_in l (start_of s r + i) xs run_there k h)

  pub over_before : (k : ℕ) → k < i → at s (overlay l (start_of s r + i) xs) r k ≡ at s l r k
  over_before k h = get_d_overlay_before l (start_of s r + i) xs run_there (start_of s r + k) (omega arith)

  pub over_behind : (k : ℕ) → i + length xs ≤ k → at s (overlay l (start_of s r + i) xs) r k ≡ at s l r k
  over_behind k h = get_d_overlay_after l (start_of s r + i) xs run_there (start_of s r + k) (omega arith)

  pub over_other : (q : Region) (k : ℕ) → Within s q → k < region_size s q → r ≢ q → at s (overlay l (start_of s r + i) xs) q k ≡ at s l q k
  over_other q k x h d =
      ⊎_elim
      (λ (a : start_of s r + region_size s r ≤ start_of s q). get_d_overlay_after l (start_of s r + i) xs run_there (start_of s q + k)
      (omega arith))
      (λ (a : start_of s q + region_size s q ≤ start_of s r). get_d_overlay_before l (start_of s r + i) xs run_there (start_of s q + k)
      (omega arith))
      (regions_apart s r q w x d)

-- the entry of an account is there
pub entry_within : (s : Settings) (a : ℕ) → Within s (entry (first_bits s.depth a))
unfolding first_bits
entry_within s a = by_cases (dec_lt s.depth 33) (λ h. bits_below s.depth a (omega arith)) (λ h. deep (omega arith))
  where
    deep : 32 ≤ s.depth → first_bits s.depth a < 2 ^ s.depth
    deep h =
        let less = div-le_self (place a) (2 ^ (32 - s.depth)) in
        let wide : 2 ^ 32 ≤ 2 ^ s.depth = pow-le-pow_right (omega arith) h in
        omega (arith, place_below a)

-- ---- a region whose words are the same

pub header_start : (s : Settings) → start_of s header ≡ 0
unfolding start_of
header_start s = refl

pub header_wide : (s : Settings) → region_size s header ≡ header_size
unfolding region_size
header_wide s = refl

pub slot_wide : (s : Settings) (j : ℕ) → region_size s (slot j) ≡ slot_size
unfolding region_size
slot_wide s j = refl

pub entry_wide : (s : Settings) (e : ℕ) → region_size s (entry e) ≡ 1
unfolding region_size
entry_wide s e = refl

pub worker_wide : (s : Settings) (j : ℕ) → region_size s (worker j) ≡ worker_size s.workers
unfolding region_size
worker_wide s j = refl

pub record_wide : (s : Settings) (r : ℕ) → region_size s (record' r) ≡ record_size s.capacity s.workers
unfolding region_size
record_wide s r = refl

module _ (s : Settings) (l l' : List ℕ) where
  abbrev pub SameWords : Region → Type 0
  SameWords q = (k : ℕ) → k < region_size s q → at s l' q k ≡ at s l q k

  -- the words of a descriptor from i on
  pub descriptor_near :
      (i : ℕ) → ((k : ℕ) → k < slot_size → word l' (i + k) ≡ word l (i + k)) → descriptor_in l' i ≡ descriptor_in l i
  unfolding descriptor_in
  descriptor_near i same = λ o. record {
    kind = same slot_kind (omega arith) o;
    account = same slot_account (omega arith) o;
    total = same slot_total (omega arith) o;
    ticket = same slot_ticket (omega arith) o;
  }

  -- those from word i of a region on
  pub descriptor_same :
      (q : Region) → SameWords q → (i : ℕ) → i + slot_size ≤ region_size s q
      → descriptor_in l' (start_of s q + i) ≡ descriptor_in l (start_of s q + i)
  descriptor_same q same i h = descriptor_near (start_of s q + i) (λ k b. rw (add_assoc (start_of s q) i k) (same (i + k) (omega arith)))

  -- those at a region's start
  pub descriptor_first :
      (q : Region) → SameWords q → slot_size ≤ region_size s q → descriptor_in l' (start_of s q) ≡ descriptor_in l (start_of s q)
  descriptor_first q same h = descriptor_near (start_of s q) (λ k b. same k (omega arith))

  pub name_same : (r : ℕ) → SameWords (record' r) → name_in s l' r ≡ name_in s l r
  name_same r same =
      let e = record_wide s r in λ o. record { depth = same record_depth (omega arith) o; prefix = same record_prefix (omega arith) o }

  pub keeps_same : (r : ℕ) (x : Bucket) → SameWords (record' r) → Keeps s l r x → Keeps s l' r x
  keeps_same r x same k =
      let wide = record_wide s r in
      record {
        size = rw (same record_count (omega arith)) k.size;
        state = rw (loaded_same l' l _ _ s.capacity s.workers (λ i h. same i (omega arith))) k.state;
        toggle = λ j h. rw (same record_toggle (omega arith)) (k.toggle j h);
      }

  pub refers_same : (j r : ℕ) → SameWords (worker j) → Refers s l j r → Refers s l' j r
  refers_same j r same h = let wide = worker_wide s j in record { in_pool = h.in_pool; names = same worker_held (omega arith) ∙ h.names }

  pub directs_same : (a r : ℕ) → SameWords (entry (first_bits s.depth a)) → Directs s l a r → Directs s l' a r
  directs_same a r same h = record { in_pool = h.in_pool; names = same 0 (rw entry_wide (omega arith)) ∙ h.names }

-- ---- where a worker stands, and what is live

pub state_holds : (pc : PC) → HasState pc → HoldsBucket pc
state_holds (in_b p r x) h = tt
state_holds _ h = elim h [ ]

pub live_within : {s : Settings} {l : List ℕ} {m : Machine} (r : ℕ) → Live s l m r → r < pool_size s
live_within r (current a d) = d.in_pool
live_within r (referred j jn g d) = d.in_pool

-- ---- a worker whose words are the same, and which has done nothing

-- it has marked the same buckets, where the directory names the same
marked_same :
    (s : Settings) (l l' : List ℕ) (m m' : Machine) (j : ℕ) → m'.workers j ≡ m.workers j
    → ((a : ℕ) → leaf m'.cells a ≡ leaf m.cells a)
    → at s l' (worker j) worker_marks ≡ at s l (worker j) worker_marks → (a : ℕ) → Marked s l m j a → Marked s l' m' j a
marked_same s l l' m m' j still leaves marks a h =
    record { by = h.by; below = h.below; set = rw marks h.set; here = leaves _ ∙ rw still h.here ∙ sym (leaves a) }

module _ (s : Settings) (l l' : List ℕ) (m m' : Machine) (j : ℕ) (still : m'.workers j ≡ m.workers j) where
  pub marks_same :
      ((a : ℕ) → leaf m'.cells a ≡ leaf m.cells a) → at s l' (worker j) worker_marks ≡ at s l (worker j) worker_marks → Marks s l m j
      → Marks s l' m' j
  marks_same leaves marks h = record {
    to = λ a x. rw still (h.to a (marked_same s l' l m' m j (sym still) (λ a. sym (leaves a)) (sym marks) a x));
    from = λ a x. marked_same s l l' m m' j still leaves marks a (h.from a (rw still at x));
    once = λ i k b c x y e.
        h.once i k b c (rw marks at x) (rw marks at y) (sym (leaves _) ∙ rw still at e ∙ leaves _);
    full = λ i b x. rw still (h.full i b (rw marks at x));
  }

  pub worker_same :
      words_needed s ≤ length l → length l' ≡ length l → j < s.workers → SameWords s l l' (worker j) → WorkerMeans s l m j
      → (HoldsBucket (tasks_of s m j).pc → (r : ℕ) × Refers s l' j r × (name_in s l' r ≡ held (tasks_of s m j)))
      → (HasState (tasks_of s m j).pc → (r : ℕ) → Refers s l' j r
      → SameOutcome (at s l (worker j) worker_state) (at s l' (record' r) record_number) (m.workers j).reads.state.stamp
      (own m'.cells (tasks_of s m j)).state.stamp)
      → (HasDirectory (tasks_of s m j).pc
      → SameOutcome (at s l (worker j) worker_directory) (word l' header_number) (m.workers j).reads.directory.stamp
      m'.cells.directory.stamp)
      → (HasWork (tasks_of s m j).pc → DirectoryFresh m'.cells (tasks_of s m j) → Marks s l' m' j)
      → WorkerMeans s l' m' j
  worker_same enough len jn same h held' number' directory' marks' =
      let wide = worker_wide s j in
      record {
        operation = ap operation_in (descriptor_first s l l' (worker j) same (omega arith)) ∙ rw still h.operation;
        narrow = rw (same worker_account (omega arith)) h.narrow;
        fits = rw (same worker_total (omega arith)) h.fits;
        ticket = same worker_ticket (omega arith) ∙ rw still h.ticket;
        steps = same worker_steps (omega arith) ∙ rw still h.steps;
        toggle = λ i k. rw (still, same worker_toggle (omega arith)) (h.toggle i k);
        slots = λ i k. ap slot_from (slot-read i k) ∙ rw still (h.slots i k);
        sound = rw slots_part h.sound;
        held = rw still held';
        number = rw (still, same worker_state (omega arith)) number';
        directory = rw (still, same worker_directory (omega arith)) directory';
        few = rw (same worker_marks (omega arith)) h.few;
        unmarked = rw (still, same worker_marks (omega arith)) h.unmarked;
        marks = rw still marks';
      }
    where
      slot-read :
          (i : ℕ) → i < s.workers → descriptor_in l' (read_at (start_of s (worker j)) i) ≡ descriptor_in l (read_at (start_of s (worker j)) i)
      slot-read i k =
          let wide = worker_wide s j in
          rw (add_assoc (start_of s (worker j)) worker_slots (slot_size * i))
          (descriptor_same s l l' (worker j) same (slot_read i) (omega arith))

      slots_part :
          part l' (start_of s (worker j) + worker_slots) (slot_size * s.workers)
          ≡ part l (start_of s (worker j) + worker_slots) (slot_size * s.workers)
      slots_part =
          let wide = worker_wide s j in
          let p : ℕ = start_of s (worker j) in
          let inside = region_inside s (worker j) jn in
          let there : (i : ℕ) → i < slot_size * s.workers → get_or l' (p + worker_slots + i) 0 ≡ get_or l (p + worker_slots + i) 0 =
          λ i b. rw (add_assoc p worker_slots i) (same (worker_slots + i) (omega arith)) in
          part_ext l' (p + worker_slots) (slot_size * s.workers) _ (omega arith)
          (length_part l (p + worker_slots) (slot_size * s.workers) (omega arith))
          (λ i b. there i b ∙ sym (get_d_part l (p + worker_slots) (slot_size * s.workers) i b))

-- ---- a change inside one region

-- every word outside region q is as it was
pub record Inside (s : Settings) (q : Region) (l l' : List ℕ) : Type 0 where
  pub same_length : length l' ≡ length l
  pub same : (r : Region) (k : ℕ) → Within s r → k < region_size s r → r ≢ q → at s l' r k ≡ at s l r k

pub elsewhere_inside :
    (s : Settings) (q : Region) (l l' : List ℕ) → Within s q → length l' ≡ length l
    → ((i : ℕ) → (i < start_of s q) ⊎ (start_of s q + region_size s q ≤ i) → get_or l' i 0 ≡ get_or l i 0) → Inside s q l l'
elsewhere_inside s q l l' v e same = record {
  same_length = e;
  same = λ r k w h d. same (start_of s r + k) (⊎_elim (λ a. inl (omega arith)) (λ a. inr (omega arith)) (regions_apart s r q w v d));
}

pub inside_trans : {s : Settings} {q : Region} {l l' l'' : List ℕ} → Inside s q l l' → Inside s q l' l'' → Inside s q l l''
inside_trans f g = record { same_length = g.same_length ∙ f.same_length; same = λ r k x b d. g.same r k x b d ∙ f.same r k x b d }

-- the header, where that is another region
pub inside_head :
    {s : Settings} {q : Region} {l l' : List ℕ} → Inside s q l l' → header ≢ q → (k : ℕ) → k < header_size → word l' k ≡ word l k
inside_head f d k b = rw (header_start, zero-add) at (f.same header k tt (rw header_wide b) d)

module _ (s : Settings) (l : List ℕ) (enough : words_needed s ≤ length l) (q : Region) (v : Within s q) where
  pub set_inside : (i x : ℕ) → i < region_size s q → Inside s q l (set l (start_of s q + i) x)
  set_inside i x b = record { same_length = simp length-set; same = λ r k w h d. at_other s l enough q r i k x v w b h (λ e. d (sym e)) }

  pub overlay_inside : (i : ℕ) (xs : List ℕ) → i + length xs ≤ region_size s q → Inside s q l (overlay l (start_of s q + i) xs)
  overlay_inside i xs b = record {
    same_length = over_length s l enough q v i xs b;
    same = λ r k w h d. over_other s l enough q v i xs b r k w h (λ e. d (sym e));
  }

-- ---- a change of one worker's own words

-- every word outside worker w's record is as it was
abbrev pub OwnWords : Settings → ℕ → List ℕ → List ℕ → Type 0
OwnWords s w = Inside s (worker w)

module _ {s : Settings} {w : ℕ} {l l' : List ℕ} (f : OwnWords s w l l') where
  pub own_head : (k : ℕ) → k < header_size → word l' k ≡ word l k
  own_head = inside_head f (λ e. let z : ◌≡◌ {A = ℕ} 0 1 = cc in omega arith)

  pub own_slot : (j : ℕ) → j < s.workers → SameWords s l l' (slot j)
  own_slot j jn k b = f.same (slot j) k jn b (λ e. let z : ◌≡◌ {A = ℕ} 0 1 = cc in omega arith)

  pub own_record : (r : ℕ) → r < pool_size s → SameWords s l l' (record' r)
  own_record r rn k b = f.same (record' r) k rn b (λ e. let z : ◌≡◌ {A = ℕ} 0 1 = cc in omega arith)

  pub own_entry : (a : ℕ) → SameWords s l l' (entry (first_bits s.depth a))
  own_entry a k b = f.same (entry (first_bits s.depth a)) k (entry_within s a) b (λ e. let z : ◌≡◌ {A = ℕ} 0 1 = cc in omega arith)

  pub own_worker : (j : ℕ) → j < s.workers → j ≢ w → SameWords s l l' (worker j)
  own_worker j jn d k b = f.same (worker j) k jn b (λ e. d (cc))

module _ (s : Settings) (l l' : List ℕ) (m : Machine) (w : ℕ) (wn : w < s.workers) (v : Worker) (f : OwnWords s w l l')
    (means : Meaning s l m) where
  abbrev pub after : Machine
  after = record { cells = m.cells; workers = assign m.workers w v }

  -- the words mean the machine with that worker changed, if they do so for that worker, and the record that it refers to was live
  pub own_means :
      WorkerMeans s l' after w → (HoldsBucket (tasks_of s after w).pc → (r : ℕ) → Refers s l' w r → Live s l m r) → Meaning s l' after
  own_means h live = record {
    lent = rw f.same_length means.lent;
    first = own_head f header_settings (omega arith) ∙ means.first;
    needed = own_head f header_needed (omega arith) ∙ means.needed;
    depth = own_head f header_depth (omega arith) ∙ means.depth;
    slots = λ j jn. ap slot_from (descriptor_first s l l' (slot j) (own_slot f j jn) (rw slot_wide (omega arith))) ∙ means.slots j jn;
    narrow = λ j jn. rw (own_slot f j jn slot_account (rw slot_wide (omega arith))) (means.narrow j jn);
    fits = λ j jn. rw (own_slot f j jn slot_total (rw slot_wide (omega arith))) (means.fits j jn);
    quiet =
        λ j jn. rw (own_slot f j jn slot_kind (rw slot_wide (omega arith)), own_slot f j jn slot_ticket (rw slot_wide (omega arith)))
        (means.quiet j jn);
    directory = λ a. let x = means.directory a in
        (x.0, directs_same s l l' a x.0 (own_entry f a) x.1, name_same s l l' x.0 (own_record f x.0 x.1.in_pool) ∙ x.2);
    cells = λ r q. let g = live_before r q in let words = own_record f r (live_within r g) in
        rw (name_same s l l' r words) (keeps_same s l l' r _ words (means.cells r g));
    apart = λ r t q u e. let g = live_before r q in let i = live_before t u in
        let back : (o : ℕ) → Live s l m o → name_in s l' o ≡ name_in s l o = λ o h. name_same s l l' o (own_record f o (live_within o h)) in
        means.apart r t g i (sym (back r g) ∙ e ∙ back t i);
    workers = λ j jn. by_cases (ℕ_discrete j w) (λ e. subst⁻¹ (WorkerMeans s l' after) e h) (λ e. others j jn e (means.workers j jn));
  }
    where
      still : (j : ℕ) → j ≢ w → after.workers j ≡ m.workers j
      still j d = assign_other m.workers w v j d

      live_before : (r : ℕ) → Live s l' after r → Live s l m r
      live_before r (current a d) = current a (directs_same s l' l a r (λ k b. sym (own_entry f a k b)) d)
      live_before r (referred j jn g d) = by_cases (ℕ_discrete j w)
          (λ e. live (rw e at g) r (rw e at d))
          (λ e. referred j jn (rw (still j e) at g) (refers_same s l' l j r (λ k b. sym (own_worker f j jn e k b)) d))

      others : (j : ℕ) → j < s.workers → j ≢ w → WorkerMeans s l m j → WorkerMeans s l' after j
      others j jn d g =
          let words = own_worker f j jn d in
          let back : (r : ℕ) → Refers s l' j r → Refers s l j r = λ r. refers_same s l' l j r (λ k b. sym (words k b)) in
          worker_same s l l' m after j (still j d) means.lent f.same_length jn words g
          (λ x. let y = g.held x in
          (y.0, refers_same s l l' j y.0 words y.1, name_same s l l' y.0 (own_record f y.0 y.1.in_pool) ∙ y.2))
          (λ x r y. rw (own_record f r y.in_pool record_number (rw record_wide (omega arith))) (g.number x r (back r y)))
          (λ x. rw (own_head f header_number (omega arith)) (g.directory x))
          (λ x y. marks_same s l l' m after j (still j d) (λ a. refl) (words worker_marks (rw worker_wide (omega arith))) (g.marks x y))
