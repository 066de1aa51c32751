-- One worker's words and what they have to mean, and what of it stays where the words stay.
-- Rests on a change of one worker's own words and on how a step begins.
use Prim.Native.Nat.{ℕ, suc, ◌+◌, ◌*◌, ◌^◌, ◌≤◌, ◌<◌}
use native.Mathlib.Omega.{arith}
use native.Mathlib.Nat.{add_assoc}
use native.Mathlib.Decide.{dec_lt}
use mathlib.Core.Path.{◌≡◌, refl, ap, sym, ◌∙◌, subst, subst⁻¹}
use mathlib.Core.Logic.{◌≢◌, by_cases}
use mathlib.Core.Bool.{Bool, true}
use mathlib.Core.List.{List}
use Rattle.std.specs.Prelude.{Option, None}
use lib.ListN.{length, get_or, set}
use Rattle.interface.specs.Limits.{in_range}
use Rattle.interface.specs.Numbers.{kind_none}
use Rattle.interface.specs.declared.Settings.{Settings}
use Rattle.interface.specs.declared.Answer.{Answer}
use Rattle.interface.specs.declared.Stepped.{Stepped}
use Rattle.machine.specs.Choice.{assign}
use Rattle.machine.specs.Records.{Name, Slot, Leaf, kept, made, bucket_of, Cells, Reads, Worker, Machine}
use Rattle.fields.specs.Fields.{header_number, slot_kind, slot_account, slot_total, slot_ticket, slot_size, worker_account, worker_total, worker_ticket, worker_steps, worker_held, worker_state, worker_toggle, worker_directory, worker_marks, worker_slots, worker_size, record_number}
use Rattle.fields.specs.Regions.{slot_read, read_at, words_needed, record', start_of, region_size, worker}
use Rattle.machine.specs.Steps.{counted, step_reply}
use Rattle.machine.proofs.laws.Base.{assign_at, assign_elim}
use Rattle.machine.specs.Passed.{HoldsBucket, PastState}
use Rattle.machine.specs.Counter.{swap_d, state, PC, in_d}
use Rattle.machine.proofs.invariant.Counter.{phase_of}
use Rattle.machine.proofs.laws.Copies.{MadeIn}
use Rattle.machine.specs.Tasks.{IsMade, Task, about, held, task_of, tasks_of, own}
use Rattle.machine.proofs.invariant.Inv.{Announced, SlotFacts}
use Rattle.machine.proofs.invariant.Preservation.{goes}
use Rattle.machine.proofs.invariant.Tasks.{Good}
use Rattle.rules.specs.Rules.{bit, descriptor_in}
use Rattle.simulation.specs.Buckets.{bits_of, slot_from, SoundSlots}
use Rattle.lists.specs.Parts.{part}
use Rattle.lists.proofs.PartLaws.{get_d_part}
use Rattle.layout.specs.Shape.{word}
use Rattle.layout.specs.Addresses.{held_by}
use Rattle.turns.specs.Turns.{step_in}
use Rattle.updates.specs.Updates.{update_at}
use Rattle.simulation.specs.Meaning.{at, slot_in, name_in, operation_in, Keeps, Refers, Live, referred, HasState, HasDirectory, HasWork, SameOutcome, Marks, WorkerMeans, Meaning}
use Rattle.simulation.proofs.frames.Entering.{raised, raised_own, raised_count, raised_beside, raised_enough, held_record, update_enters, Follows}
use Rattle.simulation.proofs.frames.Frames.{at_here, at_beside, set_inside, inside_trans, worker_wide, record_wide, descriptor_near, name_same, keeps_same, OwnWords, own_head, own_record, own_means}

-- words that mean a machine, and a worker whose step or call is asked for
pub record Ready (s : Settings) (l : List ℕ) (m : Machine) (w : ℕ) : Type 0 where
  pub range : in_range s.workers s.capacity s.depth ≡ true
  pub means : Meaning s l m
  pub good : Good s m
  pub known : w < s.workers

-- the words after the step mean the machine with cells c, the worker having read x, its operation answered or not
abbrev pub Next : {s : Settings} {l : List ℕ} {m : Machine} {w : ℕ} → Ready s l m w → Cells → Reads → Option Answer → Type 0
Next {s} {l} {m} {w} ready c x a = Follows s ready.range l m ready.means ready.good w ready.known c x a

-- ---- what one worker's words have to mean

-- the call of worker w
pub record Called (s : Settings) (w : ℕ) (l : List ℕ) (v : Worker) : Type 0 where
  pub operation : operation_in (descriptor_in l (start_of s (worker w))) ≡ v.operation
  pub narrow : at s l (worker w) worker_account < 2 ^ 32
  pub fits : at s l (worker w) worker_total < 2 ^ 64
  pub ticket : at s l (worker w) worker_ticket ≡ v.last
  pub steps : at s l (worker w) worker_steps ≡ v.steps

-- the slots that it has read
pub record SeenSlots (s : Settings) (w : ℕ) (l : List ℕ) (x : ℕ → Slot) : Type 0 where
  pub slots : (i : ℕ) → i < s.workers → slot_in l (read_at (start_of s (worker w)) i) ≡ x i
  pub narrow : (i : ℕ) → i < s.workers → word l (read_at (start_of s (worker w)) i + slot_account) < 2 ^ 32
  pub fits : (i : ℕ) → i < s.workers → word l (read_at (start_of s (worker w)) i + slot_total) < 2 ^ 64
  pub quiet :
      (i : ℕ) → i < s.workers → word l (read_at (start_of s (worker w)) i + slot_kind) ≡ kind_none
      → word l (read_at (start_of s (worker w)) i + slot_ticket) ≡ 0

-- the toggle that it has read
abbrev pub SeenToggle : Settings → ℕ → List ℕ → (ℕ → Bool) → Type 0
SeenToggle s w l x = (i : ℕ) → i < s.workers → bits_of (at s l (worker w) worker_toggle) i ≡ x i

-- what it holds and compares at counter pc; l, m: before the step, l': the words after it, v: the worker after it
pub record CounterMeans (s : Settings) (l : List ℕ) (m : Machine) (w : ℕ) (l' : List ℕ) (v : Worker) (pc : PC) : Type 0 where
  pub held : HoldsBucket pc → (r : ℕ) × Refers s l' w r × (name_in s l r ≡ bucket_of v.reads.directory.value (about v.operation))
  pub live : HoldsBucket pc → (r : ℕ) → Refers s l' w r → Live s l m r
  pub number :
      HasState pc → (r : ℕ) → Refers s l' w r
      → SameOutcome (at s l' (worker w) worker_state) (at s l (record' r) record_number) v.reads.state.stamp
      (m.cells.buckets (bucket_of v.reads.directory.value (about v.operation))).state.stamp
  pub directory :
      HasDirectory pc
      → SameOutcome (at s l' (worker w) worker_directory) (word l header_number) v.reads.directory.stamp m.cells.directory.stamp
  pub few : at s l' (worker w) worker_marks < 2 ^ s.workers
  pub unmarked : HasDirectory pc → (i : ℕ) → i < s.workers → (PastState s.workers i pc → ⊥) → bit (at s l' (worker w) worker_marks) i ≡ 0
  pub marks :
      HasWork pc → v.reads.directory.stamp ≡ m.cells.directory.stamp
      → Marks s l' (record { cells = m.cells; workers = assign m.workers w v }) w

-- nothing is held or compared there
abbrev pub Free : PC → Type 0
Free pc = (HoldsBucket pc → ⊥) × (HasState pc → ⊥) × (HasDirectory pc → ⊥)

pub nowhere : (⊥ → ⊥) × (⊥ → ⊥) × (⊥ → ⊥)
nowhere = ((λ x. x), (λ x. x), (λ x. x))

pub work_directory : (pc : PC) → HasWork pc → HasDirectory pc
work_directory (in_d p r swap_d) h = tt
work_directory (in_d p r (state i)) h = tt
work_directory _ h = elim h [ ]

-- what is made inside a bucket is made
pub made_in : (x : Name) (y : Leaf) → MadeIn x y → IsMade y
made_in x (kept z) h = h
made_in x (made z b) h = tt

-- worker w's words before the slots that it has read are what f says, and no others have changed
pub record Words (s : Settings) (w : ℕ) (l l' : List ℕ) (f : ℕ → ℕ) : Type 0 where
  pub own : OwnWords s w l l'
  pub are : (k : ℕ) → k < worker_slots → at s l' (worker w) k ≡ f k
  pub late : (k : ℕ) → worker_slots ≤ k → k < worker_size s.workers → at s l' (worker w) k ≡ at s l (worker w) k

pub words_here : (s : Settings) (w : ℕ) (l : List ℕ) → Words s w l l (at s l (worker w))
words_here s w l = record { own = record { same_length = refl; same = λ q k a b c. refl }; are = λ k b. refl; late = λ k a b. refl }

module _ (s : Settings) (w : ℕ) (wn : w < s.workers) (l : List ℕ) (enough : words_needed s ≤ length l) (l' : List ℕ) (f : ℕ → ℕ)
    (h : Words s w l l' f) where
  pub words_set : (i v : ℕ) → i < worker_slots → Words s w l (set l' (start_of s (worker w) + i) v) (assign f i v)
  words_set i v b =
      let long : words_needed s ≤ length l' = rw h.own.same_length enough in
      let here : i < region_size s (worker w) = rw worker_wide (omega arith) in
      let beside : (k : ℕ) → k < worker_size s.workers → k ≢ i
      → at s (set l' (start_of s (worker w) + i) v) (worker w) k ≡ at s l' (worker w) k =
      λ k g e. at_beside s l' long (worker w) i k v wn here (rw worker_wide g) e in
      record {
        own = inside_trans h.own (set_inside s l' long (worker w) wn i v here);
        are = λ k g. assign_elim (λ (x : ℕ). at s (set l' (start_of s (worker w) + i) v) (worker w) k ≡ x) f i v k
            (λ e. rw e (at_here s l' long (worker w) i v wn here)) (λ e. beside k (omega arith) e ∙ h.are k g);
        late = λ k a g. beside k g (λ e. omega arith) ∙ h.late k a g;
      }

-- the step is counted, and of the worker's words, the call's apart, only those from lo on below hi are others
pub record Changed (s : Settings) (l : List ℕ) (w k : ℕ) (l' : List ℕ) (lo hi : ℕ) : Type 0 where
  pub own : OwnWords s w l l'
  pub call : (i : ℕ) → i < worker_steps → at s l' (worker w) i ≡ at s l (worker w) i
  pub count : at s l' (worker w) worker_steps ≡ suc k
  pub before : (i : ℕ) → worker_held ≤ i → i < lo → at s l' (worker w) i ≡ at s l (worker w) i
  pub behind : (i : ℕ) → hi ≤ i → i < worker_size s.workers → at s l' (worker w) i ≡ at s l (worker w) i

module _ (s : Settings) (l : List ℕ) (enough : words_needed s ≤ length l) (w : ℕ) (wn : w < s.workers) (k : ℕ) where
  pub nothing_changed : Changed s l w k (raised s l w k) worker_held worker_held
  nothing_changed = record {
    own = raised_own s l enough w wn k;
    call = λ i h. raised_beside s l enough w wn k i (omega arith) (λ e. omega arith);
    count = raised_count s l enough w wn k;
    before = λ i a b. absurd (omega arith);
    behind = λ i a b. raised_beside s l enough w wn k i b (λ e. omega arith);
  }

  -- one more word, at the end of those that are others
  module _ (l' : List ℕ) (lo hi : ℕ) (v : ℕ) (c : Changed s l w k l' lo hi) where
    abbrev put : ℕ → List ℕ
    put i = set l' (start_of s (worker w) + i) v

    pub put_beside :
        (i j : ℕ) → i < worker_size s.workers → j < worker_size s.workers → j ≢ i
        → at s (put i) (worker w) j ≡ at s l' (worker w) j
    put_beside i j b d = at_beside s l' (rw c.own.same_length enough) (worker w) i j v wn (rw worker_wide b) (rw worker_wide d)

    pub put_here : (i : ℕ) → i < worker_size s.workers → at s (put i) (worker w) i ≡ v
    put_here i b = at_here s l' (rw c.own.same_length enough) (worker w) i v wn (rw worker_wide b)

    -- a set of word i, where none or only earlier ones are others
    pub word_changed :
        (i j : ℕ) → worker_held ≤ i → i < worker_slots → j ≤ i → hi ≤ i → ((o : ℕ) → lo ≤ o → worker_held ≤ o → o < j → hi ≤ o)
        → Changed s l w k (put i) j (suc i)
    word_changed i j a b d e f = record {
      own = inside_trans c.own (set_inside s l' (rw c.own.same_length enough) (worker w) wn i v (rw worker_wide (omega arith)));
      call = λ o h. put_beside i o (omega arith) (omega arith) (λ g. omega arith) ∙ c.call o h;
      count = put_beside i worker_steps (omega arith) (omega arith) (λ g. omega arith) ∙ c.count;
      before = λ o h g.
          put_beside i o (omega arith) (omega arith) (λ x. omega arith)
          ∙ by_cases (dec_lt o lo) (λ x. c.before o h x) (λ x. c.behind o (f o (omega arith) h g) (omega arith));
      behind = λ o h g. put_beside i o (omega arith) g (λ x. omega arith) ∙ c.behind o (omega arith) g;
    }

-- the words of a slot that was read, in the run of all of them
pub slots_at : (s : Settings) (l : List ℕ) (w i k : ℕ) → i < s.workers → k < slot_size
    → get_or (part l (start_of s (worker w) + worker_slots) (slot_size * s.workers)) (slot_size * i + k) 0
    ≡ word l (read_at (start_of s (worker w)) i + k)
slots_at s l w i k h b =
    let p : ℕ = start_of s (worker w) in
    get_d_part l (p + worker_slots) (slot_size * s.workers) (slot_size * i + k) (omega arith)
    ∙ ap (word l) (sym (add_assoc (p + worker_slots) (slot_size * i) k))

-- where these words of the worker's record are the same
pub read_near :
    (s : Settings) (l l' : List ℕ) (w i : ℕ)
    → ((k : ℕ) → slot_read i ≤ k → k < slot_read i + slot_size → at s l' (worker w) k ≡ at s l (worker w) k)
    → (o : ℕ) → o < slot_size → word l' (read_at (start_of s (worker w)) i + o) ≡ word l (read_at (start_of s (worker w)) i + o)
read_near s l l' w i same o h =
    let p : ℕ = start_of s (worker w) in
    let e : read_at p i + o ≡ p + (slot_read i + o) = omega arith in
    rw e (same (slot_read i + o) (omega arith) (omega arith))

sound_of : (s : Settings) (l : List ℕ) (w : ℕ) {x : ℕ → Slot} → SeenSlots s w l x
    → SoundSlots (part l (start_of s (worker w) + worker_slots) (slot_size * s.workers)) s.workers
sound_of s l w y = record {
  narrow = λ i h. rw (slots_at s l w i slot_account h (omega arith)) (y.narrow i h);
  fits = λ i h. rw (slots_at s l w i slot_total h (omega arith)) (y.fits i h);
  quiet = λ i h. rw (slots_at s l w i slot_kind h (omega arith), slots_at s l w i slot_ticket h (omega arith)) (y.quiet i h);
}

module _ {s : Settings} {l : List ℕ} {m : Machine} {w : ℕ} (ready : Ready s l m w) where
  abbrev k : Task
  k = tasks_of s m w

  -- what the words mean about the worker
  abbrev pub worker_means : WorkerMeans s l m w
  worker_means = ready.means.workers w ready.known

  -- the words once the step is counted
  abbrev l₁ : List ℕ
  l₁ = raised s l w (m.workers w).steps

  -- what the worker has seen before the step, and what it still has seen where these words stay
  pub slots_before : SeenSlots s w l (m.workers w).reads.slots
  slots_before =
      let h = worker_means in
      record {
        slots = h.slots;
        narrow = λ i b. rw (slots_at s l w i slot_account b (omega arith)) at (h.sound.narrow i b);
        fits = λ i b. rw (slots_at s l w i slot_total b (omega arith)) at (h.sound.fits i b);
        quiet = λ i b. rw (slots_at s l w i slot_kind b (omega arith), slots_at s l w i slot_ticket b (omega arith)) at (h.sound.quiet i b);
      }

  pub slots_kept :
      (l' : List ℕ) → ((k : ℕ) → worker_slots ≤ k → k < worker_size s.workers → at s l' (worker w) k ≡ at s l (worker w) k)
      → SeenSlots s w l' (m.workers w).reads.slots
  slots_kept l' same =
      let y = slots_before in
      let near : (i : ℕ) → i < s.workers → (o : ℕ) → o < slot_size
      → word l' (read_at (start_of s (worker w)) i + o) ≡ word l (read_at (start_of s (worker w)) i + o) =
      λ i h. read_near s l l' w i (λ k a b. same k (omega arith) (omega arith)) in
      record {
        slots = λ i h. ap slot_from (descriptor_near s l l' (read_at (start_of s (worker w)) i) (near i h)) ∙ y.slots i h;
        narrow = λ i h. rw (near i h slot_account (omega arith)) (y.narrow i h);
        fits = λ i h. rw (near i h slot_total (omega arith)) (y.fits i h);
        quiet = λ i h. rw (near i h slot_kind (omega arith), near i h slot_ticket (omega arith)) (y.quiet i h);
      }

  pub toggle_kept :
      (l' : List ℕ) → at s l' (worker w) worker_toggle ≡ at s l (worker w) worker_toggle → SeenToggle s w l' (m.workers w).reads.toggle
  toggle_kept l' e i h = rw e (worker_means.toggle i h)

  -- if the words after the step mean this about the worker, they mean the whole machine
  pub mine_means :
      (l' : List ℕ) (v : Worker) (pc : PC) → (task_of s.workers v).pc ≡ pc → OwnWords s w l l' → Called s w l' v
      → SeenToggle s w l' v.reads.toggle → SeenSlots s w l' v.reads.slots → CounterMeans s l m w l' v pc
      → Meaning s l' (record { cells = m.cells; workers = assign m.workers w v })
  mine_means l' v pc e f c b x st =
      own_means s l l' m w ready.known v f ready.means (record {
        operation = rw here c.operation;
        narrow = c.narrow;
        fits = c.fits;
        ticket = rw here c.ticket;
        steps = rw here c.steps;
        toggle = rw here b;
        slots = rw here x.slots;
        sound = sound_of s l' w x;
        held =
            rw here (λ h. let y =
            counter_means.held h in (y.0, y.1, name_same s l l' y.0 (own_record f y.0 y.1.in_pool) ∙ y.2));
        number =
            rw here (λ h r y. rw (own_record f r y.in_pool record_number (rw record_wide (omega arith))) (counter_means.number h r y));
        directory = rw here (λ h. rw (own_head f header_number (omega arith)) (counter_means.directory h));
        few = st.few;
        unmarked = rw here counter_means.unmarked;
        marks = rw here counter_means.marks;
      }) (rw here counter_means.live)
    where
      here : assign m.workers w v w ≡ v
      here = assign_at m.workers w v w refl

      counter_means : CounterMeans s l m w l' v (task_of s.workers v).pc
      counter_means = subst⁻¹ (CounterMeans s l m w l' v) e st

  -- ---- a step that goes on

  abbrev pub going : Reads → Worker
  going x = let v = m.workers w in record { last = v.last; operation = v.operation; steps = suc v.steps; reads = x }

  pub going_called :
      (l' : List ℕ) (x : Reads) → ((i : ℕ) → i < worker_steps → at s l' (worker w) i ≡ at s l (worker w) i)
      → at s l' (worker w) worker_steps ≡ suc (m.workers w).steps → Called s w l' (going x)
  going_called l' x same count =
      let h = worker_means in
      record {
        operation = ap operation_in (descriptor_near s l l' (start_of s (worker w)) same) ∙ h.operation;
        narrow = rw (same worker_account (omega arith)) h.narrow;
        fits = rw (same worker_total (omega arith)) h.fits;
        ticket = same worker_ticket (omega arith) ∙ h.ticket;
        steps = count;
      }

  -- the words after a step mean the machine whose worker has gone on to counter pc, having read x
  abbrev pub Onward : PC → Reads → Type 0
  Onward pc x =
      (y : Reads) → task_of s.workers (counted (m.workers w) y None) ≡ goes (tasks_of s m w) pc x → Next ready m.cells y None

  pub goes-on :
      (l' : List ℕ) (lo hi : ℕ) (pc : PC) (x : Reads) → step_in l s w ≡ (l', Stepped.Moved) → Changed s l w (m.workers w).steps l' lo hi
      → SeenToggle s w l' x.toggle → SeenSlots s w l' x.slots → CounterMeans s l m w l' (going x) pc → Onward pc x
  unfolding counted step_reply
  goes-on l' lo hi pc x e f b seen st y g =
      let read : y ≡ x = ap (λ (k : Task). k.reads) g in
      let there : (task_of s.workers (going x)).pc ≡ pc = ap (λ (k : Task). k.pc) g in
      rw (e, read) (mine_means l' (going x) pc there f.own (going_called l' x f.call f.count) b seen st, refl)

  pub enough₁ : words_needed s ≤ length l₁
  enough₁ = raised_enough s l ready.means.lent w ready.known (m.workers w).steps

  pub own₁ : OwnWords s w l l₁
  own₁ = raised_own s l ready.means.lent w ready.known (m.workers w).steps

  pub beside₁ : (i : ℕ) → i < worker_size s.workers → i ≢ worker_steps → at s l₁ (worker w) i ≡ at s l (worker w) i
  beside₁ = raised_beside s l ready.means.lent w ready.known (m.workers w).steps

  pub changed₁ : Changed s l w (m.workers w).steps l₁ worker_held worker_held
  changed₁ = nothing_changed s l ready.means.lent w ready.known (m.workers w).steps

  -- ---- what the worker still holds and compares, where these words stay

  module _ (l' : List ℕ) where
    pub refers_back : at s l' (worker w) worker_held ≡ at s l (worker w) worker_held → (r : ℕ) → Refers s l' w r → Refers s l w r
    refers_back e r h = record { in_pool = h.in_pool; names = sym e ∙ h.names }

    pub held_kept :
        at s l' (worker w) worker_held ≡ at s l (worker w) worker_held → HoldsBucket k.pc
        → (r : ℕ) × Refers s l' w r × (name_in s l r ≡ held k)
    held_kept e h =
        let x = worker_means.held h in
        (x.0, record { in_pool = x.1.in_pool; names = e ∙ x.1.names }, x.2)

    pub live_kept :
        at s l' (worker w) worker_held ≡ at s l (worker w) worker_held → HoldsBucket k.pc → (r : ℕ) → Refers s l' w r → Live s l m r
    live_kept e h r x = referred w ready.known h (refers_back e r x)

    pub number_kept :
        at s l' (worker w) worker_held ≡ at s l (worker w) worker_held → at s l' (worker w) worker_state ≡ at s l (worker w) worker_state
        → HasState k.pc → (r : ℕ) → Refers s l' w r
        → SameOutcome (at s l' (worker w) worker_state) (at s l (record' r) record_number) k.reads.state.stamp
        (own m.cells k).state.stamp
    number_kept e f h r x = rw f (worker_means.number h r (refers_back e r x))

    pub directory_kept :
        at s l' (worker w) worker_directory ≡ at s l (worker w) worker_directory → HasDirectory k.pc
        → SameOutcome (at s l' (worker w) worker_directory) (word l header_number) k.reads.directory.stamp m.cells.directory.stamp
    directory_kept e h = rw e (worker_means.directory h)

    pub few_kept : at s l' (worker w) worker_marks ≡ at s l (worker w) worker_marks → at s l' (worker w) worker_marks < 2 ^ s.workers
    few_kept e = rw e worker_means.few

    -- at a counter where nothing is held or compared
    pub free :
        (v : Worker) (pc : PC) → Free pc → at s l' (worker w) worker_marks ≡ at s l (worker w) worker_marks → CounterMeans s l m w l' v pc
    free v pc h e = record {
      held = λ x. absurd (h.0 x);
      live = λ x. absurd (h.0 x);
      number = λ x. absurd (h.1 x);
      directory = λ x. absurd (h.2 x);
      few = few_kept e;
      unmarked = λ x. absurd (h.2 x);
      marks = λ x. absurd (h.2 (work_directory pc x));
    }

  -- ---- one more word of the worker, and the words of its record

  pub one_word :
      (i v : ℕ) → worker_held ≤ i → i < worker_slots → Changed s l w (m.workers w).steps (set l₁ (start_of s (worker w) + i) v) i (suc i)
  one_word i v a b =
      word_changed s l ready.means.lent w ready.known _ l₁ worker_held worker_held v changed₁ i i a b (omega arith) a (λ o x y z. y)

  pub word_here : (i v : ℕ) → i < worker_slots → at s (set l₁ (start_of s (worker w) + i) v) (worker w) i ≡ v
  word_here i v b = put_here s l ready.means.lent w ready.known _ l₁ worker_held worker_held v changed₁ i (omega arith)

  -- the record that the worker holds, in the words before the step and once it is counted
  module _ (h : HoldsBucket k.pc) where
    pub mine : (r : ℕ) × Refers s l w r × (name_in s l r ≡ held k)
    mine = worker_means.held h

    pub at_mine : held_by l₁ (start_of s (worker w)) ≡ start_of s (record' mine.0)
    at_mine =
        held_record s l₁ enough₁ w mine.0
        (record { in_pool = mine.1.in_pool; names = beside₁ worker_held (omega arith) (λ g. omega arith) ∙ mine.1.names })

    pub word_mine :
        (i : ℕ) → i < region_size s (record' mine.0) → word l₁ (held_by l₁ (start_of s (worker w)) + i) ≡ at s l (record' mine.0) i
    word_mine i b = ap (λ (q : ℕ). word l₁ (q + i)) at_mine ∙ own_record own₁ mine.0 mine.1.in_pool i b

    pub keeps_mine : Keeps s l mine.0 (own m.cells k)
    keeps_mine =
        subst (λ (x : Name). Keeps s l mine.0 (m.cells.buckets x)) mine.2
        (ready.means.cells mine.0 (referred w ready.known h mine.1))

    pub keeps₁ : Keeps s l₁ mine.0 (own m.cells k)
    keeps₁ = keeps_same s l l₁ mine.0 _ (own_record own₁ mine.0 mine.1.in_pool) keeps_mine

  pub announced-at : (pc : PC) → k.pc ≡ pc → SlotFacts s pc m.cells w k
  announced-at pc e = subst (λ (x : PC). SlotFacts s x m.cells w k) e (ready.good.own w ready.known).slot

  -- the step of an announced update at counter pc
  pub plan_step :
      (pc : PC) → Announced s m.cells w k → k.pc ≡ pc
      → step_in l s w ≡ update_at l₁ s (start_of s (worker w)) w (m.workers w).steps (phase_of pc)
  plan_step pc a e = update_enters s ready.range l m ready.means ready.good w ready.known a.wanted pc a.asks e

  -- ---- a step that only counts: passes, misses, misses_d; and the count of one that changes shared cells

  stays_counter :
      (pc : PC) → (HoldsBucket pc → HoldsBucket k.pc) → (HasState pc → ⊥) → (HasDirectory pc → ⊥)
      → CounterMeans s l m w l₁ (going k.reads) pc
  stays_counter pc holds no_state no_directory =
      let still = changed₁.behind worker_held (omega arith) (omega arith) in
      record {
        held = λ q. held_kept l₁ still (holds q);
        live = λ q. live_kept l₁ still (holds q);
        number = λ q. absurd (no_state q);
        directory = λ q. absurd (no_directory q);
        few = few_kept l₁ (changed₁.behind worker_marks (omega arith) (omega arith));
        unmarked = λ q. absurd (no_directory q);
        marks = λ q. absurd (no_directory (work_directory pc q));
      }

  pub stays :
      (pc : PC) → (HoldsBucket pc → HoldsBucket k.pc) → (HasState pc → ⊥) → (HasDirectory pc → ⊥) → step_in l s w ≡ (l₁, Stepped.Moved)
      → Onward pc k.reads
  stays pc holds no_state no_directory moved =
      goes-on l₁ worker_held worker_held pc k.reads moved changed₁
      (toggle_kept l₁ (changed₁.behind worker_toggle (omega arith) (omega arith))) (slots_kept l₁ (λ i h. changed₁.behind i (omega arith)))
      (stays_counter pc holds no_state no_directory)

  -- the words with the step counted mean the machine whose worker has gone on to such a counter
  pub raised_means :
      (pc : PC) → (HoldsBucket pc → HoldsBucket k.pc) → (HasState pc → ⊥) → (HasDirectory pc → ⊥)
      → (task_of s.workers (going k.reads)).pc ≡ pc
      → Meaning s l₁ (record { cells = m.cells; workers = assign m.workers w (counted (m.workers w) k.reads None) })
  unfolding counted
  raised_means pc holds no_state no_directory there =
      mine_means l₁ (going k.reads) pc there own₁ (going_called l₁ k.reads changed₁.call changed₁.count)
      (toggle_kept l₁ (changed₁.behind worker_toggle (omega arith) (omega arith))) (slots_kept l₁ (λ i h. changed₁.behind i (omega arith)))
      (stays_counter pc holds no_state no_directory)
