-- The steps that change one slot or one bucket: announce, flip, and the bucket swap that succeeds. Rests on a change of shared cells, on
-- the words of a bucket record, and on numbers used again.
use Prim.Native.Nat.{ℕ, suc, ◌+◌, ◌*◌, ◌≤◌, ◌<◌}
use native.Mathlib.Omega.{arith}
use native.Mathlib.Decide.{ℕ_discrete}
use mathlib.Core.Path.{◌≡◌, refl, ap, sym, ◌∙◌, subst}
use mathlib.Core.Logic.{◌≢◌, inl, inr, ⊎_elim, by_cases}
use mathlib.Core.Bool.{Bool, not}
use mathlib.Core.List.{List}
use Rattle.std.specs.Prelude.{Some, None}
use lib.ListN.{length, set, length-set}
use lib.Seq.{get_or-set_other}
use Rattle.interface.specs.Numbers.{kind_none, kind_lookup}
use Rattle.interface.specs.declared.Settings.{Settings}
use Rattle.interface.specs.declared.Stepped.{Stepped}
use Rattle.machine.specs.Choice.{assign}
use Rattle.machine.specs.Sequential.{Update, update}
use Rattle.machine.specs.Records.{Name, Bucket, announced, Cells, Reads, Worker, Machine}
use Rattle.machine.specs.BucketPass.{next_state}
use Rattle.fields.specs.Fields.{slot_kind, slot_account, slot_total, slot_ticket, slot_size, worker_held, worker_state, worker_toggle, worker_slots, record_count, record_toggle, record_depth, record_prefix, record_number, record_size}
use Rattle.fields.specs.Regions.{words_needed, record', start_of, slot, worker}
use Rattle.machine.specs.Steps.{assign_slot, assign_bucket, assign_state, assign_toggle, counted, step_reply}
use Rattle.machine.proofs.laws.Base.{if_eq, if_ne, assign_at, assign_other, assign_elim}
use Rattle.machine.specs.Counter.{Two, one, two, PC, announce, read_d, flip, in_b, read_s, read_t, slot_b, swap}
use Rattle.machine.proofs.invariant.Counter.{after_b}
use Rattle.machine.specs.Passed.{HoldsBucket}
use Rattle.machine.specs.Tasks.{Task, held, task_of, tasks_of, own}
use Rattle.machine.proofs.invariant.Inv.{Fresh, SeenState, Announced, ReadFacts}
use Rattle.machine.proofs.invariant.Preservation.{goes}
use Rattle.machine.proofs.invariant.Transitions.{flipped_cells, swapped_cells}
use Rattle.rules.specs.declared.Descriptor.{Descriptor}
use Rattle.rules.specs.Rules.{descriptor_in, flip_bit}
use Rattle.simulation.specs.Buckets.{bits_of, update_from, slot_from, slot_of}
use Rattle.lists.specs.Parts.{part}
use Rattle.lists.proofs.PartLaws.{length_part, get_d_part, length_overlay, get_d_overlay_in, get_d_overlay_before, get_d_overlay_after}
use Rattle.fields.proofs.Regions.{region_inside}
use Rattle.layout.specs.Addresses.{held_by}
use Rattle.renumbering.specs.Numbers.{fresh_number}
use Rattle.engine.specs.Engine.{announced_at, flipped_at}
use Rattle.swaps.specs.BucketSwap.{swapped_at}
use Rattle.inplace.specs.InPlace.{round_at}
use Rattle.turns.specs.Turns.{step_in}
use Rattle.updates.specs.Updates.{update_at}
use Rattle.simulation.specs.Meaning.{at, name_in, Keeps, Refers, Live, current, referred, HasState, HasDirectory, SameOutcome, WorkerMeans, Meaning}
use Rattle.simulation.proofs.frames.Frames.{live_within, at_here, at_beside, slot_wide, worker_wide, record_wide, name_same, refers_same, directs_same, Inside, elsewhere_inside, set_inside, own_entry, own_worker, own_record}
use Rattle.simulation.proofs.frames.Entering.{refers_once, is-update, raised, update_enters}
use Rattle.simulation.proofs.frames.OwnWorker.{worker_means, Ready, Next, going, raised_means, enough₁, own₁, beside₁, mine, at_mine, keeps₁, slots_at, announced-at, plan_step}
use Rattle.simulation.proofs.frames.CellChange.{slot_means, record_means}
use Rattle.simulation.proofs.frames.BucketWords.{loaded_set, Stored, round_words}
use Rattle.simulation.proofs.frames.Numbering.{fresh-number}
use Rattle.simulation.proofs.frames.WordBits.{flip_here, flip_beside}

-- ---- worker w's operation in its slot

module _ (s : Settings) (l : List ℕ) (enough : words_needed s ≤ length l) (w : ℕ) (wn : w < s.workers) where
  abbrev xs : List ℕ
  xs = part l (start_of s (worker w)) slot_size

  xs_length : length xs ≡ slot_size
  xs_length = length_part l (start_of s (worker w)) slot_size (omega (arith, region_inside s (worker w) wn, worker_wide s w))

  fits : start_of s (slot w) + length xs ≤ length l
  fits = omega (arith, region_inside s (slot w) wn, slot_wide s w, xs_length)

  announced_inside : Inside s (slot w) l (announced_at l (start_of s (worker w)) w)
  unfolding announced_at start_of
  announced_inside =
      let e = xs_length in
      let wide = slot_wide s w in
      elsewhere_inside s (slot w) l _ wn (length_overlay l (start_of s (slot w)) xs fits)
      (λ i. ⊎_elim (get_d_overlay_before l (start_of s (slot w)) xs fits i)
      (λ h. get_d_overlay_after l (start_of s (slot w)) xs fits i (omega arith)))

  announced_word : (i : ℕ) → i < slot_size → at s (announced_at l (start_of s (worker w)) w) (slot w) i ≡ at s l (worker w) i
  unfolding announced_at start_of
  announced_word i h =
      get_d_overlay_in l (start_of s (slot w)) xs fits i (omega (arith, xs_length)) ∙ get_d_part l (start_of s (worker w)) slot_size i h

slot_announced : (u : Descriptor) → u.kind ≢ kind_none → slot_from u ≡ announced (update_from u) u.ticket
unfolding slot_from
slot_announced u d = if_ne u.kind kind_none _ _ d

-- ---- the counter of a worker

-- a counter at which a worker compares nothing
record Plain (pc : PC) : Type 0 where
  no_state : HasState pc → ⊥
  no_directory : HasDirectory pc → ⊥

plain_after : (p r : Two) → Plain (after_b p r)
plain_after p one = record { no_state = λ h. h; no_directory = λ h. h }
plain_after p two = record { no_state = λ h. h; no_directory = λ h. h }

-- the stamp of a state that was read is no later than the bucket's
state_bounded :
    (s : Settings) (c : Cells) (j : ℕ) (k : Task) (pc : PC) → HasState pc → ReadFacts s pc c j k
    → k.reads.state.stamp ≤ (own c k).state.stamp
state_bounded s c j k (in_b p r read_t) h o = o.seen.bounded
state_bounded s c j k (in_b p r swap) h o = o.seen.bounded
state_bounded s c j k (in_b p r (slot_b i)) h o = o.seen.bounded
state_bounded s c j k _ h o = elim h [ ]

-- ---- the steps

module _ {s : Settings} {l : List ℕ} {m : Machine} {w : ℕ} (ready : Ready s l m w) where
  abbrev k : Task
  k = tasks_of s m w

  -- the words once the step is counted
  abbrev l₁ : List ℕ
  l₁ = raised s l w (m.workers w).steps

  -- the worker after the step, and the counter that comes next
  abbrev further : Worker
  further = counted (m.workers w) k.reads None

  abbrev next : PC
  next = (task_of s.workers (going ready k.reads)).pc

  abbrev m₁ : Machine
  m₁ = record { cells = m.cells; workers = assign m.workers w further }

  -- the words with the step counted
  counted_means : (pc : PC) → next ≡ pc → Plain pc → (HoldsBucket pc → HoldsBucket k.pc) → Meaning s l₁ m₁
  counted_means pc f plain holds = raised_means ready pc holds plain.no_state plain.no_directory f

  abbrev MeansAfter : List ℕ → Cells → Type 0
  MeansAfter l₂ c = Meaning s l₂ (record { cells = c; workers = assign m.workers w further })

  -- the step of an update that goes on to counter pc, leaves words l₂ and cells c, and reads nothing
  moves :
      (pc : PC) (l₂ : List ℕ) (c : Cells) → step_in l s w ≡ (l₂, Stepped.Moved) → (next ≡ pc → MeansAfter l₂ c) → (y : Reads)
      → task_of s.workers (counted (m.workers w) y None) ≡ goes k pc k.reads → Next ready c y None
  unfolding counted step_reply
  moves pc l₂ c e h y g = rw (e, ap (λ (o : Task). o.reads) g) (h (ap (λ (o : Task). o.pc) g), refl)

  pub announces_means :
      (u : Update) → k.pc ≡ announce → k.operation ≡ Some (update u) → (y : Reads)
      → task_of s.workers (counted (m.workers w) y None) ≡ goes k (read_d one) k.reads
      → Next ready (assign_slot m.cells w (announced u k.ticket)) y None
  unfolding update_at descriptor_in
  announces_means u e o =
      moves (read_d one) l₂ _ (update_enters s ready.range l m ready.means ready.good w ready.known u announce o e)
      (λ f. slot_means s l₁ l₂ m₁
      (counted_means (read_d one) f (record { no_state = λ h. h; no_directory = λ h. h }) (λ h. absurd h)) w _
      (announced_inside s l₁ (enough₁ ready) w ready.known)
      (ap slot_from whole ∙ slot_announced asked is.0 ∙ (λ i. announced (sym is.2 i) (g.ticket i)))
      (rw (sent slot_account (omega arith)) g.narrow) (rw (sent slot_total (omega arith)) g.fits)
      (λ z. absurd (is.0 (sym (sent slot_kind (omega arith)) ∙ z))))
    where
      l₂ : List ℕ
      l₂ = announced_at l₁ (start_of s (worker w)) w

      g : WorkerMeans s l m w
      g = worker_means ready

      sent : (i : ℕ) → i < slot_size → at s (announced_at l₁ (start_of s (worker w)) w) (slot w) i ≡ at s l (worker w) i
      sent i h = announced_word s l₁ (enough₁ ready) w ready.known i h ∙ beside₁ ready i (omega arith) (λ q. omega arith)

      -- the worker's operation, as its words have it, and its words in the slot
      asked : Descriptor
      asked = descriptor_in l (start_of s (worker w))

      is : (asked.kind ≢ kind_none) × (asked.kind ≢ kind_lookup) × (u ≡ update_from asked)
      is = is-update asked (g.operation ∙ o)

      whole : descriptor_in l₂ (start_of s (slot w)) ≡ asked
      whole = λ i. record {
        kind = sent slot_kind (omega arith) i;
        account = sent slot_account (omega arith) i;
        total = sent slot_total (omega arith) i;
        ticket = sent slot_ticket (omega arith) i;
      }

  -- ---- a change of the record that the worker holds

  module _ (holds : HoldsBucket k.pc) where
    abbrev r : ℕ
    r = (mine ready holds).0

    abbrev q : ℕ
    q = start_of s (record' r)

    refers : Refers s l w r
    refers = (mine ready holds).1

    live : Live s l m r
    live = referred w ready.known holds refers

    refers₁ : Refers s l₁ w r
    refers₁ = record { in_pool = refers.in_pool; names = beside₁ ready worker_held (omega arith) (λ e. omega arith) ∙ refers.names }

    others_refer : (j t : ℕ) → j < s.workers → j ≢ w → Refers s l₁ j t → Refers s l j t
    others_refer j t jn d = refers_same s l₁ l j t (λ i b. sym (own_worker (own₁ ready) j jn d i b))

    -- no other record that is live has its name
    only : (t : ℕ) → Live s l₁ m₁ t → name_in s l₁ t ≡ held k → t ≡ r
    only t g e = go g
      where
        apart : Live s l m t → t ≡ r
        apart h =
            ready.means.apart t r h live
            (sym (name_same s l l₁ t (own_record (own₁ ready) t (live_within t h))) ∙ e ∙ sym (mine ready holds).2)

        go : Live s l₁ m₁ t → t ≡ r
        go (current a d) = apart (current a (directs_same s l₁ l a t (λ i b. sym (own_entry (own₁ ready) a i b)) d))
        go (referred j jn h d) = by_cases (ℕ_discrete j w)
            (λ z. refers_once s l₁ w t r (rw z at d) refers₁)
            (λ z. apart (referred j jn (rw (assign_other m.workers w further j z) at h) (others_refer j t jn z d)))

    -- Its words become those of bucket v under its name. Who refers to it compares with the new number as with the new stamp.
    held_means :
        (pc : PC) → next ≡ pc → Plain pc → (l₂ : List ℕ) (v : Bucket) → Inside s (record' r) l₁ l₂
        → at s l₂ (record' r) record_depth ≡ at s l₁ (record' r) record_depth
        → at s l₂ (record' r) record_prefix ≡ at s l₁ (record' r) record_prefix → Keeps s l₂ r v
        → ((j : ℕ) → j < s.workers → j ≢ w → HasState (tasks_of s m j).pc → Refers s l₁ j r → held (tasks_of s m j) ≡ held k
        → SameOutcome (at s l₁ (worker j) worker_state) (at s l₂ (record' r) record_number) (m.workers j).reads.state.stamp
        v.state.stamp)
        → MeansAfter l₂ (assign_bucket m.cells (held k) v)
    unfolding counted
    held_means pc f plain l₂ v inside depth prefix keeps agree =
        record_means s l₁ l₂ m₁ (counted_means pc f plain (λ h. holds)) r (held k) v refers.in_pool inside
        (name_same s l l₁ r (own_record (own₁ ready) r refers.in_pool) ∙ (mine ready holds).2) (rw (depth, prefix)) only keeps
        (λ j jn. assign_elim
        (λ (o : Worker). HasState (task_of s.workers o).pc → Refers s l₁ j r → held (task_of s.workers o) ≡ held k
        → SameOutcome (at s l₁ (worker j) worker_state) (at s l₂ (record' r) record_number) o.reads.state.stamp v.state.stamp)
        m.workers w further j (λ e h. absurd (plain.no_state (rw f at h))) (λ d. agree j jn d))

    -- ---- flip

    module _ (p : Two) (f : next ≡ in_b p one read_s) where
      abbrev flips : List ℕ
      flips = set l₁ (q + record_toggle) (flip_bit (at s l₁ (record' r) record_toggle) w)

      flip_word : (i : ℕ) → i < record_size s.capacity s.workers → i ≢ record_toggle → at s flips (record' r) i ≡ at s l₁ (record' r) i
      flip_word i b d =
          at_beside s l₁ (enough₁ ready) (record' r) record_toggle i _ refers.in_pool (rw record_wide (omega arith)) (rw record_wide b) d

      flip_keeps :
          Keeps s flips r
          (record { state = (own m.cells k).state; toggle = assign (own m.cells k).toggle w (not ((own m.cells k).toggle w)) })
      flip_keeps = record {
        size = rw (flip_word record_count (omega arith) (λ e. omega arith)) (keeps₁ ready holds).size;
        state = rw (loaded_set l₁ q s.capacity s.workers record_toggle _ (omega arith) (omega arith)) (keeps₁ ready holds).state;
        toggle = λ j jn.
            rw (at_here s l₁ (enough₁ ready) (record' r) record_toggle (flip_bit (at s l₁ (record' r) record_toggle) w) refers.in_pool
            (rw record_wide (omega arith)))
            (assign_elim (λ (b : Bool). bits_of (flip_bit (at s l₁ (record' r) record_toggle) w) j ≡ b) (own m.cells k).toggle w _ j
            (λ e. rw e (flip_here (at s l₁ (record' r) record_toggle) w ∙ ap not ((keeps₁ ready holds).toggle w ready.known)))
            (λ d. flip_beside (at s l₁ (record' r) record_toggle) w j d ∙ (keeps₁ ready holds).toggle j jn));
      }

      flipped_means : MeansAfter (flipped_at l₁ (held_by l₁ (start_of s (worker w))) w) (flipped_cells w m.cells k)
      unfolding flipped_at assign_toggle
      flipped_means = rw (at_mine ready holds)
          (held_means (in_b p one read_s) f (record { no_state = λ h. h; no_directory = λ h. h }) flips _
          (set_inside s l₁ (enough₁ ready) (record' r) refers.in_pool record_toggle _ (rw record_wide (omega arith)))
          (flip_word record_depth (omega arith) (λ e. omega arith)) (flip_word record_prefix (omega arith) (λ e. omega arith)) flip_keeps
          (λ j jn d h g e.
          rw (
            flip_word record_number (omega arith) (λ z. omega arith),
            own_worker (own₁ ready) j jn d worker_state (rw worker_wide (omega arith)),
            own_record (own₁ ready) r refers.in_pool record_number (rw record_wide (omega arith)),
          )
          (subst
          (λ (x : Name). SameOutcome (at s l (worker j) worker_state) (at s l (record' r) record_number) (m.workers j).reads.state.stamp
          (m.cells.buckets x).state.stamp)
          e ((ready.means.workers j jn).number h r (others_refer j r jn d g)))))

    -- ---- the bucket swap

    module _ (p t : Two) (e : k.pc ≡ in_b p t swap) (fresh : Fresh m.cells k) (f : next ≡ after_b p t) where
      abbrev round : List ℕ
      round = round_at l₁ s (start_of s (worker w)) q

      abbrev swaps : List ℕ
      swaps = set round (q + record_number) (fresh_number l₁ s.workers q)

      seen : SeenState s t m.cells w k
      seen = (subst (λ pc. ReadFacts s pc m.cells w k) e (ready.good.own w ready.known).read).seen

      -- what the worker has read

      me : WorkerMeans s l₁ m₁ w
      me = (counted_means (after_b p t) f (plain_after p t) (λ h. holds)).workers w ready.known

      same : m₁.workers w ≡ further
      same = assign_at m.workers w further w refl

      toggles : (j : ℕ) → j < s.workers → bits_of (at s l₁ (worker w) worker_toggle) j ≡ k.reads.toggle j
      unfolding counted
      toggles j jn = rw same at (me.toggle j jn)

      slots : (j : ℕ) → j < s.workers → slot_of (part l₁ (start_of s (worker w) + worker_slots) (slot_size * s.workers)) j ≡ k.reads.slots j
      unfolding slot_of descriptor_in counted
      slots j jn =
          rw (
            slots_at s l₁ w j slot_kind jn (omega arith),
            slots_at s l₁ w j slot_account jn (omega arith),
            slots_at s l₁ w j slot_total jn (omega arith),
            slots_at s l₁ w j slot_ticket jn (omega arith),
          )
          (rw same at (me.slots j jn))

      -- the words after the round

      depth_held : at s l₁ (record' r) record_depth ≡ (held k).depth
      depth_held =
          own_record (own₁ ready) r refers.in_pool record_depth (rw record_wide (omega arith))
          ∙ ap (λ (x : Name). x.depth) (mine ready holds).2

      rounded : Stored s l₁ round r (next_state s (held k).depth k.reads.state.value k.reads.toggle k.reads.slots)
      rounded =
          subst (λ (d : ℕ). Stored s l₁ round r (next_state s d k.reads.state.value k.reads.toggle k.reads.slots)) depth_held (
          round_words s ready.range l₁ (enough₁ ready) r refers.in_pool (start_of s (worker w)) _ _ _
          (keeps₁ ready holds).size (rw (seen.same fresh) (keeps₁ ready holds).state) toggles me.sound slots
          )

      enough₂ : words_needed s ≤ length round
      enough₂ = rw rounded.same_length (enough₁ ready)

      swap_word :
          (i : ℕ) → i < record_size s.capacity s.workers → i ≢ record_number → at s swaps (record' r) i ≡ at s round (record' r) i
      swap_word i b d =
          at_beside s round enough₂ (record' r) record_number i _ refers.in_pool (rw record_wide (omega arith)) (rw record_wide b) d

      -- toggle, depth and prefix
      kept : (i : ℕ) → record_toggle ≤ i → i < record_number → at s swaps (record' r) i ≡ at s l₁ (record' r) i
      kept i h b = swap_word i (omega arith) (λ g. omega arith) ∙ rounded.elsewhere (q + i) (inr (inl (omega arith, omega arith)))

      swap_inside : Inside s (record' r) l₁ swaps
      swap_inside =
          let wide = record_wide s r in
          elsewhere_inside s (record' r) l₁ swaps refers.in_pool (length-set round (q + record_number) _ ∙ rounded.same_length)
          (λ i h. get_or-set_other round (q + record_number) i _ 0 (λ g. ⊎_elim (λ b. omega arith) (λ b. omega arith) h)
          ∙ rounded.elsewhere i (⊎_elim (λ b. inl b) (λ b. inr (inr (omega arith))) h))

      swap_keeps :
          Keeps s swaps r (record {
            state = record {
              stamp = suc (own m.cells k).state.stamp;
              value = next_state s (held k).depth k.reads.state.value k.reads.toggle k.reads.slots;
            };
            toggle = (own m.cells k).toggle;
          })
      swap_keeps = record {
        size = rw (swap_word record_count (omega arith) (λ g. omega arith)) rounded.size;
        state = rw (loaded_set round q s.capacity s.workers record_number _ (omega arith) (omega arith)) rounded.state;
        toggle = λ j jn. rw (kept record_toggle (omega arith) (omega arith)) ((keeps₁ ready holds).toggle j jn);
      }

      -- the comparison succeeds
      equal : at s l₁ (worker w) worker_state ≡ at s l₁ (record' r) record_number
      equal =
          beside₁ ready worker_state (omega arith) (λ g. omega arith) ∙ ((worker_means ready).number (rw e tt) r refers).from fresh
          ∙ sym (own_record (own₁ ready) r refers.in_pool record_number (rw record_wide (omega arith)))

      -- and no other worker's will: none has read the new number, or the new stamp
      swapped_means : MeansAfter (swapped_at l₁ s (start_of s (worker w)) (held_by l₁ (start_of s (worker w)))) (swapped_cells s m.cells k)
      unfolding swapped_at assign_state start_of
      swapped_means = rw (at_mine ready holds, if_eq _ _ swaps l₁ equal)
          (held_means (after_b p t) f (plain_after p t) swaps _ swap_inside
          (kept record_depth (omega arith) (omega arith)) (kept record_prefix (omega arith) (omega arith)) swap_keeps
          (λ j jn d h g i.
          let number =
          at_here s round enough₂ (record' r) record_number (fresh_number l₁ s.workers q) refers.in_pool
          (rw record_wide (omega arith)) in
          let bound = state_bounded s m.cells j (tasks_of s m j) (tasks_of s m j).pc h (ready.good.own j jn).read in
          record {
            to = λ z. absurd (fresh-number l₁ s.workers q j jn g.names (z ∙ number));
            from = λ z. absurd (omega (arith, bound, ap (λ (x : Name). (m.cells.buckets x).state.stamp) i));
          }))

  pub flips_means :
      (p : Two) → k.pc ≡ flip p → (y : Reads) → task_of s.workers (counted (m.workers w) y None) ≡ goes k (in_b p one read_s) k.reads
      → Next ready (flipped_cells w m.cells k) y None
  unfolding update_at
  flips_means p e =
      let a : Announced s m.cells w k = announced-at ready (flip p) e in
      moves (in_b p one read_s) _ _ (plan_step ready (flip p) a e) (flipped_means (rw e tt) p)

  pub swaps_means :
      (p r : Two) → k.pc ≡ in_b p r swap → Fresh m.cells k → (y : Reads)
      → task_of s.workers (counted (m.workers w) y None) ≡ goes k (after_b p r) k.reads
      → Next ready (swapped_cells s m.cells k) y None
  unfolding update_at
  swaps_means p r e fresh =
      let a : Announced s m.cells w k = announced-at ready (in_b p r swap) e in
      moves (after_b p r) _ _ (plan_step ready (in_b p r swap) a e) (swapped_means (rw e tt) p r e fresh)
