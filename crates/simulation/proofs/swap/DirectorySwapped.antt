-- Words that stand for a worker's working copy, with a new number for the directory, mean the machine after its directory swap.
-- Rests on words in the middle of a directory swap, and on the machine's swap.
use Prim.Native.Nat.{ℕ, ◌≤◌, ◌<◌}
use native.Mathlib.Omega.{arith}
use mathlib.Core.Path.{◌≡◌, refl, ap, sym, ◌∙◌, subst, subst⁻¹}
use mathlib.Core.Logic.{◌≢◌, inl, inr}
use mathlib.Core.List.{List}
use Rattle.std.specs.Prelude.{None}
use lib.ListN.{length, set}
use lib.Seq.{get_or-set_same, get_or-set_other}
use Rattle.interface.specs.declared.Settings.{Settings}
use Rattle.machine.specs.Choice.{assign}
use Rattle.machine.specs.Sequential.{first_bits}
use Rattle.machine.specs.Records.{Name, Body, Leaf, kept, made, Copy, Slot, Cells, Worker, Machine, new_bucket}
use Rattle.machine.specs.DirectoryPass.{leaf_of, name_of, directory_of, body_made}
use Rattle.fields.specs.Fields.{header_settings, header_needed, header_depth, header_number, header_spare, header_size, slot_kind, slot_account, slot_total, slot_ticket, worker_state, worker_directory, record_number}
use Rattle.fields.specs.Regions.{pool_size, words_needed, Region, record', start_of, Within, header, slot, worker, entry}
use Rattle.machine.specs.Steps.{counted, created, direct}
use Rattle.machine.proofs.laws.Base.{assign_at, assign_other}
use Rattle.machine.specs.Counter.{Two, one, two, PC, in_d, swap_d, slot_d, state}
use Rattle.machine.proofs.invariant.Counter.{after_d}
use Rattle.machine.proofs.laws.Copies as Copies
use Rattle.machine.proofs.laws.Copies.{name_at, depth_at, Coherent, partition_of, depth_at_le, body_made_made, body_made_kept, bucket_of_directory_of}
use Rattle.machine.specs.Tasks.{Task, target, leaf, held, DirectoryFresh, IsMade, task_of, tasks_of, own}
use Rattle.machine.proofs.invariant.Inv.{leaf_body, Hold, ResolvedTo, KeptOrResolved, ReadFacts}
use Rattle.machine.specs.Passed.{HoldsBucket}
use Rattle.machine.proofs.invariant.Preservation.{holds_hold}
use Rattle.machine.proofs.steps.SwapDirectory.{kept_or_resolved, remade, remade_ok, own_same}
use Rattle.machine.proofs.invariant.Transitions.{redirected_cells}
use Rattle.fields.proofs.Regions.{region_inside, record_starts_apart}
use Rattle.simulation.specs.Buckets.{slot_from}
use Rattle.layout.specs.Shape.{word}
use Rattle.renumbering.specs.Numbers.{fresh_directory}
use Rattle.simulation.specs.Meaning.{at, name_in, Keeps, Directs, Refers, Live, current, referred, HasState, HasDirectory, SameOutcome, WorkerMeans, Meaning}
use Rattle.simulation.proofs.frames.Frames.{state_holds, slot_wide, record_wide, entry_wide, entry_within, SameWords, descriptor_first, name_same, keeps_same, refers_same, worker_same, Inside}
use Rattle.simulation.proofs.frames.Entering.{depth_bound, raised, refers_once}
use Rattle.simulation.proofs.frames.OwnWorker.{Ready, nowhere, work_directory, raised_means}
use Rattle.simulation.proofs.frames.Numbering.{fresh-directory}
use Rattle.simulation.proofs.swap.Halves.{Left, SameRecord}
use Rattle.simulation.proofs.swap.InPlace.{Content, Mid}
use Rattle.simulation.proofs.frames.Storing.{set_head}
use Rattle.machine.proofs.laws.Resolve.{body_at}

-- ---- the counter of a worker

-- after a directory swap a worker holds and compares nothing
free_after : (p r : Two) → (HoldsBucket (after_d p r) → ⊥) × (HasState (after_d p r) → ⊥) × (HasDirectory (after_d p r) → ⊥)
free_after p one = nowhere
free_after p two = nowhere

-- the directory that it has read is no later than the directory
directory_bounded :
    (s : Settings) (c : Cells) (j : ℕ) (k : Task) (pc : PC) → HasDirectory pc → ReadFacts s pc c j k
    → k.reads.directory.stamp ≤ c.directory.stamp
directory_bounded s c j k (in_d p r swap_d) h f = f.read.0.bounded
directory_bounded s c j k (in_d p r (slot_d i)) h f = f.read.0.bounded
directory_bounded s c j k (in_d p r (state i)) h f = f.read.0.bounded
directory_bounded s c j k _ h f = elim h [ ]

-- worker w is about to swap the directory that it has read, which is the current one
module _ {s : Settings} {l : List ℕ} {m : Machine} {w : ℕ} (ready : Ready s l m w) (p r : Two)
    (here : (tasks_of s m w).pc ≡ in_d p r swap_d) (fresh : DirectoryFresh m.cells (tasks_of s m w))
    (next : (task_of s.workers (counted (m.workers w) (m.workers w).reads None)).pc ≡ after_d p r) where
  abbrev k : Task
  k = tasks_of s m w

  abbrev c : Cells
  c = m.cells

  abbrev c' : Cells
  c' = redirected_cells c k

  abbrev v : Worker
  v = counted (m.workers w) (m.workers w).reads None

  -- the machine with the step counted, and after it
  abbrev m₁ : Machine
  m₁ = record { cells = c; workers = assign m.workers w v }

  abbrev m' : Machine
  m' = record { cells = c'; workers = assign m.workers w v }

  abbrev l₁ : List ℕ
  l₁ = raised s l w (m.workers w).steps

  abbrev slots : ℕ → Slot
  slots = (m.workers w).reads.slots

  abbrev o : Copy
  o = (m.workers w).reads.copy

  small : s.depth ≤ 32
  small = depth_bound s ready.range

  pub means₁ : Meaning s (raised s l w (m.workers w).steps) (record { cells = m.cells; workers = assign m.workers w v })
  unfolding counted
  means₁ = let f = free_after p r in raised_means ready (after_d p r) (λ h. absurd (f.0 h)) f.1 f.2 next

  -- ---- the working copy

  pub work : (a : ℕ) → KeptOrResolved s m.cells (tasks_of s m w) a
  work = kept_or_resolved s small w ready.known c (tasks_of s m) ready.good p r here fresh

  coherent : Coherent s.depth o
  coherent = (subst (λ pc. ReadFacts s pc c w k) here (ready.good.own w ready.known).read).read.0.coherent

  -- a bucket that it has split
  pub made_leaf :
      (a : ℕ) → ResolvedTo s (m.workers w).reads.slots (leaf m.cells a) (leaf_body m.cells a) a
      (leaf_of (m.workers w).reads.copy a)
      → leaf_of (m.workers w).reads.copy a
      ≡ made (name_at (depth_at (remade s m.cells (tasks_of s m w) a) a) a) (body_at (remade s m.cells (tasks_of s m w) a) a)
  made_leaf a g =
      g.is ∙ (remade_ok s small w ready.known c (tasks_of s m) ready.good p r here fresh a).stands a
      ((partition_of _ ready.good.directory).named a)

  -- ---- the records that the directory names

  directed_name : (a t : ℕ) → Directs s l₁ a t → name_in s l₁ t ≡ leaf c a
  directed_name a t h =
      let d = means₁.directory a in
      ap (λ (x : ℕ). name_in s l₁ x) (record_starts_apart s t d.0 (sym h.names ∙ d.1.names)) ∙ d.2

  pub directed_keeps : (a t : ℕ) → Directs s (raised s l w (m.workers w).steps) a t
      → Keeps s (raised s l w (m.workers w).steps) t (m.cells.buckets (leaf m.cells a))
  directed_keeps a t h = subst (λ (x : Name). Keeps s l₁ t (c.buckets x)) (directed_name a t h) (means₁.cells t (current a h))

  -- words l₂ stand for the copy
  module _ (l₂ : List ℕ) (o₂ : Copy) (mid : Mid s (raised s l w (m.workers w).steps) m.cells l₂ o₂)
      (leaves : (a : ℕ) → leaf_of o₂ a ≡ leaf_of (m.workers w).reads.copy a) where
    abbrev number : ℕ
    number = fresh_directory l₁ s.workers

    abbrev l₃ : List ℕ
    l₃ = set l₂ header_number number

    depths : o₂.depth ≡ o.depth
    depths =
        let a = mid.coherent.reached in
        let e = coherent.reached in
        omega (
          arith,
          a.1,
          e.1,
          depth_at_le coherent a.0,
          depth_at_le mid.coherent e.0,
          ap (λ (y : Leaf). (name_of y).depth) (leaves a.0),
          ap (λ (y : Leaf). (name_of y).depth) (leaves e.0),
        )

    -- ---- what is the same

    enough₂ : words_needed s ≤ length l₂
    enough₂ = omega (arith, mid.frame.same_length, means₁.lent)

    head₃ : Inside s header l₂ l₃
    head₃ = set_head s l₂ enough₂ header_number number (omega arith)

    length₃ : length l₃ ≡ length l₁
    length₃ = head₃.same_length ∙ mid.frame.same_length

    left_words : (q : Region) → Within s q → Left q → SameWords s l₁ l₃ q
    left_words q h f i b = head₃.same q i h b (λ e. subst Left e f) ∙ mid.frame.left q i h f b

    worker_words : (j : ℕ) → j < s.workers → SameWords s l₁ l₃ (worker j)
    worker_words j h = left_words (worker j) h tt

    slot_words : (j : ℕ) → j < s.workers → SameWords s l₁ l₃ (slot j)
    slot_words j h = left_words (slot j) h tt

    record_words : (t : ℕ) → t < pool_size s → SameRecord s l₂ l₃ t
    record_words t h i b = head₃.same (record' t) i h b (λ e. let z : ◌≡◌ {A = ℕ} 0 1 = cc in omega arith)

    entry_word : (a : ℕ) → at s l₃ (entry (first_bits s.depth a)) 0 ≡ at s l₂ (entry (first_bits s.depth a)) 0
    entry_word a =
        head₃.same (entry _) 0 (entry_within s a) (rw entry_wide (omega arith)) (λ e. let z : ◌≡◌ {A = ℕ} 0 1 = cc in omega arith)

    head_word : (i : ℕ) → i < header_size → i ≢ header_depth → i ≢ header_number → i ≢ header_spare → word l₃ i ≡ word l₁ i
    head_word i h d e f = get_or-set_other l₂ header_number i number 0 e ∙ mid.frame.header i h d f

    depth_word : word l₃ header_depth ≡ word l₂ header_depth
    depth_word = get_or-set_other l₂ header_number header_depth number 0 (λ e. omega arith)

    number_word : word l₃ header_number ≡ number
    number_word = get_or-set_same l₂ header_number number 0 (omega (arith, enough₂, region_inside s header tt))

    -- ---- the cells

    leaf_is : (a : ℕ) → leaf c' a ≡ name_of (leaf_of o a)
    unfolding direct
    leaf_is a = bucket_of_directory_of o a

    bucket_is : (x : Name) → c'.buckets x ≡ created (c.buckets x) (body_made o x)
    unfolding direct
    bucket_is x = refl

    within_at : (a : ℕ) → mid.index a < pool_size s
    within_at a = (mid.keeps a).directs.in_pool

    name_now : (a : ℕ) → name_in s l₃ (mid.index a) ≡ name_of (leaf_of o a)
    name_now a = name_same s l₂ l₃ _ (record_words _ (within_at a)) ∙ (mid.keeps a).named ∙ ap name_of (leaves a)

    directs_now : (a : ℕ) → Directs s l₃ a (mid.index a)
    directs_now a = record { in_pool = within_at a; names = entry_word a ∙ (mid.keeps a).directs.names }

    content_now : (a : ℕ) (y : Leaf) → leaf_of o a ≡ y → Content s l₁ c l₂ (mid.index a) a y
    content_now a y e = subst (Content s l₁ c l₂ (mid.index a) a) (leaves a ∙ e) (mid.keeps a).content

    -- ---- the workers that hold a bucket

    -- worker w is at a counter where it holds and compares nothing
    not_w : (P : PC → Type 0) → (P (after_d p r) → ⊥) → (j : ℕ) → P (tasks_of s m₁ j).pc → j ≢ w
    not_w P n j h e = n (subst P next (subst (λ (x : Worker). P (task_of s.workers x).pc) (assign_at m.workers w v j e) h))

    no_hold : (j : ℕ) → HoldsBucket (tasks_of s m₁ j).pc → j ≢ w
    no_hold = not_w HoldsBucket (free_after p r).0

    same_task : (j : ℕ) → j ≢ w → tasks_of s m₁ j ≡ tasks_of s m j
    same_task j d = ap (task_of s.workers) (assign_other m.workers w v j d)

    -- a record that is live: an account's, or one held by a worker
    data LiveAs (t : ℕ) : Type 0 where
      by_account : (a : ℕ) → t ≡ mid.index a → LiveAs t
      by_worker : (j : ℕ) → j < s.workers → HoldsBucket (tasks_of s m₁ j).pc → Refers s l₁ j t → LiveAs t

    live_as : (t : ℕ) → Live s l₃ m' t → LiveAs t
    live_as t (current a h) = by_account a (record_starts_apart s t (mid.index a) (sym h.names ∙ (directs_now a).names))
    live_as t (referred j jn h g) = by_worker j jn h (refers_same s l₃ l₁ j t (λ i b. sym (worker_words j jn i b)) g)

    held_same : (j t : ℕ) → j < s.workers → Refers s l₁ j t → SameRecord s l₁ l₃ t
    held_same j t jn h i b = record_words t h.in_pool i b ∙ mid.held j t jn h i b

    held_name : (j t : ℕ) → j < s.workers → HoldsBucket (tasks_of s m₁ j).pc → Refers s l₁ j t → name_in s l₁ t ≡ held (tasks_of s m j)
    held_name j t jn h g =
        let y = (means₁.workers j jn).held h in
        ap (λ (x : ℕ). name_in s l₁ x) (refers_once s l₁ j t y.0 g y.1) ∙ y.2 ∙ ap held (same_task j (no_hold j h))

    still_holds : (j : ℕ) → HoldsBucket (tasks_of s m₁ j).pc → HoldsBucket (tasks_of s m j).pc
    still_holds j h = subst (λ (x : Task). HoldsBucket x.pc) (same_task j (no_hold j h)) h

    held_own : (j : ℕ) → j < s.workers → HoldsBucket (tasks_of s m₁ j).pc → own c' (tasks_of s m j) ≡ own c (tasks_of s m j)
    held_own j jn h = own_same s small w ready.known c (tasks_of s m) ready.good p r here fresh j jn (still_holds j h)

    -- ---- each live record keeps its bucket

    cell : (t : ℕ) → LiveAs t → Keeps s l₃ t (c'.buckets (name_in s l₃ t))
    cell t (by_account a e) = subst⁻¹ (λ (x : ℕ). Keeps s l₃ x (c'.buckets (name_in s l₃ x))) e
        (subst⁻¹ (λ (x : Name). Keeps s l₃ (mid.index a) (c'.buckets x)) (name_now a)
        (keeps_same s l₂ l₃ _ _ (record_words _ (within_at a)) (by (work a))))
      where
        by : KeptOrResolved s c k a → Keeps s l₂ (mid.index a) (c'.buckets (name_of (leaf_of o a)))
        by (inl f) =
            let z = (content_now a (kept (leaf c a)) f).0 in
            let q : c'.buckets (name_of (leaf_of o a)) ≡ c.buckets (leaf c a) =
            ap (λ (y : Leaf). c'.buckets (name_of y)) f ∙ bucket_is (leaf c a)
            ∙ ap (created (c.buckets (leaf c a))) (body_made_kept small coherent a (leaf c a) f) in
            rw q (keeps_same s l₁ l₂ _ _ z.same (directed_keeps a _ z.was))
        by (inr g) = on (content_now a _ (made_leaf a g))
          where
            x : Name
            x = name_at (depth_at (remade s c k a) a) a

            b : Body
            b = body_at (remade s c k a) a

            q : c'.buckets (name_of (leaf_of o a)) ≡ new_bucket b
            q = ap (λ (y : Leaf). c'.buckets (name_of y)) (made_leaf a g) ∙ bucket_is x
                ∙ ap (created (c.buckets x)) (body_made_made small coherent a x b (made_leaf a g))

            on : Content s l₁ c l₂ (mid.index a) a (made x b) → Keeps s l₂ (mid.index a) (c'.buckets (name_of (leaf_of o a)))
            on (inl z) =
                absurd (omega (arith, g.deeper, ap (λ (y : Leaf). (name_of y).depth) (made_leaf a g), ap (λ (y : Name). y.depth) z.name))
            on (inr z) = rw q z.1
    cell t (by_worker j jn h g) =
        let n = held_name j t jn h g in
        let q : c'.buckets (name_in s l₃ t) ≡ c.buckets (name_in s l₁ t) =
        ap (λ (x : Name). c'.buckets x) (name_same s l₁ l₃ t (held_same j t jn g) ∙ n) ∙ held_own j jn h
        ∙ ap (λ (x : Name). c.buckets x) (sym n) in
        rw q (keeps_same s l₁ l₃ t _ (held_same j t jn g) (means₁.cells t (referred j jn h g)))

    -- ---- no two with one name

    -- an account's and one that is held
    mixed :
        (a j t : ℕ) (jn : j < s.workers) → HoldsBucket (tasks_of s m₁ j).pc → Refers s l₁ j t → name_of (leaf_of o a) ≡ name_in s l₁ t
        → KeptOrResolved s c k a
        → mid.index a ≡ t
    mixed a j t jn h g e (inl f) =
        let z = (content_now a (kept (leaf c a)) f).0 in
        means₁.apart (mid.index a) t (current a z.was) (referred j jn h g) (directed_name a _ z.was ∙ sym (ap name_of f) ∙ e)
    mixed a j t jn h g e (inr f) = absurd (by (work (target q)))
      where
        q : Task
        q = tasks_of s m j

        hold : Hold s c j q
        hold = holds_hold s c j q q.pc (still_holds j h) (ready.good.own j jn).read

        name : name_of (leaf_of o a) ≡ held q
        name = e ∙ held_name j t jn h g

        same : leaf_of o (target q) ≡ leaf_of o a
        same = coherent.shared a (target q)
            (subst⁻¹ (λ (x : Name). Copies.InBucket x (target q)) name (sym (ap (λ (x : Name). x.prefix) hold.named)))

        by : KeptOrResolved s c k (target q) → ⊥
        by (inl z) = subst IsMade (sym (made_leaf a f) ∙ sym same ∙ z) tt
        by (inr z) = omega (arith, z.deeper, hold.depth, ap (λ (y : Leaf). (name_of y).depth) same, ap (λ (x : Name). x.depth) name)

    across :
        (a t j : ℕ) (jn : j < s.workers) → HoldsBucket (tasks_of s m₁ j).pc → Refers s l₁ j t → name_in s l₃ (mid.index a) ≡ name_in s l₃ t
        → mid.index a ≡ t
    across a t j jn h g e = mixed a j t jn h g (sym (name_now a) ∙ e ∙ name_same s l₁ l₃ t (held_same j t jn g)) (work a)

    abbrev name₃ : ℕ → Name
    name₃ t = name_in s l₃ t

    apart : (t u : ℕ) → LiveAs t → LiveAs u → name_in s l₃ t ≡ name_in s l₃ u → t ≡ u
    apart t u (by_account a x) (by_account e y) h =
        let n : name_of (leaf_of o a) ≡ name_of (leaf_of o e) = sym (name_now a) ∙ ap name₃ (sym x) ∙ h ∙ ap name₃ y ∙ name_now e in
        x ∙ mid.apart a e (ap name_of (leaves a) ∙ n ∙ sym (ap name_of (leaves e))) ∙ sym y
    apart t u (by_account a x) (by_worker j jn g f) h = x ∙ across a u j jn g f (ap name₃ (sym x) ∙ h)
    apart t u (by_worker j jn g f) (by_account a y) h = sym (y ∙ across a t j jn g f (ap name₃ (sym y) ∙ sym h))
    apart t u (by_worker j jn g f) (by_worker i ln h q) e =
        means₁.apart t u (referred j jn g f) (referred i ln h q)
        (sym (name_same s l₁ l₃ t (held_same j t jn f)) ∙ e ∙ name_same s l₁ l₃ u (held_same i u ln q))

    -- ---- each worker

    each : (j : ℕ) → j < s.workers → WorkerMeans s l₃ m' j
    unfolding direct start_of
    each j jn = worker_same s l₁ l₃ m₁ m' j refl means₁.lent length₃ jn (worker_words j jn) g
        (λ h.
        let y = g.held h in
        (y.0, refers_same s l₁ l₃ j y.0 (worker_words j jn) y.1, name_same s l₁ l₃ y.0 (held_same j y.0 jn y.1) ∙ y.2))
        number (λ h. record { to = λ e. absurd (unread e); from = λ e. absurd (stale h e) })
        (λ h e. absurd (stale (work_directory (tasks_of s m₁ j).pc h) e))
      where
        g : WorkerMeans s l₁ m₁ j
        g = means₁.workers j jn

        number :
            HasState (tasks_of s m₁ j).pc → (t : ℕ) → Refers s l₃ j t
            → SameOutcome (at s l₁ (worker j) worker_state) (at s l₃ (record' t) record_number) (m₁.workers j).reads.state.stamp
            (own c' (tasks_of s m₁ j)).state.stamp
        number h t y =
            let z : Refers s l₁ j t = refers_same s l₃ l₁ j t (λ i b. sym (worker_words j jn i b)) y in
            let d = state_holds (tasks_of s m₁ j).pc h in
            let q : own c' (tasks_of s m₁ j) ≡ own c (tasks_of s m₁ j) =
            subst⁻¹ (λ (x : Task). own c' x ≡ own c x) (same_task j (no_hold j d)) (held_own j jn d) in
            rw (q, held_same j t jn z record_number (rw record_wide (omega arith))) (g.number h t z)

        -- no worker has read the directory under its new number, or its new stamp
        unread : at s l₁ (worker j) worker_directory ≡ word l₃ header_number → ⊥
        unread e = fresh-directory l₁ s.workers j jn (e ∙ number_word)

        stale : HasDirectory (tasks_of s m₁ j).pc → (m₁.workers j).reads.directory.stamp ≡ c'.directory.stamp → ⊥
        stale h e =
            let d = same_task j (not_w HasDirectory (free_after p r).2 j h) in
            let q = subst (λ (x : Task). HasDirectory x.pc) d h in
            omega (
              arith,
              directory_bounded s c j (tasks_of s m j) (tasks_of s m j).pc q (ready.good.own j jn).read,
              ap (λ (x : Task). x.reads.directory.stamp) d,
              e,
            )

    pub directory_swapped :
        Meaning s (set l₂ header_number (fresh_directory (raised s l w (m.workers w).steps) s.workers))
        (record { cells = redirected_cells m.cells (tasks_of s m w); workers = assign m.workers w v })
    unfolding direct directory_of
    directory_swapped = record {
      lent = rw length₃ means₁.lent;
      first = head_word header_settings (omega arith) (λ e. omega arith) (λ e. omega arith) (λ e. omega arith) ∙ means₁.first;
      needed = head_word header_needed (omega arith) (λ e. omega arith) (λ e. omega arith) (λ e. omega arith) ∙ means₁.needed;
      depth = depth_word ∙ mid.depth ∙ depths;
      slots = λ j jn. ap slot_from (descriptor_first s l₁ l₃ (slot j) (slot_words j jn) (rw slot_wide (omega arith))) ∙ means₁.slots j jn;
      narrow = λ j jn. rw (slot_words j jn slot_account (rw slot_wide (omega arith))) (means₁.narrow j jn);
      fits = λ j jn. rw (slot_words j jn slot_total (rw slot_wide (omega arith))) (means₁.fits j jn);
      quiet =
          λ j jn. rw (slot_words j jn slot_kind (rw slot_wide (omega arith)), slot_words j jn slot_ticket (rw slot_wide (omega arith)))
          (means₁.quiet j jn);
      directory = λ a. (mid.index a, directs_now a, name_now a ∙ sym (leaf_is a));
      cells = λ t h. cell t (live_as t h);
      apart = λ t u h g. apart t u (live_as t h) (live_as u g);
      workers = each;
    }
