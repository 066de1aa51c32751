-- The invariant of the machine (no histories in it): what each worker knows, what one worker has seen of another, and what
-- holds between any two. Rests on the facts of the program counter and on working copies by account.
use Prim.Native.Nat.{ℕ, ◌≤◌, ◌<◌}
use mathlib.Core.Path.{◌≡◌}
use mathlib.Core.Logic.{◌⊎◌}
use mathlib.Core.Bool.{true, not}
use Rattle.std.specs.Prelude.{Some, None}
use Rattle.interface.specs.declared.Settings.{Settings}
use Rattle.machine.specs.Sequential.{Update, account, update, lookup}
use Rattle.machine.specs.Records.{Name, Body, Bucket, Leaf, kept, made, Copy, Slot, empty, announced, Cells}
use Rattle.machine.specs.BucketPass.{splittable, holds_back}
use Rattle.machine.specs.DirectoryPass.{copy_of, leaf_of, name_of, replace_leaf, take_slots}
use Rattle.machine.proofs.laws.Copies.{name_at, Coherent}
use Rattle.machine.specs.Counter.{Two, one, two, BStep, DStep, copy_d, swap_d, slot_d, state, PC, idle, announce, look₁, look₂, over, read_d, flip, check_d, check_s, in_b, in_d}
use Rattle.machine.proofs.invariant.Counter.{by_counter}
use Rattle.machine.proofs.invariant.CounterFacts.{IsTwo, BothTwo, Rounds, HasToggle, HasSlotB, HasSlotD, FlipSeen, UpdateSeen, BucketSplit}
use Rattle.machine.specs.Passed.{since_state, since_copy, PastState}
use Rattle.machine.specs.Tasks.{Task, target, leaf, held, DirectoryFresh, IsMade, own}

-- ---- resolving a bucket

-- a directory of depth d whose buckets all have depth d
abbrev pub uniform : ℕ → Copy
uniform d = record { depth = d; leaves = λ e. kept (record { depth = d; prefix = e }) }

-- what a round makes of bucket x, whose body is b, for the slots of the workers below j, apart from all other buckets
unfoldable pub resolved : Settings → Name → Body → (ℕ → Slot) → ℕ → Copy
resolved s x b slots j = take_slots s x b slots j (replace_leaf x (made x b) (uniform x.depth))

-- ---- cells and tasks

abbrev pub body : Cells → Name → Body
body c x = (c.buckets x).state.value.body

abbrev pub leaf_body : Cells → ℕ → Body
leaf_body c a = body c (leaf c a)

-- what was read is still current
abbrev pub Fresh : Cells → Task → Type 0
Fresh c k = k.reads.state.stamp ≡ (own c k).state.stamp

-- worker j's bit at a bucket: taken up into the applied bits, or still to be
abbrev pub Applied : Bucket → ℕ → Type 0
Applied x j = x.toggle j ≡ x.state.value.applied j

abbrev pub Pending : Bucket → ℕ → Type 0
Pending x j = x.toggle j ≡ not (x.state.value.applied j)

abbrev pub ticket_of : Slot → ℕ
ticket_of empty = 0
ticket_of (announced u t) = t

-- what worker j, with the task k, can rely on of the task q at one bucket: whoever can still swap there has seen its flip
abbrev pub SeesFlip : Cells → ℕ → Task → Task → Type 0
SeesFlip c j k q =
    FlipSeen k.reads.state.stamp (own c k).state.stamp k.pc → Pending (own c k) j
    → held q ≡ held k → HasToggle q.pc → Fresh c q → q.reads.toggle j ≡ (own c k).toggle j

-- worker j's ticket t is settled in the body b
abbrev pub SettledIn : ℕ → ℕ → Body → Type 0
SettledIn j t b = t ≤ (b.settled j).ticket

-- and in the bucket of account a
abbrev pub SettledFor : Cells → ℕ → ℕ → ℕ → Type 0
SettledFor c j t a = SettledIn j t (leaf_body c a)

abbrev pub SettledSlot : Cells → ℕ → Slot → Type 0
SettledSlot c j empty = Unit {0}
SettledSlot c j (announced u t) = SettledFor c j t (account u)

-- the task's own update is settled
abbrev pub OwnSettled : Cells → ℕ → Task → Type 0
OwnSettled c j k = SettledFor c j k.ticket (target k)

-- worker j's slot, once read as x, is still that, or its update is settled
abbrev pub OldSlot : Cells → ℕ → Slot → Type 0
OldSlot c j x = (x ≡ c.slots j) ⊎ SettledSlot c j x

-- The update is settled, or the account's bucket is held; or the directory that was read is current.
abbrev pub HeldOrSettled : Cells → ℕ → Task → Type 0
HeldOrSettled c j k = (held k ≡ leaf c (target k)) ⊎ OwnSettled c j k

abbrev pub FreshOrSettled : Cells → ℕ → Task → Type 0
FreshOrSettled c j k = DirectoryFresh c k ⊎ OwnSettled c j k

-- in pass two
abbrev pub HoldsLeaf : Two → Cells → ℕ → Task → Type 0
HoldsLeaf p c j k = IsTwo p → HeldOrSettled c j k

module _ (s : Settings) where
  -- worker j's ticket t is settled in the body b, or the bucket, of depth d, holds it back
  abbrev pub SettledOrBlocked : ℕ → ℕ → ℕ → Body → Type 0
  SettledOrBlocked j t d b = SettledIn j t b ⊎ (holds_back s d b ≡ true)

  -- A bucket of depth d and body b has been superseded by one of body b'.
  pub record Superseded (j t d : ℕ) (b b' : Body) : Type 0 where
    pub blocked : holds_back s d b ≡ true
    pub settled : SettledIn j t b → b'.settled j ≡ b.settled j

  abbrev pub HeldOrSuperseded : Cells → ℕ → Task → Type 0
  HeldOrSuperseded c j k =
      (held k ≡ leaf c (target k)) ⊎ Superseded j k.ticket (held k).depth (body c (held k)) (leaf_body c (target k))

  -- The bucket held is the account's, or a superseded one.
  pub record Hold (c : Cells) (j : ℕ) (k : Task) : Type 0 where
    pub named : held k ≡ name_at (held k).depth (target k)
    pub depth : (held k).depth ≤ (leaf c (target k)).depth
    pub is : HeldOrSuperseded c j k

  -- the account's bucket holds updates back, or the update is settled
  abbrev pub BlockedOrSettled : Cells → ℕ → Task → Type 0
  BlockedOrSettled c j k = (holds_back s (leaf c (target k)).depth (leaf_body c (target k)) ≡ true) ⊎ OwnSettled c j k

  -- past pass two's bucket pass
  abbrev pub BlockedLeaf : Two → Cells → ℕ → Task → Type 0
  BlockedLeaf p c j k = IsTwo p → BlockedOrSettled c j k

  -- ---- the bucket pass

  -- the state that was read in round r
  pub record SeenState (r : Two) (c : Cells) (j : ℕ) (k : Task) : Type 0 where
    pub bounded : k.reads.state.stamp ≤ (own c k).state.stamp
    pub same : Fresh c k → k.reads.state.value ≡ (own c k).state.value
    pub second : IsTwo r → Pending (own c k) j → Fresh c k

  abbrev pub SeenAt : Two → BStep → Cells → ℕ → Task → Type 0
  SeenAt r x c j k = since_state (Unit {0}) (SeenState r c j k) x

  pub record InRound (p r : Two) (x : BStep) (c : Cells) (j : ℕ) (k : Task) : Type 0 where
    pub hold : Hold c j k
    pub pass : HoldsLeaf p c j k
    pub applied : Applied (own c k) j → SettledOrBlocked j k.ticket (held k).depth (body c (held k))
    pub seen : SeenAt r x c j k

  -- ---- the directory pass

  -- Bucket x, whose body is b, was found full below depth M, and resolved into leaf l of account a.
  pub record ResolvedTo (slots : ℕ → Slot) (x : Name) (b : Body) (a : ℕ) (l : Leaf) : Type 0 where
    pub splits : splittable s x.depth b ≡ true
    pub is : l ≡ leaf_of (resolved s x b slots s.workers) a
    pub deeper : x.depth < (name_of l).depth

  -- what the working copy has for account a: the current bucket, or what it was resolved into
  abbrev pub KeptOrResolved : Cells → Task → ℕ → Type 0
  KeptOrResolved c k a =
      (leaf_of k.reads.copy a ≡ kept (leaf c a))
      ⊎ ResolvedTo k.reads.slots (leaf c a) (leaf_body c a) a (leaf_of k.reads.copy a)

  pub record SeenDirectory (c : Cells) (k : Task) : Type 0 where
    pub bounded : k.reads.directory.stamp ≤ c.directory.stamp
    pub same : DirectoryFresh c k → k.reads.directory.value ≡ c.directory.value
    pub coherent : Coherent s.depth k.reads.copy

  abbrev pub ReadAt : DStep → Cells → Task → Type 0
  ReadAt copy_d c k = Unit {0}
  ReadAt (slot_d i) c k = SeenDirectory c k × (k.reads.copy ≡ copy_of k.reads.directory.value)
  ReadAt (state i) c k = SeenDirectory c k × (DirectoryFresh c k → (a : ℕ) → KeptOrResolved c k a)
  ReadAt swap_d c k = SeenDirectory c k × (DirectoryFresh c k → (a : ℕ) → KeptOrResolved c k a)

  abbrev pub RoundAt : Two → Two → DStep → Cells → ℕ → Task → Type 0
  RoundAt p r x c j k = since_copy (Unit {0}) (BothTwo p r → FreshOrSettled c j k) x

  pub record InDirectory (p r : Two) (x : DStep) (c : Cells) (j : ℕ) (k : Task) : Type 0 where
    pub blocked : BlockedLeaf p c j k
    pub read : ReadAt x c k
    pub round : RoundAt p r x c j k

  -- ---- the checks

  -- before the check of pass p's bucket pass (one) or directory pass (two)
  abbrev pub CheckFacts : Two → Two → Cells → ℕ → Task → Type 0
  CheckFacts one x c j k = Unit {0}
  CheckFacts two one c j k = BlockedOrSettled c j k
  CheckFacts two two c j k = OwnSettled c j k

  -- in it, the bucket held
  abbrev pub CheckFactsHere : Two → Two → Cells → ℕ → Task → Type 0
  CheckFactsHere one x c j k = Unit {0}
  CheckFactsHere two one c j k = BlockedOrSettled c j k
  CheckFactsHere two two c j k = SettledIn j k.ticket (body c (held k))

  -- ---- what worker j knows

  -- its slot holds its announced update
  pub record Announced (c : Cells) (j : ℕ) (k : Task) : Type 0 where
    pub wanted : Update
    pub asks : k.operation ≡ Some (update wanted)
    pub slot : c.slots j ≡ announced wanted k.ticket

  -- it is called for an update, and its slot has an older one, which is settled
  pub record Calling (c : Cells) (j : ℕ) (k : Task) : Type 0 where
    pub wanted : Update
    pub asks : k.operation ≡ Some (update wanted)
    pub settled : SettledSlot c j (c.slots j)
    pub newer : ticket_of (c.slots j) < k.ticket

  -- it looks up an account
  pub record Looking (c : Cells) (j : ℕ) (k : Task) : Type 0 where
    pub wanted : ℕ
    pub asks : k.operation ≡ Some (lookup wanted)
    pub settled : SettledSlot c j (c.slots j)

  -- of its slot
  abbrev pub SlotFacts : PC → Cells → ℕ → Task → Type 0
  SlotFacts pc c j k = by_counter (λ x. Type 0)
      ((k.operation ≡ None) × SettledSlot c j (c.slots j)) (Calling c j k) (Looking c j k) (Looking c j k) ⊥ (λ x u. Announced c j k) pc

  -- of the bucket or the directory that it has read
  abbrev pub ReadFacts : PC → Cells → ℕ → Task → Type 0
  ReadFacts idle c j k = Unit {0}
  ReadFacts announce c j k = Unit {0}
  ReadFacts look₁ c j k = Unit {0}
  ReadFacts look₂ c j k = Hold c j k
  ReadFacts over c j k = ⊥
  ReadFacts (read_d p) c j k = Unit {0}
  ReadFacts (flip p) c j k = Hold c j k × HoldsLeaf p c j k
  ReadFacts (check_d p x) c j k = CheckFacts p x c j k
  ReadFacts (check_s p x) c j k = Hold c j k × CheckFactsHere p x c j k
  ReadFacts (in_b p r x) c j k = InRound p r x c j k
  ReadFacts (in_d p r x) c j k = InDirectory p r x c j k

  pub record Own (c : Cells) (j : ℕ) (k : Task) : Type 0 where
    pub ticket : ticket_of (c.slots j) ≤ k.ticket
    pub slot : SlotFacts k.pc c j k
    pub read : ReadFacts k.pc c j k

  -- ---- what a worker with task k has seen of worker j

  pub record View (j : ℕ) (c : Cells) (k : Task) : Type 0 where
    -- a bit that agrees with the applied one was seen as it is
    pub bit : HasToggle k.pc → Fresh c k → Applied (own c k) j → k.reads.toggle j ≡ (own c k).toggle j
    -- the slot of a bit seen to differ was read as it is
    pub slot :
        HasSlotB s.workers j k.pc → Fresh c k → Pending (own c k) j → k.reads.toggle j ≡ (own c k).toggle j
        → k.reads.slots j ≡ c.slots j
    -- a slot that was read is the slot, or its update is settled
    pub old : OldSlot c j (k.reads.slots j)

  -- ---- what worker j with task k can rely on of a worker with task q

  pub record Pair (j : ℕ) (c : Cells) (k q : Task) : Type 0 where
    pub sees_flip : SeesFlip c j k q
    -- whoever can still swap the directory has read j's update
    pub seen :
        UpdateSeen k.reads.directory.stamp c.directory.stamp k.pc
        → HasSlotD s.workers j q.pc → DirectoryFresh c q → q.reads.slots j ≡ c.slots j
    -- and splits its bucket, or the update is settled
    pub splits_bucket :
        BucketSplit k.reads.directory.stamp c.directory.stamp k.pc
        → PastState s.workers j q.pc → DirectoryFresh c q → IsMade (leaf_of q.reads.copy (target k)) ⊎ OwnSettled c j k

  -- ---- the invariant

  -- a bit is taken up, or its worker is in its rounds at the bucket
  abbrev pub AppliedOrRounds : ℕ → Cells → Task → Name → Type 0
  AppliedOrRounds j c k x = Applied (c.buckets x) j ⊎ (Rounds k.pc × (held k ≡ x))

  pub record Inv (c : Cells) (tasks : ℕ → Task) : Type 0 where
    pub directory : Coherent s.depth (copy_of c.directory.value)
    pub tickets : (a j : ℕ) → ((leaf_body c a).settled j).ticket ≤ ticket_of (c.slots j)
    pub bits_applied : (x : Name) (j : ℕ) → j < s.workers → AppliedOrRounds j c (tasks j) x
    pub own : (j : ℕ) → j < s.workers → Own c j (tasks j)
    pub view : (j p : ℕ) → j < s.workers → p < s.workers → View j c (tasks p)
    pub pair : (j p : ℕ) → j < s.workers → p < s.workers → Pair j c (tasks j) (tasks p)
