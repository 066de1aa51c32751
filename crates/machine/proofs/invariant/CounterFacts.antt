-- Facts of the program counter: what is said of a worker by the step to come, and which fact follows from which. Rests on the counter.
use Prim.Native.Nat.{ℕ, ◌<◌}
use mathlib.Core.Path.{refl}
use mathlib.Core.Logic.{◌≢◌}
use Rattle.machine.specs.Counter.{Two, one, two, BStep, read_s, read_t, swap, slot_b, DStep, copy_d, swap_d, slot_d, state, PC, read_d, flip, check_d, check_s, in_b, in_d, in_pass}
use Rattle.machine.proofs.invariant.Counter.{after_b, after_d, UnderWay}
use Rattle.machine.specs.Passed.{in_buckets, in_directory, since_state, since_copy, PastState, HoldsBucket}

-- ---- pass and round

abbrev pub IsTwo : Two → Type 0
IsTwo one = ⊥
IsTwo two = Unit {0}

abbrev pub EitherTwo : Two → Two → Type 0
EitherTwo one r = IsTwo r
EitherTwo two r = Unit {0}

abbrev pub BothTwo : Two → Two → Type 0
BothTwo one r = ⊥
BothTwo two r = IsTwo r

-- in round one: what was read, with stamp i, has been swapped since
abbrev pub Outdated : Two → ℕ → ℕ → Type 0
Outdated one i now = i ≢ now
Outdated two i now = Unit {0}

-- ---- what a worker has done

-- in the rounds of the bucket pass, its toggle bit flipped
abbrev pub Rounds : PC → Type 0
Rounds = in_buckets (λ r x. Unit {0})

abbrev ToggleReadB : BStep → Type 0
ToggleReadB read_s = ⊥
ToggleReadB read_t = ⊥
ToggleReadB swap = Unit {0}
ToggleReadB (slot_b i) = Unit {0}

-- it has read a toggle
abbrev pub HasToggle : PC → Type 0
HasToggle = in_buckets (λ r. ToggleReadB)

abbrev pub SlotReadB : ℕ → ℕ → BStep → Type 0
SlotReadB n j read_s = ⊥
SlotReadB n j read_t = ⊥
SlotReadB n j swap = j < n
SlotReadB n j (slot_b i) = j < i

-- in a round of the bucket pass it has read slot j
abbrev pub HasSlotB : ℕ → ℕ → PC → Type 0
HasSlotB n j = in_buckets (λ r. SlotReadB n j)

abbrev pub SlotReadD : ℕ → ℕ → DStep → Type 0
SlotReadD n j copy_d = ⊥
SlotReadD n j swap_d = j < n
SlotReadD n j (slot_d i) = j < i
SlotReadD n j (state i) = j < n

-- in a round of the directory pass it has read slot j
abbrev pub HasSlotD : ℕ → ℕ → PC → Type 0
HasSlotD n j = in_directory (λ p r. SlotReadD n j)

abbrev pub FlipSeenB : Two → ℕ → ℕ → BStep → Type 0
FlipSeenB r i now = since_state (IsTwo r) (Outdated r i now)

-- so far in the bucket pass that whoever can still swap at its bucket has seen its flip; i: the stamp it has read, now: the bucket's
abbrev pub FlipSeen : ℕ → ℕ → PC → Type 0
FlipSeen i now = in_buckets (λ r. FlipSeenB r i now)

abbrev pub AnnouncedBefore : Two → Two → ℕ → ℕ → Type 0
AnnouncedBefore one r i now = Outdated r i now
AnnouncedBefore two r i now = Unit {0}

abbrev pub UpdateSeenD : Two → Two → ℕ → ℕ → DStep → Type 0
UpdateSeenD p r i now = since_copy (EitherTwo p r) (AnnouncedBefore p r i now)

-- so far that whoever can still swap the directory, and has read its slot, has read its update; i, now: the directory's stamps
abbrev pub UpdateSeen : ℕ → ℕ → PC → Type 0
UpdateSeen i now = in_pass ⊥ IsTwo EitherTwo (λ p r x. IsTwo p) (λ p r. UpdateSeenD p r i now)

abbrev pub BlockedBefore : Two → Two → ℕ → ℕ → Type 0
BlockedBefore one r i now = ⊥
BlockedBefore two r i now = Outdated r i now

abbrev pub BucketSplitD : Two → Two → ℕ → ℕ → DStep → Type 0
BucketSplitD p r i now = since_copy (BothTwo p r) (BlockedBefore p r i now)

-- in pass two's directory pass, so far that whoever can still swap the directory splits its bucket
abbrev pub BucketSplit : ℕ → ℕ → PC → Type 0
BucketSplit i now = in_directory (λ p r. BucketSplitD p r i now)

-- in the second round of the bucket pass, past its state read
abbrev pub Second : PC → Type 0
Second = in_buckets (λ r x. IsTwo r × since_state ⊥ (Unit {0}) x)

-- in the second round of pass two's directory pass, past the directory read
abbrev pub LastRound : PC → Type 0
LastRound = in_directory (λ p r x. BothTwo p r × since_copy ⊥ (Unit {0}) x)

-- ---- which fact follows from which

pub under_after_b : (p r : Two) → UnderWay (after_b p r)
under_after_b p one = tt
under_after_b p two = tt

pub under_after_d : (p r : Two) → UnderWay (after_d p r)
under_after_d p one = tt
under_after_d p two = tt

pub slot_toggle : (n j : ℕ) (pc : PC) → HasSlotB n j pc → HasToggle pc
slot_toggle n j (in_b p r swap) h = tt
slot_toggle n j (in_b p r (slot_b i)) h = tt
slot_toggle n j _ h = elim h [ ]

pub past_slot : (n j : ℕ) (pc : PC) → j < n → PastState n j pc → HasSlotD n j pc
past_slot n j (in_d p r swap_d) l h = l
past_slot n j (in_d p r (state i)) l h = l
past_slot n j _ l h = elim h [ ]

pub rounds_under : (pc : PC) → Rounds pc → UnderWay pc
rounds_under (in_b p r x) h = tt
rounds_under _ h = elim h [ ]

-- what has just been read is outdated in no round one
pub outdated_now : (r : Two) (now : ℕ) → Outdated r now now → IsTwo r
outdated_now one now h = absurd (h refl)
outdated_now two now h = tt

pub flip_seen_rounds : (i now : ℕ) (pc : PC) → FlipSeen i now pc → Rounds pc
flip_seen_rounds i now (in_b p r x) h = tt
flip_seen_rounds i now _ h = elim h [ ]

pub toggle_rounds : (pc : PC) → HasToggle pc → Rounds pc
toggle_rounds (in_b p r x) h = tt
toggle_rounds _ h = elim h [ ]

pub rounds_holds : (pc : PC) → Rounds pc → HoldsBucket pc
rounds_holds (in_b p r x) h = tt
rounds_holds _ h = elim h [ ]

pub update_seen_under : (i now : ℕ) (pc : PC) → UpdateSeen i now pc → UnderWay pc
update_seen_under i now (read_d p) h = tt
update_seen_under i now (flip p) h = tt
update_seen_under i now (check_d p c) h = tt
update_seen_under i now (check_s p c) h = tt
update_seen_under i now (in_b p r x) h = tt
update_seen_under i now (in_d p r x) h = tt
update_seen_under i now _ h = elim h [ ]

pub update_seen_before : (p r : Two) (i now : ℕ) → UpdateSeen i now (after_b p r) → UpdateSeen i now (in_b p r swap)
update_seen_before p one i now h = h
update_seen_before one two i now h = h
update_seen_before two two i now h = h

-- in pass two its update was announced in pass one
pub update_seen_two : (p r : Two) (i now : ℕ) (x : DStep) → IsTwo p → UpdateSeenD p r i now x
update_seen_two two r i now copy_d h = tt
update_seen_two two r i now swap_d h = tt
update_seen_two two r i now (slot_d m) h = tt
update_seen_two two r i now (state m) h = tt
update_seen_two one r i now _ h = elim h [ ]

pub second_rounds : (pc : PC) → Second pc → Rounds pc
second_rounds (in_b p r x) h = tt
second_rounds _ h = elim h [ ]

pub second_flip_seen : (i now : ℕ) (pc : PC) → Second pc → FlipSeen i now pc
second_flip_seen i now (in_b p one x) h = absurd h.0
second_flip_seen i now (in_b p two read_s) h = tt
second_flip_seen i now (in_b p two read_t) h = tt
second_flip_seen i now (in_b p two swap) h = tt
second_flip_seen i now (in_b p two (slot_b l)) h = tt
second_flip_seen i now _ h = elim h [ ]

-- a directory that is read now is still current
pub announced_now : (p r : Two) (i : ℕ) → AnnouncedBefore p r i i → EitherTwo p r
announced_now one one i h = h refl
announced_now one two i h = tt
announced_now two r i h = tt

pub blocked_now : (p r : Two) (i : ℕ) → BlockedBefore p r i i → BothTwo p r
blocked_now two one i h = h refl
blocked_now two two i h = tt
blocked_now one r i h = elim h [ ]

-- one that was read has been swapped since
pub announced_since : (p r : Two) {i now : ℕ} → i ≢ now → AnnouncedBefore p r i now
announced_since one one h = h
announced_since one two h = tt
announced_since two r h = tt

pub blocked_since : (p : Two) {i now : ℕ} → i ≢ now → BothTwo p two → BlockedBefore p one i now
blocked_since two h l = h
blocked_since one h l = elim l [ ]

-- past the last directory read, everybody has read its update and splits its bucket
pub last_bucket_split : (m now : ℕ) (pc : PC) → LastRound pc → BucketSplit m now pc × UpdateSeen m now pc
last_bucket_split m now (in_d one r x) h = absurd h.0
last_bucket_split m now (in_d two one x) h = absurd h.0
last_bucket_split m now (in_d two two copy_d) h = absurd h.1
last_bucket_split m now (in_d two two swap_d) h = (tt, tt)
last_bucket_split m now (in_d two two (slot_d l)) h = (tt, tt)
last_bucket_split m now (in_d two two (state l)) h = (tt, tt)
last_bucket_split m now _ h = elim h [ ]
