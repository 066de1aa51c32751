-- A swap of a bucket's state that succeeds keeps the invariant.
-- Rests on what a round makes of a bucket's body, on the theory of a change of the shared cells, and on a swap that fails.
use Prim.Native.Nat.{ℕ, suc, ◌≤◌, ◌<◌}
use native.Mathlib.Omega.{arith}
use mathlib.Core.Path.{◌≡◌, refl, ap, sym, ◌∙◌, subst}
use mathlib.Core.Logic.{◌≢◌, ◌↔◌, ◌⊎◌, inl, inr, ⊎_elim}
use mathlib.Core.Bool.{Bool, true, false, not, xor}
use borrow.Author.Tests.{leb-true}
use Rattle.interface.specs.declared.Settings.{Settings}
use Rattle.machine.specs.Choice.{assign}
use Rattle.machine.specs.Sequential.{Update}
use Rattle.machine.specs.Records.{Name, Body, State, Bucket, Slot, empty, announced, Cells}
use Rattle.machine.specs.BucketPass.{holds_back, settled_at, pending, helped, next_state}
use Rattle.machine.specs.Steps.{assign_bucket, assign_state}
use Rattle.machine.proofs.laws.Base.{no_both, and_true, and_parts, not_both, by_bit}
use Rattle.machine.proofs.laws.Cells.{bucket_elim}
use Rattle.machine.specs.Counter.{Two, swap, slot_b, PC, in_b}
use Rattle.machine.proofs.invariant.Counter.{after_b}
use Rattle.machine.proofs.invariant.CounterFacts.{Rounds, HasToggle, Second, slot_toggle, rounds_under, second_flip_seen}
use Rattle.machine.specs.Tasks.{Task, leaf, held, own}
use Rattle.machine.proofs.invariant.Inv.{body, leaf_body, Fresh, Applied, Pending, ticket_of, SettledOrBlocked, InRound, ReadFacts, Own, SeesFlip, View, AppliedOrRounds, Inv}
use Rattle.machine.proofs.invariant.Preservation.{goes, Reading, reading, under_announced}
use Rattle.machine.proofs.laws.Resolve.{SettledChange, settled_same, settled_new, settled_change_le, calls, Helped, helped_ok}
use Rattle.machine.proofs.invariant.Change.{same_directory, Evolves, same_bucket, KeptBucket, BucketsChanged, own_move, old_move, tickets_move, pair_move, same_swap_settles}
use Rattle.machine.proofs.invariant.Transitions.{swapped_cells}
use Rattle.machine.proofs.steps.BucketSteps.{missed_ok}

-- ---- bits

xor_differ : (x y : Bool) → (xor x y ≡ true) ↔ (x ≡ not y)
unfolding xor
xor_differ true true = (λ e. absurd (no_both e refl), λ e. absurd (no_both refl e))
xor_differ true false = (λ e. refl, λ e. refl)
xor_differ false true = (λ e. refl, λ e. refl)
xor_differ false false = (λ e. absurd (no_both e refl), λ e. absurd (no_both e refl))

-- ---- what a round does for a worker

pub called_flip : (x : State) (toggle : ℕ → Bool) (j : ℕ) (y : Slot) → calls x toggle j y ≡ true → toggle j ≡ not (x.applied j)
unfolding pending
called_flip x toggle j empty e = absurd (no_both e refl)
called_flip x toggle j (announced u t) e = (xor_differ _ _).0 (and_parts _ _ e).0

-- a round settles an announced update whose flip it has seen, or the bucket holds it back
taken_settled :
    {s : Settings} {d : ℕ} {x : State} {toggle : ℕ → Bool} {slots : ℕ → Slot} {n : ℕ} {b : Body} (j t : ℕ) (u : Update)
    → Helped s d x toggle slots n b → j < n → toggle j ≡ not (x.applied j) → slots j ≡ announced u t → SettledOrBlocked s j t d b
unfolding pending settled_at
taken_settled {s} {d} {x} {toggle} {slots} {n} {b} j t u h l g e = test (settled_at x.body j t) refl
  where
    done : ((b.settled j).ticket ≡ ticket_of (slots j)) ⊎ (holds_back s d b ≡ true) → SettledOrBlocked s j t d b
    done (inl y) = inl (omega (arith, ap ticket_of e))
    done (inr y) = inr y

    test : (v : Bool) → settled_at x.body j t ≡ v → SettledOrBlocked s j t d b
    test true y = inl (omega (arith, leb-true t (x.body.settled j).ticket y, settled_change_le (h.settled_change j)))
    test false y = done (h.served j l (rw e (and_true ((xor_differ _ _).1 g) (rw y))))

-- ---- what a worker has read

module _ (s : Settings) (c : Cells) (j : ℕ) (k : Task) where
  -- whoever has read a toggle has read a state
  bounded : (pc : PC) → HasToggle pc → ReadFacts s pc c j k → k.reads.state.stamp ≤ (own c k).state.stamp
  bounded (in_b p r swap) h f = f.seen.bounded
  bounded (in_b p r (slot_b l)) h f = f.seen.bounded
  bounded _ h f = elim h [ ]

-- ---- the swap

-- the bucket's body that task k's round has made
abbrev pub round_body : Settings → Task → Body
round_body s k = helped s (held k).depth k.reads.state.value k.reads.toggle k.reads.slots s.workers

-- its bucket after the swap
abbrev pub swapped_bucket : Settings → Cells → Task → Bucket
swapped_bucket s c k =
    record {
      state = record { stamp = suc (own c k).state.stamp; value = record { body = round_body s k; applied = k.reads.toggle } };
      toggle = (own c k).toggle;
    }

-- what holds of that bucket, and of the old ones elsewhere, holds of each
pub swapped_elim :
    (s : Settings) (c : Cells) (k : Task) (P : Bucket → Type 0) (x : Name)
    → (x ≡ held k → P (swapped_bucket s c k)) → (x ≢ held k → P (c.buckets x)) → P ((swapped_cells s c k).buckets x)
unfolding assign_state next_state
swapped_elim s c k P x = bucket_elim P c (held k) (swapped_bucket s c k) x

-- the round has seen worker j's bit to differ from the applied one
abbrev pub ReadPending : Cells → Task → ℕ → Type 0
ReadPending c k j = k.reads.toggle j ≡ not ((own c k).state.value.applied j)

module _ (s : Settings) (w : ℕ) (wn : w < s.workers) (c : Cells) (tasks : ℕ → Task) (i : Inv s c tasks) (p r : Two)
    (here : (tasks w).pc ≡ in_b p r swap) (fresh : Fresh c (tasks w)) where
  abbrev k : Task
  k = tasks w

  abbrev c' : Cells
  c' = swapped_cells s c k

  abbrev old : Bucket
  old = own c k

  abbrev new : Bucket
  new = swapped_bucket s c k

  abbrev depth : ℕ
  depth = (held k).depth

  abbrev body_before : Body
  body_before = old.state.value.body

  abbrev body_after : Body
  body_after = round_body s k

  has : HasToggle k.pc
  has = rw here tt

  -- ---- whom the swap helps

  pub helped_here : Helped s (held k).depth (own c k).state.value k.reads.toggle k.reads.slots s.workers (round_body s k)
  helped_here =
      let mine : InRound s p r swap c w k = subst (λ pc. ReadFacts s pc c w k) here (i.own w wn).read in
      rw (← mine.seen.same fresh) (helped_ok s (held k).depth k.reads.state.value k.reads.toggle k.reads.slots s.workers)

  -- a bit that agrees with the applied one was seen as it is
  applied_kept : (j : ℕ) → j < s.workers → Applied old j → Applied new j
  applied_kept j jn e = sym ((i.view j w jn wn).bit has fresh e)

  -- a bit that was seen to differ differs
  pub flipped : (j : ℕ) → j < s.workers → ReadPending c k j → Pending (own c k) j
  flipped j jn h = by_bit (old.toggle j) (old.state.value.applied j) (λ e. absurd (not_both (sym (applied_kept j jn e) ∙ e) h)) (λ d. d)

  -- what is helped is what the slot holds
  pub slot_current : (j : ℕ) → j < s.workers → ReadPending c k j → k.reads.slots j ≡ c.slots j
  slot_current j jn h = let d = flipped j jn h in (i.view j w jn wn).slot (rw here jn) fresh d (h ∙ sym d)

  -- and its worker is in its rounds at this bucket
  pub in_rounds_here : (j : ℕ) → j < s.workers → ReadPending c k j → Rounds (tasks j).pc × (held (tasks j) ≡ held k)
  in_rounds_here j jn h = ⊎_elim (λ e. absurd (not_both e (flipped j jn h))) (λ y. y) (i.bits_applied (held k) j jn)

  settled_changes : (j : ℕ) → SettledChange body_before body_after (c.slots j) (Unit {0}) j
  settled_changes j = go (helped_here.settled_change j)
    where
      go :
          SettledChange body_before body_after (k.reads.slots j) ((j < s.workers)
          × (calls old.state.value k.reads.toggle j (k.reads.slots j) ≡ true)) j
          → SettledChange body_before body_after (c.slots j) (Unit {0}) j
      go (settled_same e) = settled_same e
      go (settled_new h l e) =
          let z = slot_current j h.0 (called_flip old.state.value k.reads.toggle j (k.reads.slots j) h.1) in
          settled_new tt (rw z at l) (rw z at e)

  -- a bit taken up: its worker's update is settled, or the bucket holds it back
  settles :
      (j : ℕ) → j < s.workers → Rounds (tasks j).pc → (Applied old j → SettledOrBlocked s j (tasks j).ticket depth body_before)
      → Applied new j → SettledOrBlocked s j (tasks j).ticket depth body_after
  settles j jn h f g = by_bit (old.toggle j) (old.state.value.applied j) (λ e. keep (f e)) (λ d. serve (sym g ∙ d))
    where
      keep : SettledOrBlocked s j (tasks j).ticket depth body_before → SettledOrBlocked s j (tasks j).ticket depth body_after
      keep (inl x) = inl (omega (arith, settled_change_le (settled_changes j)))
      keep (inr x) = inr (ap (holds_back s depth) (helped_here.unchanged x) ∙ x)

      serve : ReadPending c k j → SettledOrBlocked s j (tasks j).ticket depth body_after
      serve d =
          let a = under_announced s c j (tasks j) (tasks j).pc (rounds_under (tasks j).pc h) (i.own j jn).slot in
          taken_settled j (tasks j).ticket a.wanted helped_here jn d (slot_current j jn d ∙ a.slot)

  -- the bit of a worker in its second round here was seen
  second_seen : (j : ℕ) → j < s.workers → held (tasks j) ≡ held k → Second (tasks j).pc → Applied new j
  second_seen j jn e h = by_bit (old.toggle j) (old.state.value.applied j) (applied_kept j jn) (λ d. sym (sees_flip d))
    where
      sees_flip : Pending old j → k.reads.toggle j ≡ old.toggle j
      sees_flip = subst (λ x. Pending (c.buckets x) j → k.reads.toggle j ≡ (c.buckets x).toggle j) e
          (λ d. (i.pair j w jn wn).sees_flip (second_flip_seen _ _ (tasks j).pc h) d (sym e) has fresh)

  -- ---- the change

  evolves : (a : ℕ) → Evolves s c.slots (leaf c a) (leaf_body c a) (leaf c a) (body c' (leaf c a))
  evolves a = swapped_elim s c k (λ b. Evolves s c.slots (leaf c a) (leaf_body c a) (leaf c a) b.state.value.body) (leaf c a)
      (λ e. subst (λ x. Evolves s c.slots x (body c x) x body_after) (sym e)
      (same_bucket refl settled_changes helped_here.unchanged))
      (λ e. same_bucket refl (λ j. settled_same refl) (λ h. refl))

  pub buckets_changed : BucketsChanged s c (swapped_cells s c k)
  unfolding assign_state assign_bucket
  buckets_changed = record { slots = refl; directory_evolves = same_directory refl; evolves = evolves }

  pub kept_bucket :
      (j : ℕ) → j < s.workers
      → KeptBucket s j (tasks j).ticket (held (tasks j)).depth (tasks j).pc (tasks j).reads.state.stamp (own c (tasks j))
      (own (swapped_cells s c k) (tasks j))
  kept_bucket j jn = swapped_elim s c k (OwnKept (held (tasks j)) (own c (tasks j))) (held (tasks j))
      (λ e. subst (λ x. OwnKept x (c.buckets x) new) (sym e) (record {
        unchanged = helped_here.unchanged;
        later = omega arith;
        same = λ z. absurd (omega arith);
        applied = settles j jn;
        second = λ h f d. absurd (not_both (second_seen j jn e h) d);
        settled = settled_change_le (settled_changes j);
      }))
      (λ e. record {
        unchanged = λ h. refl;
        later = omega arith;
        same = λ z. refl;
        applied = λ h f. f;
        second = λ h f. f;
        settled = omega arith;
      })
    where
      OwnKept : Name → Bucket → Bucket → Type 0
      OwnKept x = KeptBucket s j (tasks j).ticket x.depth (tasks j).pc (tasks j).reads.state.stamp

  -- ---- the invariant, while the worker is still at its swap

  own_kept : (j : ℕ) → j < s.workers → Own s c' j (tasks j)
  unfolding assign_state assign_bucket
  own_kept j jn = own_move s c c' buckets_changed j (tasks j) (i.own j jn) (λ h. kept_bucket j jn) (λ h l. absurd (omega arith))
      (same_swap_settles s c c' buckets_changed refl j (tasks j) (tasks j).pc)

  bits_applied_kept : (x : Name) (j : ℕ) → j < s.workers → AppliedOrRounds s j c' (tasks j) x
  bits_applied_kept x j jn = swapped_elim s c k (λ b. Applied b j ⊎ (Rounds (tasks j).pc × (held (tasks j) ≡ x))) x
      (λ e. ⊎_elim (λ h. inl (applied_kept j jn (rw e at h))) inr (i.bits_applied x j jn)) (λ e. i.bits_applied x j jn)

  -- nobody has read the new state
  other_bucket : (q : ℕ) → q < s.workers → HasToggle (tasks q).pc → Fresh c' (tasks q) → held (tasks q) ≢ held k
  other_bucket q qn h = swapped_elim s c k (λ b. (tasks q).reads.state.stamp ≡ b.state.stamp → held (tasks q) ≢ held k) (held (tasks q))
      (λ e f g. omega (arith, bounded s c q (tasks q) (tasks q).pc h (i.own q qn).read, ap (λ x. (c.buckets x).state.stamp) e))
      (λ e f. e)

  -- a bucket whose current state somebody has read is as it was
  read_unchanged :
      (q : ℕ) → q < s.workers → HasToggle (tasks q).pc → Fresh c' (tasks q) → (x : Name) → held (tasks q) ≡ x
      → c'.buckets x ≡ c.buckets x
  read_unchanged q qn h f x e = swapped_elim s c k (λ b. b ≡ c.buckets x) x (λ g. absurd (other_bucket q qn h f (e ∙ g))) (λ g. refl)

  view_kept : (j q : ℕ) → j < s.workers → q < s.workers → View s j c' (tasks q)
  view_kept j q jn qn =
      let v = i.view j q jn qn in
      record {
        bit = λ h f a. let e = read_unchanged q qn h f (held (tasks q)) refl in rw e (v.bit h (rw e at f) (rw e at a));
        slot = λ h f d g.
            let e = read_unchanged q qn (slot_toggle s.workers j (tasks q).pc h) f (held (tasks q)) refl in
            rw buckets_changed.slots (v.slot h (rw e at f) (rw e at d) (rw e at g));
        old = old_move s c c' buckets_changed j ((tasks q).reads.slots j) v.old;
      }

  sees_flip_kept : (j q : ℕ) → j < s.workers → q < s.workers → SeesFlip c' j (tasks j) (tasks q)
  sees_flip_kept j q jn qn l d e h f =
      let z = read_unchanged q qn h f (held (tasks j)) e in
      rw z ((i.pair j q jn qn).sees_flip (rw z at l) (rw z at d) e h (rw (read_unchanged q qn h f (held (tasks q)) refl) at f))

  -- the cells changed, nobody moved
  pub swap_kept : Inv s (swapped_cells s c k) tasks
  unfolding assign_state assign_bucket
  swap_kept = record {
    directory = i.directory;
    tickets = tickets_move s c c' buckets_changed i.tickets;
    bits_applied = bits_applied_kept;
    own = own_kept;
    view = view_kept;
    pair = λ j q jn qn. pair_move s c c' buckets_changed j q (tasks j) (tasks q) (i.own q qn) (i.pair j q jn qn)
        (sees_flip_kept j q jn qn);
  }

  -- the state is no longer the one that the worker has read, so it goes on as after a swap that fails
  pub swap_ok : Inv s (swapped_cells s c k) (assign tasks w (goes k (after_b p r) k.reads))
  swap_ok = reading s w wn c' tasks (goes k (after_b p r) k.reads) swap_kept
      (subst (λ pc. Reading s w c' (goes k pc k.reads) (goes k (after_b p r) k.reads)) (sym here)
      (missed_ok s w c' k p r (λ f. other_bucket w wn has f refl)))
