-- The steps that change only the worker's own task keep the invariant: a call, the two steps of a lookup, the reading steps of the bucket
-- pass, a bucket swap that fails, and the checks. Rests on the first way to keep the invariant and on the transitions.
use Prim.Native.Nat.{ℕ, suc, ◌≤◌, ◌<◌}
use native.Mathlib.Omega.{arith}
use mathlib.Core.Path.{◌≡◌, refl, ap, sym, subst}
use mathlib.Core.Logic.{inl, inr, ⊎_elim}
use mathlib.Core.Bool.{Bool}
use Rattle.std.specs.Prelude.{Option, Some, None}
use borrow.Author.Tests.{leb-true, leb-false}
use Rattle.interface.specs.declared.Settings.{Settings}
use Rattle.interface.specs.declared.Answer.{Answer}
use Rattle.machine.specs.Choice.{assign}
use Rattle.machine.specs.Sequential.{Update, update, lookup}
use Rattle.machine.specs.Records.{Name, Body, State, Stamped, Slot, Cells}
use Rattle.machine.specs.BucketPass.{settled_at, checked}
use Rattle.machine.specs.DirectoryPass.{copy_of}
use Rattle.machine.specs.Steps.{with_directory, with_state, with_toggle, with_slot}
use Rattle.machine.proofs.laws.Base.{if_elim, assign_elim, by_bit, none_some}
use Rattle.machine.proofs.laws.Copies.{Coherent, partition_name, partition_of}
use Rattle.machine.specs.Counter.{Two, one, two, BStep, read_s, read_t, swap, slot_b, PC, idle, announce, look₁, look₂, read_d, flip, check_d, check_s, in_b}
use Rattle.machine.proofs.invariant.Counter.{after_b, after_c}
use Rattle.machine.proofs.invariant.CounterFacts.{IsTwo, Rounds, HasToggle, SlotReadB, HasSlotD, FlipSeenB, UpdateSeen, BucketSplit, slot_toggle, past_slot, outdated_now, flip_seen_rounds, toggle_rounds, update_seen_before}
use Rattle.machine.specs.Tasks.{Task, target, held, own}
use Rattle.machine.proofs.invariant.Inv.{HeldOrSettled, SettledOrBlocked, BlockedOrSettled, HeldOrSuperseded, body, Fresh, Applied, SeesFlip, ticket_of, SettledIn, SettledSlot, OwnSettled, Hold, SeenState, SeenAt, InRound, CheckFacts, CheckFactsHere, Announced, Own, View, Pair, AppliedOrRounds}
use Rattle.machine.proofs.invariant.Preservation.{goes, Reading, announced_on, old_read}
use Rattle.machine.proofs.invariant.Transitions.{ended_task}

-- ---- tasks

-- the task with another state, toggle and slots read
abbrev with_read : Task → PC → Stamped State → (ℕ → Bool) → (ℕ → Slot) → Task
with_read k pc x toggle slots =
    goes k pc (record { directory = k.reads.directory; state = x; toggle = toggle; slots = slots; copy = k.reads.copy })

-- two tasks that hold one bucket
pub own_held : (c : Cells) (k q : Task) → held q ≡ held k → own c q ≡ own c k
own_held c k q e = ap c.buckets e

-- ---- what a check says of worker j's ticket t, of a bucket with body b

module _ (j t : ℕ) (b : Body) where
  -- by cases: settled, or no answer yet
  check_elim :
      (P : Option Answer → Type 0) → (SettledIn j t b → P (Some (b.settled j).answer)) → ((b.settled j).ticket < t → P None)
      → P (checked j t b)
  unfolding checked settled_at
  check_elim P x y = if_elim P (settled_at b j t) _ _ (λ e. x (leb-true t _ e)) (λ e. y (leb-false t _ e))

  -- an answer is the settled ticket's
  pub check_settled : (r : Answer) → checked j t b ≡ Some r → SettledIn j t b × (r ≡ (b.settled j).answer)
  check_settled r =
      check_elim (λ o. o ≡ Some r → SettledIn j t b × (r ≡ (b.settled j).answer)) (λ l h. (l, cc)) (λ l h. absurd (none_some refl h))

  -- what is settled is answered
  check_none : checked j t b ≡ None → SettledIn j t b → ⊥
  check_none = check_elim (λ o. o ≡ None → SettledIn j t b → ⊥) (λ l h x. none_some h refl) (λ l h x. omega arith)

module _ (s : Settings) (w : ℕ) (c : Cells) where
  -- ---- facts that a step carries on

  seen_on :
      {r : Two} {k : Task} {pc : PC} {toggle : ℕ → Bool} {slots : ℕ → Slot}
      → SeenState s r c w k → SeenState s r c w (with_read k pc k.reads.state toggle slots)
  seen_on h = record { bounded = h.bounded; same = h.same; second = h.second }

  round_on :
      {p r r' : Two} {x x' : BStep} {k : Task} {pc : PC} {state : Stamped State} {toggle : ℕ → Bool} {slots : ℕ → Slot}
      → InRound s p r x c w k → SeenAt s r' x' c w (with_read k pc state toggle slots)
      → InRound s p r' x' c w (with_read k pc state toggle slots)
  round_on o seen =
      let h = o.hold in
      record { hold = record { named = h.named; depth = h.depth; is = h.is }; pass = o.pass; applied = o.applied; seen = seen }

  -- ---- three forms of such a step

  -- k' has read no slot for the directory pass, and knows of it no more than k
  abbrev pub OutsideDirectory : Task → Task → Type 0
  OutsideDirectory k k' =
      (k'.reads.slots ≡ k.reads.slots) × ((j : ℕ) → HasSlotD s.workers j k'.pc → ⊥)
      × (BucketSplit k'.reads.directory.stamp c.directory.stamp k'.pc → ⊥)
      × (UpdateSeen k'.reads.directory.stamp c.directory.stamp k'.pc
      → UpdateSeen k.reads.directory.stamp c.directory.stamp k.pc)

  -- To a counter at which no toggle has been read.
  without_toggle :
      (k k' : Task) → OutsideDirectory k k' → (HasToggle k'.pc → ⊥) → ((q : Task) → Pair s w c k q → SeesFlip c w k' q)
      → ((x : Name) → Own s c w k → AppliedOrRounds s w c k x → AppliedOrRounds s w c k' x) → (Own s c w k → Own s c w k')
      → Reading s w c k k'
  without_toggle k k' plain no_toggle sees_flip bits_applied me = record {
    own = λ o q. me o;
    view = λ j jn v. record {
      bit = λ x. absurd (no_toggle x);
      slot = λ x. absurd (no_toggle (slot_toggle s.workers j k'.pc x));
      old = rw plain.0 v.old;
    };
    bits_applied = bits_applied;
    pair_me = λ q h. record { sees_flip = sees_flip q h; seen = λ l. h.seen (plain.3 l); splits_bucket = λ l. absurd (plain.2 l) };
    pair = λ j jn q oj o h. record {
      sees_flip = λ l d e x. absurd (no_toggle x);
      seen = λ l x. absurd (plain.1 j x);
      splits_bucket = λ l x. absurd (plain.1 j (past_slot s.workers j k'.pc jn x));
    };
  }

  -- Outside the rounds of the bucket pass.
  pub outside_rounds :
      (k k' : Task) → OutsideDirectory k k' → (Rounds k.pc → ⊥) → (Rounds k'.pc → ⊥) → (Own s c w k → Own s c w k')
      → Reading s w c k k'
  outside_rounds k k' plain before after me = without_toggle k k' plain
      (λ x. after (toggle_rounds k'.pc x)) (λ q h l. absurd (after (flip_seen_rounds _ _ k'.pc l)))
      (λ x o. ⊎_elim inl (λ h. absurd (before h.0))) me

  -- From a counter in a round, past the state read, to one with a toggle and slots.
  within_round :
      (k : Task) (p r : Two) (x x' : BStep) (toggle : ℕ → Bool) (slots : ℕ → Slot)
      → (SeenAt s r x c w (goes k (in_b p r x) k.reads) → SeenAt s r x' c w (with_read k (in_b p r x') k.reads.state toggle slots))
      → ((j : ℕ) → View s j c (goes k (in_b p r x) k.reads) → View s j c (with_read k (in_b p r x') k.reads.state toggle slots))
      → (FlipSeenB r k.reads.state.stamp (own c k).state.stamp x' → FlipSeenB r k.reads.state.stamp (own c k).state.stamp x)
      → ((j : ℕ) (q : Task) → Pair s j c q (goes k (in_b p r x) k.reads)
      → SeesFlip c j q (with_read k (in_b p r x') k.reads.state toggle slots))
      → Reading s w c (goes k (in_b p r x) k.reads) (with_read k (in_b p r x') k.reads.state toggle slots)
  within_round k p r x x' toggle slots seen view late sees_flip = record {
    own = λ o q. record { ticket = o.ticket; slot = announced_on o.slot; read = round_on o.read (seen o.read.seen) };
    view = λ j jn. view j;
    bits_applied = λ y o h. h;
    pair_me = λ q h. record { sees_flip = λ l. h.sees_flip (late l); seen = h.seen; splits_bucket = λ l. absurd l };
    pair = λ j jn q oj o h. record { sees_flip = sees_flip j q h; seen = λ l y. absurd y; splits_bucket = λ l y. absurd y };
  }

  -- ---- past a swap

  -- after the second round of pass two: the bucket held is the account's, and has settled the update or holds it back
  blocked_or_settled :
      (k : Task) → HeldOrSettled c w k → SettledOrBlocked s w k.ticket (held k).depth (body c (held k)) → BlockedOrSettled s c w k
  blocked_or_settled k (inr h) x = inr h
  blocked_or_settled k (inl e) (inl x) = inr (rw e at x)
  blocked_or_settled k (inl e) (inr x) = inl (rw e at x)

  -- Past any swap of round one, or one of round two that has taken the worker's bit up.
  pub past_swap :
      (k : Task) (p r : Two) → Announced s c w k → InRound s p r swap c w k → ticket_of (c.slots w) ≤ k.ticket
      → (IsTwo r → Applied (own c k) w)
      → Own s c w (goes k (after_b p r) k.reads)
  past_swap k p one a o l f = record { ticket = l; slot = announced_on a; read = round_on o tt }
  past_swap k one two a o l f = record { ticket = l; slot = announced_on a; read = tt }
  past_swap k two two a o l f = record { ticket = l; slot = announced_on a; read = blocked_or_settled k (o.pass tt) (o.applied (f tt)) }

  pub bits_applied_past_swap :
      (k : Task) (p r : Two) (x : Name) → (IsTwo r → Applied (own c k) w) → AppliedOrRounds s w c k x
      → AppliedOrRounds s w c (goes k (after_b p r) k.reads) x
  bits_applied_past_swap k p r x f (inl h) = inl h
  bits_applied_past_swap k p one x f (inr h) = inr (tt, h.1)
  bits_applied_past_swap k p two x f (inr h) = inl (subst (λ y. Applied (c.buckets y) w) h.1 (f tt))

  module _ (k : Task) where
    -- ---- a call, and the end of a lookup

    pub called_update :
        (u : Update)
        → Reading s w c (goes k idle k.reads)
        (record { pc = announce; operation = Some (update u); ticket = suc k.ticket; reads = k.reads })
    called_update u = outside_rounds _ _ (refl, λ j x. x, λ x. x, λ x. x) (λ x. x) (λ x. x) (λ o. record {
      ticket = omega (arith, o.ticket);
      slot = record { wanted = u; asks = refl; settled = o.slot.1; newer = omega (arith, o.ticket) };
      read = tt;
    })

    pub called_lookup :
        (a : ℕ) → Reading s w c (goes k idle k.reads)
        (record { pc = look₁; operation = Some (lookup a); ticket = k.ticket; reads = k.reads })
    called_lookup a = outside_rounds _ _ (refl, λ j x. x, λ x. x, λ x. x) (λ x. x) (λ x. x)
        (λ o. record { ticket = o.ticket; slot = record { wanted = a; asks = refl; settled = o.slot.1 }; read = tt })

    pub look₂_ok : Reading s w c (goes k look₂ k.reads) (ended_task k k.reads)
    look₂_ok = outside_rounds _ _ (refl, λ j x. x, λ x. x, λ x. x) (λ x. x) (λ x. x)
        (λ o. record { ticket = o.ticket; slot = (refl, o.slot.settled); read = tt })

    -- ---- a round of the bucket pass

    pub read_s_ok :
        (p r : Two) → Reading s w c (goes k (in_b p r read_s) k.reads) (goes k (in_b p r read_t) (with_state k.reads (own c k).state))
    unfolding with_state
    read_s_ok p r =
        without_toggle _ _ (refl, λ j x. x, λ x. x, λ x. x) (λ x. x) (λ q h l. h.sees_flip (outdated_now r (own c k).state.stamp l))
        (λ x o h. h)
        (λ o. record {
          ticket = o.ticket;
          slot = announced_on o.slot;
          read = round_on o.read (record { bounded = omega arith; same = λ e. refl; second = λ x d. refl });
        })

    pub read_t_ok :
        (p r : Two) → Reading s w c (goes k (in_b p r read_t) k.reads)
        (goes k (in_b p r (slot_b 0)) (with_toggle k.reads (own c k).toggle))
    unfolding with_toggle
    read_t_ok p r = within_round k p r read_t (slot_b 0) (own c k).toggle k.reads.slots seen_on
        (λ j v. record { bit = λ x f a. refl; slot = λ x. absurd (omega arith); old = v.old })
        (λ l. l) (λ j q h l d e x f. ap (λ b. b.toggle j) (own_held c q k e))

    slot_view :
        (p r : Two) (i j : ℕ) (x : BStep) → (SlotReadB s.workers j x → j < suc i) → View s j c (goes k (in_b p r (slot_b i)) k.reads)
        → View s j c (with_read k (in_b p r x) k.reads.state k.reads.toggle (assign k.reads.slots i (c.slots i)))
    slot_view p r i j x saw v = record {
      bit = λ y. v.bit tt;
      slot = λ y f d e. assign_elim (λ z. z ≡ c.slots j) k.reads.slots i (c.slots i) j
          (λ g. ap c.slots (sym g)) (λ g. v.slot (omega (arith, saw y)) f d e);
      old = old_read c j k.reads.slots i v.old;
    }

    pub slot_b_more :
        (p r : Two) (i : ℕ)
        → Reading s w c (goes k (in_b p r (slot_b i)) k.reads) (goes k (in_b p r (slot_b (suc i))) (with_slot k.reads i (c.slots i)))
    unfolding with_slot
    slot_b_more p r i = within_round k p r (slot_b i) (slot_b (suc i)) k.reads.toggle (assign k.reads.slots i (c.slots i)) seen_on
        (λ j. slot_view p r i j (slot_b (suc i)) (λ y. y)) (λ l. l) (λ j q h l d e x. h.sees_flip l d e tt)

    pub slot_b_last :
        (p r : Two) (i : ℕ) → s.workers ≤ suc i
        → Reading s w c (goes k (in_b p r (slot_b i)) k.reads) (goes k (in_b p r swap) (with_slot k.reads i (c.slots i)))
    unfolding with_slot
    slot_b_last p r i n = within_round k p r (slot_b i) swap k.reads.toggle (assign k.reads.slots i (c.slots i)) seen_on
        (λ j. slot_view p r i j swap (λ y. omega arith)) (λ l. l) (λ j q h l d e x. h.sees_flip l d e tt)

    -- in round two a swap fails only if the worker's bit has been taken up
    missed_up : (p r : Two) → (Fresh c k → ⊥) → Own s c w (goes k (in_b p r swap) k.reads) → IsTwo r → Applied (own c k) w
    missed_up p r d o x = by_bit _ _ (λ e. e) (λ t. absurd (d (o.read.seen.second x t)))

    pub missed_ok : (p r : Two) → (Fresh c k → ⊥) → Reading s w c (goes k (in_b p r swap) k.reads) (goes k (after_b p r) k.reads)
    missed_ok p one d = without_toggle _ _ (refl, λ j x. x, λ x. x, update_seen_before p one 0 0) (λ x. x) (λ q h l. h.sees_flip d)
        (λ x o. bits_applied_past_swap (goes k (in_b p one swap) k.reads) p one x (missed_up p one d o))
        (λ o. past_swap _ p one o.slot o.read o.ticket (missed_up p one d o))
    missed_ok p two d = without_toggle _ _ (refl, λ j x. x, λ x. x, update_seen_before p two 0 0) (λ x. x) (λ q h l. absurd l)
        (λ x o. bits_applied_past_swap (goes k (in_b p two swap) k.reads) p two x (missed_up p two d o))
        (λ o. past_swap _ p two o.slot o.read o.ticket (missed_up p two d o))

    -- ---- a check without answer

    pub unanswered_ok :
        (p x : Two) → checked w k.ticket (body c (held k)) ≡ None
        → Reading s w c (goes k (check_s p x) k.reads) (goes k (after_c p x) k.reads)
    unanswered_ok one one e = outside_rounds _ _ (refl, λ j y. y, λ y. y, λ y. y) (λ y. y) (λ y. y)
        (λ o. record {
          ticket = o.ticket;
          slot = announced_on o.slot;
          read = record { blocked = λ y. absurd y; read = tt; round = tt };
        })
    unanswered_ok two one e = outside_rounds _ _ (refl, λ j y. y, λ y. y, λ y. y) (λ y. y) (λ y. y)
        (λ o. record {
          ticket = o.ticket;
          slot = announced_on o.slot;
          read = record { blocked = λ y. o.read.1; read = tt; round = tt };
        })
    unanswered_ok one two e = outside_rounds _ _ (refl, λ j y. y, λ y. y, λ y. y) (λ y. y) (λ y. y)
        (λ o. record { ticket = o.ticket; slot = announced_on o.slot; read = tt })
    unanswered_ok two two e = outside_rounds _ _ (refl, λ j y. y, λ y. y, λ y. absurd y) (λ y. y) (λ y. y)
        (λ o. absurd (check_none w k.ticket (body c (held k)) e o.read.1))

    -- ---- the directory's reads, and a check with an answer

    check_facts_here :
        (p x : Two) → CheckFacts s p x c w (goes k (check_d p x) k.reads)
        → CheckFactsHere s p x c w (goes k (check_s p x) (with_directory k.reads c.directory))
    unfolding with_directory
    check_facts_here one x d = tt
    check_facts_here two one d = d
    check_facts_here two two d = d

    settled_slot : (pc : PC) → Announced s c w (goes k pc k.reads) → OwnSettled c w k → SettledSlot c w (c.slots w)
    settled_slot pc a h = rw a.slot (rw a.asks at h)

    module _ (current : Coherent s.depth (copy_of c.directory.value)) where
      hold_now : (pc : PC) → Hold s c w (goes k pc (with_directory k.reads c.directory))
      unfolding with_directory
      hold_now pc = record { named = partition_name (partition_of _ current) (target k); depth = omega arith; is = inl refl }

      pub look₁_ok : Reading s w c (goes k look₁ k.reads) (goes k look₂ (with_directory k.reads c.directory))
      unfolding with_directory
      look₁_ok = outside_rounds _ _ (refl, λ j x. x, λ x. x, λ x. x) (λ x. x) (λ x. x) (λ o. record {
        ticket = o.ticket;
        slot = record { wanted = o.slot.wanted; asks = o.slot.asks; settled = o.slot.settled };
        read = hold_now look₂;
      })

      pub read_d_ok : (p : Two) → Reading s w c (goes k (read_d p) k.reads) (goes k (flip p) (with_directory k.reads c.directory))
      unfolding with_directory
      read_d_ok p = outside_rounds _ _ (refl, λ j x. x, λ x. x, λ x. x) (λ x. x) (λ x. x)
          (λ o. record { ticket = o.ticket; slot = announced_on o.slot; read = (hold_now (flip p), λ x. inl refl) })

      pub check_d_ok :
          (p x : Two) → Reading s w c (goes k (check_d p x) k.reads) (goes k (check_s p x) (with_directory k.reads c.directory))
      unfolding with_directory
      check_d_ok p x = outside_rounds _ _ (refl, λ j y. y, λ y. y, λ y. y) (λ y. y) (λ y. y)
          (λ o. record {
            ticket = o.ticket;
            slot = announced_on o.slot;
            read = (hold_now (check_s p x), check_facts_here p x o.read);
          })

      -- what is settled at the bucket held is settled at the account's
      settled_here : (pc : PC) → Hold s c w (goes k pc k.reads) → SettledIn w k.ticket (body c (held k)) → OwnSettled c w k
      settled_here pc o = go o.is
        where
          go : HeldOrSuperseded s c w k → SettledIn w k.ticket (body c (held k)) → OwnSettled c w k
          go (inl e) x = rw e at x
          go (inr g) x = rw (g.settled x) x

      -- an update that is answered is settled
      pub check_settles :
          (p x : Two) → Own s c w (goes k (check_s p x) k.reads)
          → (r : Answer) → checked w k.ticket (body c (held k)) ≡ Some r → OwnSettled c w k
      check_settles p x o r e = settled_here (check_s p x) o.read.0 (check_settled w _ _ r e).0

      pub answered_ok :
          (p x : Two) (r : Answer) → checked w k.ticket (body c (held k)) ≡ Some r
          → Reading s w c (goes k (check_s p x) k.reads) (ended_task k k.reads)
      answered_ok p x r e = outside_rounds _ _ (refl, λ j y. y, λ y. y, λ y. absurd y) (λ y. y) (λ y. y)
          (λ o. record { ticket = o.ticket; slot = (refl, settled_slot (check_s p x) o.slot (check_settles p x o r e)); read = tt })
