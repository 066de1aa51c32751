-- The announcing step and the flip of the own toggle bit keep the invariant.
-- Rests on the theory of a change and on the laws of cells.
use Prim.Native.Nat.{ℕ, ◌≤◌, ◌<◌}
use native.Mathlib.Omega.{arith}
use mathlib.Core.Path.{◌≡◌, refl, ap, sym, ◌∙◌, subst}
use mathlib.Core.Logic.{◌≢◌, ◌⊎◌, inl, inr, ⊎_elim}
use mathlib.Core.Bool.{Bool, not}
use Rattle.std.specs.Prelude.{Some}
use Rattle.interface.specs.declared.Settings.{Settings}
use Rattle.machine.specs.Choice.{assign}
use Rattle.machine.specs.Sequential.{Update, update}
use Rattle.machine.specs.Records.{Name, State, Stamped, Slot, announced, Cells}
use Rattle.machine.specs.Steps.{assign_slot, assign_bucket, assign_toggle}
use Rattle.machine.proofs.laws.Base.{assign_at, assign_other, assign_elim, not_both}
use Rattle.machine.proofs.laws.Cells.{bucket_elim}
use Rattle.machine.specs.Counter.{Two, one, read_s, PC, announce, read_d, flip, in_b}
use Rattle.machine.proofs.invariant.CounterFacts.{Rounds, HasToggle, HasSlotB, FlipSeen, slot_toggle}
use Rattle.machine.specs.Tasks.{Task, leaf, held, own}
use Rattle.machine.proofs.invariant.Inv.{leaf_body, Fresh, Applied, ticket_of, SettledSlot, OldSlot, Hold, HoldsLeaf, Announced, Calling, SlotFacts, ReadFacts, Own, View, Pair, Inv}
use Rattle.machine.proofs.invariant.Preservation.{goes, Writing, announced_on}
use Rattle.machine.proofs.laws.Resolve.{settled_same}
use Rattle.machine.proofs.invariant.Change.{same_directory, same_bucket, CellsChanged, BucketsChanged, kept_same, settled_moved, own_moved, own_move, old_move, seen_move, same_swap_settles, pair_move}

module _ (s : Settings) (w : ℕ) (wn : w < s.workers) (c : Cells) (tasks : ℕ → Task) (i : Inv s c tasks) where
  -- outside its rounds worker w's bits are all taken up
  own_bits_applied : {pc : PC} → (tasks w).pc ≡ pc → (Rounds pc → ⊥) → (x : Name) (j : ℕ) → j ≡ w → Applied (c.buckets x) j
  own_bits_applied at h x j e = rw e (⊎_elim (λ a. a) (λ r. absurd (h (rw at at r.0))) (i.bits_applied x w wn))

  -- ---- announcing

  module _ (u : Update) (at : (tasks w).pc ≡ announce) (asks : (tasks w).operation ≡ Some (update u)) where
    abbrev new_slot : Slot
    new_slot = announced u (tasks w).ticket

    abbrev announced_cells : Cells
    announced_cells = assign_slot c w new_slot

    calling_facts : Calling s c w (tasks w)
    calling_facts = subst (λ pc. SlotFacts s pc c w (tasks w)) at (i.own w wn).slot

    announced_changed : CellsChanged s c announced_cells
    unfolding assign_slot
    announced_changed = record {
      directory_evolves = same_directory refl;
      evolves = λ a. same_bucket refl (λ j. settled_same refl) (λ h. refl);
    }

    announced_other : (j : ℕ) → j ≢ w → announced_cells.slots j ≡ c.slots j
    unfolding assign_slot
    announced_other j e = assign_other c.slots w new_slot j e

    -- what others have read in w's slot is settled
    old_announced : (j : ℕ) (x : Slot) → OldSlot c j x → OldSlot announced_cells j x
    unfolding assign_slot
    old_announced j x (inr h) = inr (settled_moved s c announced_cells announced_changed j x h)
    old_announced j x (inl h) = assign_elim (λ y. (x ≡ y) ⊎ SettledSlot announced_cells j x) c.slots w new_slot j
        (λ e. inr (settled_moved s c announced_cells announced_changed j x (rw (h, e) calling_facts.settled)))
        (λ e. inl h)

    pub announce_ok : Writing s w tasks (assign_slot c w (announced u (tasks w).ticket)) (read_d one)
    unfolding assign_slot
    announce_ok = record {
      directory = i.directory;
      tickets = λ a j. assign_elim (λ y. ((leaf_body c a).settled j).ticket ≤ ticket_of y) c.slots w new_slot j
          (λ e. rw e (omega (arith, i.tickets a w, calling_facts.newer)))
          (λ e. i.tickets a j);
      bits_applied = λ x j jn e. i.bits_applied x j jn;
      bits_applied_me = λ x. inl (own_bits_applied at (λ r. r) x w refl);
      me = record {
        ticket = rw (assign_at c.slots w new_slot w refl) (omega arith);
        slot = record { wanted = u; asks = asks; slot = assign_at c.slots w new_slot w refl };
        read = tt;
      };
      others = λ j jn e. own_moved s c announced_cells announced_changed j (tasks j) (announced_other j e) (i.own j jn)
          (λ h. kept_same s refl (λ r. refl)) (λ l h. absurd (omega arith)) (λ l h. h);
      no_toggle = λ h. h;
      no_slot = λ j h. h;
      view = λ j p jn pn. let v : View s j c (tasks p) = i.view j p jn pn in record {
        bit = v.bit;
        slot = λ h f d t. assign_elim (λ y. (tasks p).reads.slots j ≡ y) c.slots w new_slot j
            (λ e. absurd (not_both (own_bits_applied at (λ r. r) (held (tasks p)) j e) d))
            (λ e. v.slot h f d t);
        old = old_announced j ((tasks p).reads.slots j) v.old;
      };
      pair_me = λ p pn. record { sees_flip = λ l. absurd l; seen = λ l. absurd l; splits_bucket = λ l. absurd l };
      pair = λ j p jn pn e. let q : Pair s j c (tasks j) (tasks p) = i.pair j p jn pn in record {
        sees_flip = q.sees_flip;
        seen = λ l h f. q.seen l h f ∙ sym (announced_other j e);
        splits_bucket = q.splits_bucket;
      };
    }

  -- ---- flipping

  module _ (p : Two) (at : (tasks w).pc ≡ flip p) where
    abbrev x₀ : Name
    x₀ = held (tasks w)

    abbrev flipped : ℕ → Bool
    flipped = assign (own c (tasks w)).toggle w (not ((own c (tasks w)).toggle w))

    abbrev c' : Cells
    c' = assign_toggle c x₀ flipped

    -- Of bucket x its state, and its bit of worker j, are as they were, except that w's bit at its own bucket is flipped.
    bit_elim :
        (P : Stamped State → Bool → Type 0) (x : Name) (j : ℕ)
        → (x ≡ x₀ → j ≡ w → P (c.buckets x).state (not ((c.buckets x).toggle j)))
        → ((x ≡ x₀ → j ≢ w) → P (c.buckets x).state ((c.buckets x).toggle j))
        → P (c'.buckets x).state ((c'.buckets x).toggle j)
    unfolding assign_toggle
    bit_elim P x j h k = bucket_elim (λ b. P b.state (b.toggle j)) c x₀ (record { state = (own c (tasks w)).state; toggle = flipped }) x
        (λ e. subst (λ y. P (c.buckets y).state (bit y)) e (here e))
        (λ e. k (λ f. absurd (e f)))
      where
        bit : Name → Bool
        bit y = assign (c.buckets y).toggle w (not ((c.buckets y).toggle w)) j

        here : x ≡ x₀ → P (c.buckets x).state (bit x)
        here e = assign_elim (λ b. P (c.buckets x).state b) (c.buckets x).toggle w (not ((c.buckets x).toggle w)) j
            (λ g. subst (λ z. P (c.buckets x).state (not ((c.buckets x).toggle z))) g (h e g))
            (λ g. k (λ f. g))

    state_kept : (x : Name) → (c'.buckets x).state ≡ (c.buckets x).state
    state_kept x = bit_elim (λ y b. y ≡ (c.buckets x).state) x w (λ e g. refl) (λ d. refl)

    bit_kept : (x : Name) (j : ℕ) → j ≢ w → (c'.buckets x).toggle j ≡ (c.buckets x).toggle j
    bit_kept x j d = bit_elim (λ y b. b ≡ (c.buckets x).toggle j) x j (λ e g. absurd (d g)) (λ h. refl)

    change : BucketsChanged s c c'
    unfolding assign_toggle assign_bucket
    change = record {
      slots = refl;
      directory_evolves = same_directory refl;
      evolves = λ a.
          let e = state_kept (leaf c a) in
          same_bucket refl (λ j. settled_same (ap (λ y. y.value.body.settled j) e)) (λ h. ap (λ y. y.value.body) e);
    }

    -- who is in its rounds is another worker, and its bit is as it was
    own_after : (j : ℕ) → j < s.workers → (Rounds (tasks j).pc → j ≢ w) → Own s c' j (tasks j)
    unfolding assign_toggle assign_bucket
    own_after j jn d = own_move s c c' change j (tasks j) (i.own j jn)
        (λ h. kept_same s (state_kept (held (tasks j))) (λ r. bit_kept (held (tasks j)) j (d r)))
        (λ l h. absurd (omega arith))
        (same_swap_settles s c c' change refl j (tasks j) (tasks j).pc)

    differs : Applied (own c' (tasks w)) w → ⊥
    differs = bit_elim (λ y b. b ≡ y.value.applied w → ⊥) x₀ w
        (λ e g a. not_both refl (own_bits_applied at (λ r. r) x₀ w refl ∙ sym a))
        (λ d. absurd (d refl refl))

    -- w in its rounds
    me_after : Own s c' w (goes (tasks w) (in_b p one read_s) (tasks w).reads)
    me_after =
        let o : Own s c' w (tasks w) = own_after w wn (λ r. absurd (rw at at r)) in
        let a : Announced s c' w (tasks w) = subst (λ pc. SlotFacts s pc c' w (tasks w)) at o.slot in
        let h : Hold s c' w (tasks w) × HoldsLeaf p c' w (tasks w) = subst (λ pc. ReadFacts s pc c' w (tasks w)) at o.read in
        record {
          ticket = o.ticket;
          slot = announced_on a;
          read = record {
            hold = record { named = h.0.named; depth = h.0.depth; is = h.0.is };
            pass = h.1;
            applied = λ b. absurd (differs b);
            seen = tt;
          };
        }

    view_after : (j : ℕ) (k : Task) → View s j c k → View s j c' k
    unfolding assign_toggle assign_bucket
    view_after j k v = record {
      bit =
          bit_elim (λ y b. HasToggle k.pc → k.reads.state.stamp ≡ y.stamp → b ≡ y.value.applied j → k.reads.toggle j ≡ b)
          (held k) j
          (λ e g t f a. absurd (not_both refl (own_bits_applied at (λ r. r) (held k) j g ∙ sym a)))
          (λ d. v.bit);
      slot = bit_elim
          (λ y b. HasSlotB s.workers j k.pc → k.reads.state.stamp ≡ y.stamp → b ≡ not (y.value.applied j)
          → k.reads.toggle j ≡ b
          → k.reads.slots j ≡ c.slots j)
          (held k) j
          (λ e g h f a t. absurd (not_both (v.bit (slot_toggle s.workers j k.pc h) f (own_bits_applied at (λ r. r) (held k) j g)) t))
          (λ d. v.slot);
      old = old_move s c c' change j (k.reads.slots j) v.old;
    }

    pair_after : (j p : ℕ) (k q : Task) → j ≢ w → Own s c p q → Pair s j c k q → Pair s j c' k q
    unfolding assign_toggle assign_bucket
    pair_after j p k q d o h = pair_move s c c' change j p k q o h (bit_elim
        (λ y b. FlipSeen k.reads.state.stamp y.stamp k.pc → b ≡ not (y.value.applied j) → held q ≡ held k → HasToggle q.pc
        → Fresh c' q
        → q.reads.toggle j ≡ b)
        (held k) j
        (λ e g. absurd (d g))
        (λ n l a e t f. h.sees_flip l a e t (f ∙ ap (λ y. y.stamp) (state_kept (held q)))))

    pub flip_ok :
        Writing s w tasks (assign_toggle c (held (tasks w)) (assign (own c (tasks w)).toggle w (not ((own c (tasks w)).toggle w))))
        (in_b p one read_s)
    unfolding assign_toggle assign_bucket
    flip_ok = record {
      directory = i.directory;
      tickets = λ a j. subst (λ y. (y.value.body.settled j).ticket ≤ ticket_of (c.slots j)) (sym (state_kept (leaf c a)))
          (i.tickets a j);
      bits_applied = λ x j jn d. bit_elim (λ y b. (b ≡ y.value.applied j) ⊎ (Rounds (tasks j).pc × (held (tasks j) ≡ x))) x j
          (λ e g. absurd (d g))
          (λ h. i.bits_applied x j jn);
      bits_applied_me = λ x. bit_elim (λ y b. (b ≡ y.value.applied w) ⊎ (Unit {0} × (x₀ ≡ x))) x w
          (λ e g. inr (tt, sym e))
          (λ h. inl (own_bits_applied at (λ r. r) x w refl));
      me = me_after;
      others = λ j jn d. own_after j jn (λ r. d);
      no_toggle = λ h. h;
      no_slot = λ j h. h;
      view = λ j k jn kn. view_after j (tasks k) (i.view j k jn kn);
      pair_me = λ k kn. record {
        sees_flip = λ l. absurd l;
        seen = λ l. seen_move s c c' change w k (tasks w) (tasks k) (i.own k kn) (i.pair w k wn kn) (rw at l);
        splits_bucket = λ l. absurd l;
      };
      pair = λ j k jn kn d. pair_after j k (tasks j) (tasks k) d (i.own k kn) (i.pair j k jn kn);
    }
