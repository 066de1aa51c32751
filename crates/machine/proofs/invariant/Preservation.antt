-- Two ways to keep the invariant: a step that changes only its worker's task, and a step that changes the shared cells.
-- Rests on the invariant.
use Prim.Native.Nat.{ℕ, ◌≤◌, ◌<◌}
use mathlib.Core.Logic.{◌≢◌, inl}
use mathlib.Core.Path.{ap, sym}
use Rattle.interface.specs.declared.Settings.{Settings}
use Rattle.machine.specs.Choice.{assign}
use Rattle.machine.specs.Records.{Name, Cells, Reads, Slot}
use Rattle.machine.specs.DirectoryPass.{copy_of}
use Rattle.machine.proofs.laws.Base.{assign_elim}
use Rattle.machine.proofs.laws.Copies.{Coherent}
use Rattle.machine.specs.Counter.{PC, in_b, in_d, read_d, flip, check_d, check_s, look₂}
use Rattle.machine.proofs.invariant.Counter.{UnderWay}
use Rattle.machine.proofs.invariant.CounterFacts.{HasToggle, HasSlotD, slot_toggle, past_slot}
use Rattle.machine.specs.Passed.{HoldsBucket}
use Rattle.machine.specs.Tasks.{Task}
use Rattle.machine.proofs.invariant.Inv.{leaf_body, ticket_of, AppliedOrRounds, Own, View, Pair, Inv, Announced, ReadFacts, Hold, SlotFacts, OldSlot}

-- the task at another counter, with what has been read by then
abbrev pub goes : Task → PC → Reads → Task
goes k pc r = record { pc = pc; operation = k.operation; ticket = k.ticket; reads = r }

pub under_announced : (s : Settings) (c : Cells) (j : ℕ) (k : Task) (pc : PC) → UnderWay pc → SlotFacts s pc c j k → Announced s c j k
under_announced s c j k (read_d p) u f = f
under_announced s c j k (flip p) u f = f
under_announced s c j k (check_d p x) u f = f
under_announced s c j k (check_s p x) u f = f
under_announced s c j k (in_b p r x) u f = f
under_announced s c j k (in_d p r x) u f = f
under_announced s c j k _ u f = elim u [ ]

pub announced_on : {s : Settings} {c : Cells} {j : ℕ} {k : Task} {pc : PC} {r : Reads} → Announced s c j k → Announced s c j (goes k pc r)
announced_on a = record { wanted = a.wanted; asks = a.asks; slot = a.slot }

-- a slot that is read now is as it is
pub old_read :
    (c : Cells) (j : ℕ) (slots : ℕ → Slot) (i : ℕ) → OldSlot c j (slots j) → OldSlot c j (assign slots i (c.slots i) j)
old_read c j slots i h = assign_elim (OldSlot c j) slots i (c.slots i) j (λ e. inl (ap c.slots (sym e))) (λ e. h)

-- whoever holds a bucket knows it
pub holds_hold : (s : Settings) (c : Cells) (j : ℕ) (k : Task) (pc : PC) → HoldsBucket pc → ReadFacts s pc c j k → Hold s c j k
holds_hold s c j k look₂ h f = f
holds_hold s c j k (flip p) h f = f.0
holds_hold s c j k (check_s p x) h f = f.0
holds_hold s c j k (in_b p r x) h f = f.hold
holds_hold s c j k _ h f = elim h [ ]

module _ (s : Settings) where
  -- What a step that changes only worker w's task, from k to k', has to keep.
  pub record Reading (w : ℕ) (c : Cells) (k k' : Task) : Type 0 where
    pub own : Own s c w k → Pair s w c k k → Own s c w k'
    pub view : (j : ℕ) → j < s.workers → View s j c k → View s j c k'
    pub bits_applied : (x : Name) → Own s c w k → AppliedOrRounds s w c k x → AppliedOrRounds s w c k' x
    -- of w and another
    pub pair_me : (q : Task) → Pair s w c k q → Pair s w c k' q
    -- of another and w
    pub pair : (j : ℕ) → j < s.workers → (q : Task) → Own s c j q → Own s c w k → Pair s j c q k → Pair s j c q k'

  -- What a step that changes the shared cells to c' has to keep, worker w going to counter pc with what it has read.
  pub record Writing (w : ℕ) (tasks : ℕ → Task) (c' : Cells) (pc : PC) : Type 0 where
    pub directory : Coherent s.depth (copy_of c'.directory.value)
    pub tickets : (a j : ℕ) → ((leaf_body c' a).settled j).ticket ≤ ticket_of (c'.slots j)
    pub bits_applied : (x : Name) (j : ℕ) → j < s.workers → j ≢ w → AppliedOrRounds s j c' (tasks j) x
    pub bits_applied_me : (x : Name) → AppliedOrRounds s w c' (goes (tasks w) pc (tasks w).reads) x
    pub me : Own s c' w (goes (tasks w) pc (tasks w).reads)
    pub others : (j : ℕ) → j < s.workers → j ≢ w → Own s c' j (tasks j)
    pub no_toggle : HasToggle pc → ⊥
    pub no_slot : (j : ℕ) → HasSlotD s.workers j pc → ⊥
    pub view : (j p : ℕ) → j < s.workers → p < s.workers → View s j c' (tasks p)
    pub pair_me : (p : ℕ) → p < s.workers → Pair s w c' (goes (tasks w) pc (tasks w).reads) (tasks p)
    pub pair : (j p : ℕ) → j < s.workers → p < s.workers → j ≢ w → Pair s j c' (tasks j) (tasks p)

  module _ (w : ℕ) (wn : w < s.workers) (c : Cells) (tasks : ℕ → Task) where
    pub reading : (k' : Task) → Inv s c tasks → Reading w c (tasks w) k' → Inv s c (assign tasks w k')
    reading k' i r = record {
      directory = i.directory;
      tickets = i.tickets;
      bits_applied = λ x j jn. assign_elim (λ k. AppliedOrRounds s j c k x) tasks w k' j
          (λ e. rw e (r.bits_applied x (i.own w wn) (i.bits_applied x w wn))) (λ e. i.bits_applied x j jn);
      own = λ j jn. assign_elim (λ k. Own s c j k) tasks w k' j (λ e. rw e (r.own (i.own w wn) (i.pair w w wn wn))) (λ e. i.own j jn);
      view = λ j p jn pn. assign_elim (λ k. View s j c k) tasks w k' p (λ e. r.view j jn (i.view j w jn wn)) (λ e. i.view j p jn pn);
      pair = λ j p jn pn. assign_elim (λ k. Pair s j c k (assign tasks w k' p)) tasks w k' j
          (λ e. assign_elim (λ q. Pair s j c k' q) tasks w k' p
          (λ g. rw e (r.pair_me k' (r.pair w wn (tasks w) (i.own w wn) (i.own w wn) (i.pair w w wn wn))))
          (λ g. rw e (r.pair_me (tasks p) (i.pair w p wn pn))))
          (λ e. assign_elim (λ q. Pair s j c (tasks j) q) tasks w k' p
          (λ g. r.pair j jn (tasks j) (i.own j jn) (i.own w wn) (i.pair j w jn wn))
          (λ g. i.pair j p jn pn));
    }

    pub writing : (c' : Cells) (pc : PC) → Writing w tasks c' pc → Inv s c' (assign tasks w (goes (tasks w) pc (tasks w).reads))
    writing c' pc r = record {
      directory = r.directory;
      tickets = r.tickets;
      bits_applied = λ x j jn. assign_elim (λ k. AppliedOrRounds s j c' k x) tasks w _ j (λ e. rw e (r.bits_applied_me x))
          (λ e. r.bits_applied x j jn e);
      own = λ j jn. assign_elim (λ k. Own s c' j k) tasks w _ j (λ e. rw e r.me) (λ e. r.others j jn e);
      view = λ j p jn pn. assign_elim (λ k. View s j c' k) tasks w _ p
          (λ e. record {
            bit = λ x. absurd (r.no_toggle x);
            slot = λ x. absurd (r.no_toggle (slot_toggle s.workers j pc x));
            old = (r.view j w jn wn).old;
          })
          (λ e. r.view j p jn pn);
      pair = λ j p jn pn. assign_elim (λ q. Pair s j c' (assign tasks w (goes (tasks w) pc (tasks w).reads) j) q) tasks w _ p
          (λ e. record {
            sees_flip = λ l d h x. absurd (r.no_toggle x);
            seen = λ l x. absurd (r.no_slot j x);
            splits_bucket = λ l x. absurd (r.no_slot j (past_slot s.workers j pc jn x));
          })
          (λ e. assign_elim (λ k. Pair s j c' k (tasks p)) tasks w _ j (λ g. rw g (r.pair_me p pn)) (λ g. r.pair j p jn pn g));
    }
