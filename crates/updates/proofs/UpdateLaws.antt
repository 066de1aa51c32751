-- Laws of a step of an update: the phases of its plan, and each case of a check. Rests on the definition of such a step, and on the
-- machine's plan.
use Prim.Native.Nat.{ℕ, ◌+◌, ◌≤◌, ◌<◌, ◌%◌}
use mathlib.Core.Path.{◌≡◌, sym, ◌∙◌, ap, subst}
use mathlib.Core.Logic.{◌≢◌}
use mathlib.Core.List.{List}
use Rattle.std.specs.Prelude.{Option}
use lib.ListN.{length, set}
use borrow.Author.Tests.{le-leb, lt-leb, eq-eqb, ne_eqb}
use Rattle.interface.specs.Numbers.{kind_lookup}
use Rattle.interface.specs.declared.Settings.{Settings}
use Rattle.interface.specs.declared.Answer.{Answer}
use Rattle.interface.specs.declared.Stepped.{Stepped}
use Rattle.fields.specs.Fields.{worker_kind, worker_ticket, worker_steps, widest_record, steps_range}
use Rattle.machine.specs.Plan.{Phase, phase, check_number}
use Rattle.machine.proofs.laws.Base.{if_true, if_false}
use Rattle.machine.proofs.laws.PlanBounds.{Below, phase_below}
use Rattle.phases.specs.declared.Phase as Code
use Rattle.layout.specs.Shape.{word, Fits}
use Rattle.layout.specs.Addresses.{held_by}
use Rattle.record.specs.Bucket.{settled_ticket}
use Rattle.phases.specs.Phases.{planned}
use Rattle.calls.specs.Calls.{ended_at}
use Rattle.updates.specs.Updates.{checked_at, answer_at, check_at, update_at, operation_at}
use Rattle.layout.proofs.Positions.{held_inside}
use Rattle.lookups.specs.Lookups.{lookup_at}

-- ---- the workers that a phase names are below n

pub slot_below : (n k j : ℕ) (r : Code.Phase) → r ≡ Code.Phase.ReadSlot j → planned r ≡ phase n k → j < n
unfolding planned
slot_below n k j r h e = subst (Below n) (sym e ∙ ap planned h) (phase_below n k)

pub state_below : (n k j : ℕ) (r : Code.Phase) → r ≡ Code.Phase.StateStep j → planned r ≡ phase n k → j < n
unfolding planned
state_below n k j r h e = subst (Below n) (sym e ∙ ap planned h) (phase_below n k)

-- ---- a step of an update

module _ (l : List ℕ) (s : Settings) (p w k n : ℕ) (m : List ℕ × Stepped) where
  pub at_phase : (q : Phase) → phase n k ≡ q → m ≡ update_at l s p w k q → m ≡ update_at l s p w k (phase n k)
  at_phase q e x = x ∙ ap (update_at l s p w k) (sym e)

  pub updated : (r q : Code.Phase) → r ≡ q → planned r ≡ phase n k → m ≡ update_at l s p w k (planned q) → m ≡ update_at l s p w k (phase n k)
  updated r q h e = at_phase (planned q) (sym e ∙ ap planned h)

-- ---- a check of worker w at p, whose bucket's record is at q

module _ (l : List ℕ) (s : Settings) (p q w k t u : ℕ) (ticket : t ≡ word l (p + worker_ticket)) (settled : u ≡ settled_ticket l s q w) where
  abbrev gives : Option Answer → List ℕ × Stepped
  gives = check_at l p k (check_number s.workers k)

  pub check_settled :
      (a : Answer) (m : List ℕ × Stepped) → t ≤ u → a ≡ answer_at l s q w → m ≡ ended_at l p k (check_number s.workers k) a
      → m ≡ gives (checked_at l s p q w)
  unfolding checked_at check_at
  check_settled a m h e f = f ∙ rw e (ap gives (sym (if_true _ _ (le-leb _ _ (rw (ticket, settled) at h)))))

  pub check_moved : u < t → (l, Stepped.Moved) ≡ gives (checked_at l s p q w)
  unfolding checked_at check_at
  check_moved h = ap gives (sym (if_false _ _ (lt-leb _ _ (rw (ticket, settled) at h))))

pub held_room : {l : List ℕ} {s : Settings} (q p : ℕ) → Fits l s → q ≡ held_by l p → q + widest_record ≤ length l
held_room q p f e = rw e (held_inside f p)

-- ---- an operation's step

module _ (l m : List ℕ) (s : Settings) (p w k x : ℕ) (r : List ℕ × Stepped) (kind : x ≡ word l (p + worker_kind))
    (steps : k ≡ word l (p + worker_steps) % steps_range) (put : m ≡ set l (p + worker_steps) (k + 1)) where
  pub operation_lookup : x ≡ kind_lookup → r ≡ lookup_at m s p k → r ≡ operation_at l s p w (word l (p + worker_steps) % steps_range)
  unfolding operation_at
  operation_lookup e h = h ∙ rw (← steps, ← put) (sym (if_true _ _ (eq-eqb _ _ (sym kind ∙ e))))

  pub operation_update :
      x ≢ kind_lookup → r ≡ update_at m s p w k (phase s.workers k)
      → r ≡ operation_at l s p w (word l (p + worker_steps) % steps_range)
  unfolding operation_at
  operation_update e h = h ∙ rw (← steps, ← put) (sym (if_false _ _ (ne_eqb _ _ (λ z. e (kind ∙ z)))))
