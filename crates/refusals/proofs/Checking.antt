-- A call that makes its checks in their order is turned down by them. Rests on the checks' definitions.
use mathlib.Core.Path.{◌≡◌, refl}
use mathlib.Core.Bool.{Bool, true, false}
use mathlib.Core.List.{List, [], ◌∷◌}
use Rattle.interface.specs.declared.Refusal.{Refusal}
use Rattle.machine.specs.Choice.{when◌then◌else◌}
use Rattle.machine.proofs.laws.Base.{none_some}
use Rattle.refusals.specs.Checks.{Check, refusal_by}
use Rattle.refusals.specs.Demand1.{RefusedBy}

module _ {L A : Type 0} {refused : Refusal → A} {lent : L} where
  -- no check is left, and the answer is no refusal
  pub passed : {m : L} {a : A} → ((r : Refusal) → a ≡ refused r → ⊥) → RefusedBy refused [] lent (m, a)
  unfolding refusal_by
  passed never =
      record {
        bad = λ r e. absurd (none_some refl e);
        other = λ _ h. never h.0 h.1;
        kept = λ h. absurd (never h.0 h.1);
      }

  module _ {r : Refusal} {checks : List Check} where
    -- the first check comes out true
    pub stopped : RefusedBy refused ((true, r) ∷ checks) lent (lent, refused r)
    unfolding refusal_by when◌then◌else◌
    stopped = record { bad = λ s e. cc; other = λ e _. none_some e refl; kept = λ _. refl }

    module _ {x : L × A} (rest : RefusedBy refused checks lent x) where
      -- it comes out false
      pub going_on : RefusedBy refused ((false, r) ∷ checks) lent x
      unfolding refusal_by when◌then◌else◌
      going_on = record { bad = rest.bad; other = rest.other; kept = rest.kept }

      -- either
      pub check_then : (t : Bool) → RefusedBy refused ((t, r) ∷ checks) lent (when t then (lent, refused r) else x)
      unfolding when◌then◌else◌
      check_then true = stopped
      check_then false = going_on

    -- the same, seen through what a call leaves of a record
    pub check_part :
        {X : Type 0} (of : X → L × A) (t : Bool) (y z : X) → of y ≡ (lent, refused r) → RefusedBy refused checks lent (of z)
        → RefusedBy refused ((t, r) ∷ checks) lent (of (when t then y else z))
    unfolding when◌then◌else◌
    check_part of true y z e rest = rw e stopped
    check_part of false y z e rest = going_on rest
