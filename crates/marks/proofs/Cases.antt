-- The cases of a state step's definitions, in the order in which the code tests them: each takes what the code has read.
-- Rests on the definitions of a state step.
use Prim.Native.Nat.{ℕ, max, ◌+◌, ◌*◌, ◌%◌, ◌^◌, ◌<◌}
use native.Mathlib.Nat.{zero-mul}
use native.Mathlib.Omega.{arith}
use native.Mathlib.Decide.{ℕ_discrete}
use mathlib.Core.Path.{◌≡◌, sym, ◌∙◌, ap}
use mathlib.Core.Logic.{by_cases}
use mathlib.Core.Bool.{Bool, true, false, not}
use mathlib.Core.List.{List}
use lib.Dec.{ltb, eqb}
use lib.ListN.{set}
use lib.Bits.{bit_or}
use borrow.Author.Tests.{eq-eqb, ne_eqb}
use Rattle.interface.specs.Numbers.{kind_none}
use Rattle.interface.specs.declared.Settings.{Settings}
use Rattle.fields.specs.Fields.{slot_kind, slot_account, slot_ticket, worker_marks}
use Rattle.fields.specs.Regions.{read_at}
use Rattle.machine.specs.Choice.{◌and◌}
use Rattle.machine.proofs.laws.Base.{if_true, if_false, eq_elim, and_true, and_left_false, and_no}
use Rattle.rules.specs.Rules.{bit, with_bit}
use Rattle.layout.specs.Shape.{word}
use Rattle.layout.specs.Addresses.{record_of, marked_at, record_for}
use Rattle.record.specs.Bucket.{splittable_at, settled_ticket}
use Rattle.marks.specs.StateStep.{found_before, splits_at, marks, state_step_at}
use Rattle.rules.proofs.Bits.{is_one, bit_below, shift_one}
use Rattle.std.proofs.lemmas.Nat.{or_disjoint}
use Rattle.std.proofs.lemmas.Nat.Bits.{bit_at_or, bit_at-pow_same, bit_at-pow_other, and_pow, same_from_bits}

-- ---- a state step's test

-- the record that the code finds for slot j
record_here :
    (l : List ℕ) (s : Settings) (p j a q : ℕ) → a ≡ word l (read_at p j + slot_account) → q ≡ record_of l s a → q ≡ record_for l s p j
record_here l s p j a q account found = found ∙ ap (record_of l s) account

module _ (l : List ℕ) (s : Settings) (p j kind : ℕ) (read : kind ≡ word l (read_at p j + slot_kind)) where
  pub marks_idle : kind ≡ kind_none → false ≡ marks l s p j
  unfolding marks ◌and◌
  marks_idle e = rw (eq-eqb (word l (read_at p j + slot_kind)) kind_none (sym read ∙ e))

  module _ (pending : kind ≡ kind_none → ⊥) (a q : ℕ) (account : a ≡ word l (read_at p j + slot_account)) (at : q ≡ record_of l s a)
      (v : Bool) (tested : v ≡ splits_at l s p j q) where
    -- what is left of the test
    marks_rest : (v and not (found_before l s p j q)) ≡ marks l s p j
    unfolding marks ◌and◌
    marks_rest =
        rw (
          tested,
          ne_eqb (word l (read_at p j + slot_kind)) kind_none (λ z. pending (read ∙ z)),
          record_here l s p j a q account at,
        )

    pub marks_not : v ≡ false → v ≡ marks l s p j
    unfolding ◌and◌
    marks_not e = e ∙ rw e at marks_rest

    pub marks_found : v ≡ true → (b : Bool) → b ≡ found_before l s p j q → not b ≡ marks l s p j
    unfolding ◌and◌
    marks_found e b found = ap not found ∙ rw e at marks_rest

-- the test of the bucket and its ticket
module _ (l : List ℕ) (s : Settings) (p j q : ℕ) (t : Bool) (tested : t ≡ splittable_at l s q) where
  pub splits_not : t ≡ false → t ≡ splits_at l s p j q
  unfolding splits_at ◌and◌
  splits_not e = rw (← tested, e)

  pub splits_by : t ≡ true → (ticket : ℕ) → ticket ≡ word l (read_at p j + slot_ticket) → (last : ℕ) → last ≡ settled_ticket l s q j
      → ltb last ticket ≡ splits_at l s p j q
  unfolding splits_at ◌and◌
  splits_by e ticket k last m = rw (← tested, e, m, k)

-- ---- a state step

module _ (l : List ℕ) (s : Settings) (p j : ℕ) (b : Bool) (tested : b ≡ marks l s p j) where
  pub step_none : b ≡ false → l ≡ state_step_at l s p j
  unfolding state_step_at
  step_none e = sym (if_false _ _ (sym tested ∙ e))

  pub step_marked : b ≡ true → (x y : ℕ) → x ≡ word l (p + worker_marks) → y ≡ with_bit x j → set l (p + worker_marks) y ≡ state_step_at l s p j
  unfolding state_step_at
  step_marked e x y ex ey = rw (ey, ex) (sym (if_true _ _ (sym tested ∙ e)))

-- the code's mark: bit j set by `|`, where it may be set already
pub mark_or : (x j : ℕ) → j < 64 → bit_or x (1 * 2 ^ j % 2 ^ 64) ≡ with_bit x j
unfolding with_bit bit
mark_or x j h =
    rw (shift_one j h)
    (eq_elim (λ y. bit_or x (2 ^ j) ≡ y) (bit x j) 0 _ _
    (λ clear. or_disjoint x (2 ^ j) (and_pow x j ∙ ap (λ (k : ℕ). k * 2 ^ j) clear ∙ zero-mul (2 ^ j)))
    (λ set. same_from_bits (bit_or x (2 ^ j)) x (λ i. bit_at_or x (2 ^ j) i ∙ same i (is_one x j set))))
  where
    same : (i : ℕ) → bit x j ≡ 1 → max (bit x i) (bit (2 ^ j) i) ≡ bit x i
    same i e =
        by_cases (ℕ_discrete i j)
        (λ z. rw (z, bit_at-pow_same j) (omega (arith, e, bit_below x j)))
        (λ z. rw (bit_at-pow_other j i z) (omega arith))

-- ---- a step before step j that has found the bucket in record q

abbrev pub found : List ℕ → Settings → ℕ → ℕ → ℕ → Bool
found l s p q i = marked_at l p i and eqb (record_for l s p i) q

module _ (l : List ℕ) (s : Settings) (p q i x : ℕ) (marked : x ≡ word l (p + worker_marks)) where
  pub found_unmarked : (bit x i ≡ 1 → ⊥) → found l s p q i ≡ false
  found_unmarked d = and_left_false _ (ne_eqb (bit (word l (p + worker_marks)) i) 1 (rw (← marked) d))

  module _ (a r : ℕ) (account : a ≡ word l (read_at p i + slot_account)) (at : r ≡ record_of l s a) where
    pub found_it : bit x i ≡ 1 → r ≡ q → found l s p q i ≡ true
    found_it e f =
        and_true (eq-eqb (bit (word l (p + worker_marks)) i) 1 (rw (← marked) e))
        (eq-eqb (record_for l s p i) q (sym (record_here l s p i a r account at) ∙ f))

    pub found_not : (r ≡ q → ⊥) → found l s p q i ≡ false
    found_not d = and_no _ (ne_eqb (record_for l s p i) q (λ e. d (record_here l s p i a r account at ∙ e)))
