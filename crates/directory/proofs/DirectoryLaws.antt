-- The turns of the loop over marked buckets, and both outcomes of the directory swap's tests.
-- Rests on the definitions of the directory swap.
use Prim.Native.Nat.{ℕ, ◌+◌, ◌/◌, ◌%◌, ◌^◌}
use native.Mathlib.Numerals.{add-one}
use mathlib.Core.Path.{◌≡◌, sym, ◌∙◌}
use mathlib.Core.Bool.{Bool, true, false}
use mathlib.Core.List.{List}
use lib.Dec.{ltb, eqb}
use lib.ListN.{length, set}
use borrow.Author.Tests.{ltb-false, eq-eqb, ne_eqb}
use Rattle.interface.specs.declared.Settings.{Settings}
use Rattle.machine.specs.Choice.{when◌then◌else◌}
use Rattle.fields.specs.Fields.{header_number, slot_account, worker_directory, worker_marks}
use Rattle.fields.specs.Regions.{read_at, words_needed}
use Rattle.machine.proofs.laws.Base.{if_true}
use Rattle.rules.specs.Rules.{bit}
use Rattle.layout.specs.Shape.{word, Fits, Whole}
use Rattle.layout.specs.Addresses.{record_of}
use Rattle.renumbering.specs.Numbers.{fresh_directory}
use Rattle.directory.specs.Directory.{resolved_at, nothing_to_split, redirected_at}
use Rattle.layout.proofs.Checks.{or_parts}
use Rattle.taking.specs.Taking.{dues_at, taken_all}

-- ---- the marked buckets

module _ (l m : List ℕ) (s : Settings) (p j x : ℕ) (e : m ≡ resolved_at l s p j) (f : x ≡ word m (p + worker_marks)) where
  pub resolved_more : (z : List ℕ) (a q b : ℕ) → x / 2 ^ j % 2 ≡ 1 → a ≡ word m (read_at p j + slot_account) → q ≡ record_of m s a
      → b ≡ dues_at m s p q s.workers → z ≡ taken_all m s p b s.workers → z ≡ resolved_at l s p (j + 1)
  unfolding resolved_at when◌then◌else◌ bit
  resolved_more z a q b h g k n o =
      let t : eqb (word m (p + worker_marks) / 2 ^ j % 2) 1 ≡ true = eq-eqb _ 1 (rw f at h) in
      rw (add-one, ← e, t) (rw (o, n, k, g))

  pub resolved_same : (x / 2 ^ j % 2 ≡ 1 → ⊥) → m ≡ resolved_at l s p (j + 1)
  unfolding resolved_at when◌then◌else◌ bit
  resolved_same h =
      let t : eqb (word m (p + worker_marks) / 2 ^ j % 2) 1 ≡ false = ne_eqb _ 1 (rw f at h) in
      rw (add-one, ← e, t)

-- ---- the swap

module _ (l : List ℕ) (s : Settings) (p x : ℕ) (e : x ≡ word l (p + worker_marks)) where
  pub nothing_marked : x ≡ 0 → eqb x 0 ≡ nothing_to_split l s p
  unfolding nothing_to_split
  nothing_marked h = rw (e, eq-eqb (word l (p + worker_marks)) 0 (sym e ∙ h))

  pub nothing_short : (k : ℕ) → (x ≡ 0 → ⊥) → k ≡ words_needed s → ltb (length l) k ≡ nothing_to_split l s p
  unfolding nothing_to_split
  nothing_short k h f = rw (ne_eqb (word l (p + worker_marks)) 0 (λ z. h (e ∙ z)), f)

-- where there is something to split, every record is there
pub whole_else : (l : List ℕ) (s : Settings) (p : ℕ) → Fits l s → nothing_to_split l s p ≡ false → Whole l s
unfolding nothing_to_split
whole_else l s p h f =
    let parts = or_parts (eqb (word l (p + worker_marks)) 0) (ltb (length l) (words_needed s)) f in
    record { fits = h; all = ltb-false (length l) (words_needed s) parts.1 }

module _ (l : List ℕ) (s : Settings) (p x y : ℕ) (e : x ≡ word l (p + worker_directory)) (f : y ≡ word l header_number) where
  pub redirected_not : (x ≡ y → ⊥) → l ≡ redirected_at l s p
  unfolding redirected_at when◌then◌else◌
  redirected_not h = rw (ne_eqb (word l (p + worker_directory)) (word l header_number) (λ z. h (e ∙ z ∙ sym f)))

  module _ (m z : List ℕ) (v : ℕ) (t : Bool) (h : x ≡ y) (g : v ≡ fresh_directory l s.workers) (k : t ≡ nothing_to_split l s p)
      (n : z ≡ set m header_number v) where
    pub redirected_done : m ≡ (when t then l else resolved_at l s p s.workers) → z ≡ redirected_at l s p
    unfolding redirected_at
    redirected_done d =
        n ∙ sym (if_true _ l (eq-eqb (word l (p + worker_directory)) (word l header_number) (sym e ∙ h ∙ f)) ∙ rw (← k, ← d, ← g))
