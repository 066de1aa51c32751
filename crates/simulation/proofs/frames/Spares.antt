-- The pool always has a record that is neither current nor held, and the search round the pool finds one: true of any words.
-- Rests on the least free number.
use Prim.Native.Nat.{ℕ, zero, suc, ◌+◌, ◌-◌, ◌*◌, ◌/◌, ◌%◌, ◌^◌, ◌≤◌, ◌<◌}
use native.Mathlib.Omega.{arith}
use native.Mathlib.Nat.{add-zero, mod-lt, mul-div_cancel}
use native.Mathlib.Decide.{dec_lt}
use mathlib.Core.Path.{◌≡◌, refl, ap, ◌∙◌, subst}
use mathlib.Core.Logic.{◌≢◌, ◌⊎◌, inl, inr, by_cases}
use mathlib.Core.Bool.{Bool, true, false, ◌||◌}
use mathlib.Core.List.{List}
use lib.Dec.{ltb, eqb}
use borrow.Author.Tests.{eq-eqb, eqb-true, lt-ltb, le-ltb, ltb-true, ltb-false}
use Rattle.interface.specs.declared.Settings.{Settings}
use Rattle.machine.specs.Choice.{when◌then◌else◌}
use Rattle.machine.proofs.laws.Base.{no_both, if_elim, if_true, if_false}
use Rattle.fields.specs.Fields.{header_spare, worker_held, record_depth, record_prefix, record_size}
use Rattle.fields.specs.Regions.{worker_at, directory_start, record_start, pool_size, record', start_of, worker}
use Rattle.layout.specs.Shape.{word}
use Rattle.renumbering.specs.Numbers.{least_free}
use Rattle.spares.specs.Records.{first_entry, current_at, held_by_any, used_at, spare_from, spare_of}
use Rattle.layout.proofs.Checks.{or_parts}
use Rattle.spares.proofs.PoolLaws.{entry_below, spare_below}
use Rattle.simulation.specs.Meaning.{at}
use Rattle.simulation.proofs.frames.Numbering.{Among, least-free, any_some, some_any}
use Rattle.simulation.proofs.swap.Halves.{Spare}

or-true : (x y : Bool) → (x || y) ≡ true → (x ≡ true) ⊎ (y ≡ true)
or-true true y e = inl refl
or-true false y e = inr e

least_le : (taken : ℕ → Bool) (k i : ℕ) → least_free taken i k ≤ i + k
unfolding least_free
least_le taken zero i = omega arith
least_le taken (suc k) i =
    if_elim (λ (x : ℕ). x ≤ i + suc k) (taken i) _ _ (λ e. omega (arith, least_le taken k (suc i))) (λ e. omega arith)

module _ (s : Settings) (l : List ℕ) where
  abbrev D : ℕ
  D = directory_start s.workers

  abbrev entries : ℕ
  entries = 2 ^ s.depth

  abbrev each : ℕ
  each = record_size s.capacity s.workers

  -- the record that a word names
  abbrev named : ℕ → ℕ
  named x = (x - (D + entries)) / each

  named_record : (r : ℕ) → named (record_start s r) ≡ r
  unfolding record_start
  named_record r =
      let e : D + entries + r * each - (D + entries) ≡ r * each = omega arith in
      ap (λ (k : ℕ). k / each) e ∙ mul-div_cancel r (omega arith)

  -- all that is named: by the directory, then by workers
  abbrev list : ℕ → ℕ
  list i = when ltb i entries then named (word l (D + i)) else named (word l (worker_at s.workers (i - entries) + worker_held))

  used_among : (r : ℕ) → used_at l s r ≡ true → Among (entries + s.workers) list r
  unfolding used_at current_at held_by_any
  used_among r h = go (or-true _ _ h)
    where
      go :
          (current_at l s (record_start s r) ≡ true) ⊎ (held_by_any l s.workers (record_start s r) ≡ true)
          → Among (entries + s.workers) list r
      go (inl e) =
          let i : ℕ = first_entry s (word l (record_start s r + record_depth)) (word l (record_start s r + record_prefix)) in
          let b : i < entries = entry_below s (word l (record_start s r + record_depth)) (word l (record_start s r + record_prefix)) in
          record {
            index = i;
            below = omega arith;
            is = if_true _ _ (lt-ltb i entries b) ∙ ap named (eqb-true (word l (D + i)) (record_start s r) e) ∙ named_record r;
          }
      go (inr e) =
          let g = any_some s.workers _ e in
          let z : entries + g.one - entries ≡ g.one = omega arith in
          record {
            index = entries + g.one;
            below = omega (arith, g.below);
            is =
                if_false _ _ (le-ltb (entries + g.one) entries (omega arith))
                ∙ ap (λ (i : ℕ). named (word l (worker_at s.workers i + worker_held))) z
                ∙ ap named (eqb-true _ _ g.is) ∙ named_record r;
          }

  -- one is free
  abbrev free : ℕ
  free = least_free (used_at l s) 0 (entries + s.workers)

  free_unused : used_at l s free ≡ false
  free_unused = least-free (entries + s.workers) (used_at l s) list used_among

  free_within : free < pool_size s
  unfolding pool_size
  free_within = omega (arith, least_le (used_at l s) (entries + s.workers) 0)

  -- ---- the search

  -- u is one of the k records from r on, round the pool
  abbrev Ahead : ℕ → ℕ → ℕ → Type 0
  Ahead r k u = ((r ≤ u) × (u < r + k)) ⊎ ((u < r) × (u + pool_size s < r + k))

  found : (k r : ℕ) → r < pool_size s → Ahead r k free → used_at l s (spare_from l s r k) ≡ false
  unfolding spare_from
  found zero r h a = absurd (elim a [ inl z ↦ omega (arith, z.0, z.1) | inr z ↦ omega (arith, z.0, z.1, h) ])
  found (suc k) r h a =
      if_elim (λ (x : ℕ). used_at l s x ≡ false) (used_at l s r) _ _
      (λ e. let n = next e in found k (when ltb (suc r) (pool_size s) then suc r else 0) n.0 n.1) (λ e. e)
    where
      On : ℕ → Type 0
      On x = (x < pool_size s) × Ahead x k free

      next : used_at l s r ≡ true → On (when ltb (suc r) (pool_size s) then suc r else 0)
      next e =
          let b = free_within in
          let d : free ≢ r = λ (z : free ≡ r). no_both e (subst (λ (x : ℕ). used_at l s x ≡ false) z free_unused) in
          if_elim On (ltb (suc r) (pool_size s)) (suc r) 0
          (λ f. (
            ltb-true (suc r) (pool_size s) f,
            elim a [
              | inl z ↦ inl (omega (arith, z.0), omega (arith, z.1))
              | inr z ↦ inr (omega (arith, z.0), omega (arith, z.1))
            ],
          ))
          (λ f. let g = ltb-false (suc r) (pool_size s) f in (
            omega arith,
            elim a [
              | inl z ↦ absurd (omega (arith, z.0))
              | inr z ↦ inl (omega arith, omega (arith, z.1))
            ],
          ))

  search : used_at l s (spare_of l s) ≡ false
  unfolding spare_of
  search =
      let f = free_within in
      let r : ℕ = word l header_spare % pool_size s in
      let h : r < pool_size s = mod-lt (word l header_spare) (omega arith) in
      found (pool_size s) r h (by_cases (dec_lt free r) (λ b. inr (b, omega arith)) (λ b. inl (omega arith, omega arith)))

  -- ---- the spare record

  pub spare_within : spare_of l s < pool_size s
  spare_within = spare_below l s

  pub spare_unheld : (j : ℕ) → j < s.workers → at s l (worker j) worker_held ≢ start_of s (record' (spare_of l s))
  unfolding used_at held_by_any start_of
  spare_unheld j h e =
      let z : word l (worker_at s.workers j + worker_held) ≡ record_start s (spare_of l s) = e in
      no_both (some_any s.workers (λ i. eqb (word l (worker_at s.workers i + worker_held)) (record_start s (spare_of l s))) j h
      (eq-eqb _ _ z))
      (or_parts (current_at l s (record_start s (spare_of l s))) _ search).1

  pub spare_unnamed : Spare s l (spare_of l s)
  unfolding used_at current_at start_of
  spare_unnamed e =
      let q : ℕ = record_start s (spare_of l s) in
      let z : word l (D + first_entry s (word l (q + record_depth)) (word l (q + record_prefix))) ≡ q = rw add-zero at e in
      no_both (eq-eqb _ _ z) (or_parts _ _ search).0
