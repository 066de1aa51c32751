-- Laws of a lookup: what it looks at, and its second step. Rests on the definition of a lookup.
use Prim.Native.Nat.{ℕ, zero, suc, ◌+◌, ◌-◌, ◌≤◌}
use native.Mathlib.Omega.{arith}
use mathlib.Core.Path.{◌≡◌, refl, sym, ◌∙◌, ap, subst}
use mathlib.Core.Logic.{◌≢◌}
use mathlib.Core.List.{List}
use lib.ListN.{length, take, drop}
use Rattle.interface.specs.declared.Settings.{Settings}
use Rattle.fields.specs.Fields.{worker_account, record_count, accounts_from}
use Rattle.memory.specs.Words.{least}
use Rattle.layout.specs.Shape.{word}
use Rattle.layout.specs.Addresses.{held_by}
use Rattle.arrays.specs.declared.Position.{Position}
use Rattle.arrays.specs.Arrays.{scan}
use Rattle.lists.specs.Parts.{part}
use Rattle.lists.proofs.PartLaws.{part_taken, length_part}
use Rattle.arrays.proofs.Laws.{Among, scan_among}
use Rattle.calls.specs.Calls.{ended_at}
use Rattle.lookups.specs.Lookups.{found_at, looked_at, lookup_at}

-- ---- a lookup

module _ (l : List ℕ) (s : Settings) (q a c : ℕ) (p : Position) (size : c ≡ least (word l (q + record_count)) s.capacity)
    (found : p ≡ scan (take (accounts_from q + c - accounts_from q) (drop (accounts_from q) l)) a 0) where
  pub found_below : accounts_from q + c ≤ length l → Among c p
  found_below h =
      let read = part_taken l (accounts_from q) (accounts_from q) c refl in
      let long : 0 + length (part l (accounts_from q) c) ≡ c = omega (arith, length_part l (accounts_from q) c h) in
      rw (found, read) (subst (λ (k : ℕ). Among k (scan (part l (accounts_from q) c) a 0)) long (scan_among _ a 0))

  -- the position is the one that the definition has
  pub looked-at : looked_at l s q a ≡ found_at l s q p
  unfolding looked_at
  looked-at =
      let read = part_taken l (accounts_from q) (accounts_from q) c refl in
      rw (← size) (ap (found_at l s q) (sym (found ∙ ap (λ (x : List ℕ). scan x a 0) read)))

pub lookup_later :
    (l : List ℕ) (s : Settings) (p k : ℕ) → k ≢ 0 → lookup_at l s p k ≡ ended_at l p k 0
    (looked_at l s (held_by l p) (word l (p + worker_account)))
unfolding lookup_at
lookup_later l s p zero h = absurd (h refl)
lookup_later l s p (suc k) h = refl
