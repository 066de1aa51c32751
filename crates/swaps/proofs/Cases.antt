-- The two cases of the bucket swap, as the code tests them: each takes what the code has read.
-- Rests on the definition of the bucket swap.
use Prim.Native.Nat.{ℕ, ◌+◌}
use native.Mathlib.Omega.{arith}
use mathlib.Core.Path.{◌≡◌, sym}
use mathlib.Core.List.{List}
use lib.ListN.{set}
use Rattle.interface.specs.declared.Settings.{Settings}
use Rattle.fields.specs.Fields.{worker_state, record_number}
use Rattle.machine.proofs.laws.Base.{if_eq, if_ne}
use Rattle.layout.specs.Shape.{word}
use Rattle.renumbering.specs.Numbers.{fresh_number}
use Rattle.inplace.specs.InPlace.{round_at}
use Rattle.swaps.specs.BucketSwap.{swapped_at}

module _ (l : List ℕ) (s : Settings) (p q a b : ℕ) where
  module _ (known : a ≡ word l (p + worker_state)) (now : b ≡ word l (q + record_number)) where
    pub swap_none : (a ≡ b → ⊥) → l ≡ swapped_at l s p q
    unfolding swapped_at
    swap_none d = sym (if_ne (word l (p + worker_state)) (word l (q + record_number)) _ l (λ e. d (omega arith)))

    pub swap_done :
        a ≡ b → (m : List ℕ) (x : ℕ) → m ≡ round_at l s p q → x ≡ fresh_number l s.workers q
        → set m (q + record_number) x ≡ swapped_at l s p q
    unfolding swapped_at
    swap_done e m x em ex = rw (em, ex) (sym (if_eq (word l (p + worker_state)) (word l (q + record_number)) _ l (omega arith)))
