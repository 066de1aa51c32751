-- Single bits of a word, as the machine's arrays of bits have them: none in 0, and one flipped. Rests on the laws of single bits.
use Prim.Native.Nat.{ℕ, ◌%◌, ◌^◌}
use native.Mathlib.Nat.{zero-div}
use mathlib.Core.Path.{◌≡◌, ap}
use mathlib.Core.Logic.{◌≢◌}
use mathlib.Core.Bool.{false, not}
use lib.Dec.{eqb}
use Rattle.machine.proofs.laws.Base.{eq_elim}
use Rattle.rules.specs.Rules.{bit, flip_bit}
use Rattle.simulation.specs.Buckets.{bits_of}
use Rattle.rules.proofs.Bits.{bit_set, bit_cleared, is_one, flip_others}

pub bit_zero : (j : ℕ) → bit 0 j ≡ 0
unfolding bit
bit_zero j = ap (λ (k : ℕ). k % 2) (zero-div (2 ^ j))

pub no-bits : (j : ℕ) → bits_of 0 j ≡ false
unfolding bits_of
no-bits j = ap (λ (k : ℕ). eqb k 1) (bit_zero j)

-- ---- a bit flipped

module _ (x w : ℕ) where
  pub flip_here : bits_of (flip_bit x w) w ≡ not (bits_of x w)
  unfolding bits_of flip_bit
  flip_here = eq_elim (λ y. eqb (bit y w) 1 ≡ not (eqb (bit x w) 1)) (bit x w) 0 _ _
      (λ e. rw (bit_set x w e, e))
      (λ d. rw (bit_cleared x w (is_one x w d), is_one x w d))

  pub flip_beside : (j : ℕ) → j ≢ w → bits_of (flip_bit x w) j ≡ bits_of x j
  unfolding bits_of
  flip_beside j d = ap (λ (k : ℕ). eqb k 1) (flip_others x w j d)
