-- Laws of the rules: the room that is left for a new account that is not crowded, and each case of a pending update. Rests on the rules.
use Prim.Native.Nat.{ℕ, ◌^◌, ◌≤◌, ◌<◌}
use mathlib.Core.Path.{◌≡◌, ap}
use mathlib.Core.Logic.{◌≢◌}
use mathlib.Core.Bool.{true, false, not}
use native.Mathlib.Nat.{div-eq_of_lt, lt_of_lt_of_le}
use lib.Dec.{ltb, eqb}
use lib.Pow.{pow_mono}
use borrow.Author.Tests.{leb-false, le-ltb, eq-eqb, ne_eqb}
use Rattle.interface.specs.Numbers.{kind_insert, kind_post}
use Rattle.interface.specs.declared.Settings.{Settings}
use Rattle.machine.specs.Choice.{◌and◌}
use Rattle.machine.proofs.laws.Base.{no_both, is_false, and_right, and_left_false, and_right_false}
use Rattle.arrays.specs.declared.Position.{Position}
use Rattle.arrays.specs.declared.Position.TheVariants.{Before}
use Rattle.rules.specs.Rules.{full_by, creates_by, crowded_by, bit, pending_by}

-- ---- new accounts

module _ (kind i : ℕ) (p : Position) (missing : p ≡ Before i) where
  pub creates_insert : kind ≡ kind_insert → creates_by kind p ≡ true
  unfolding creates_by
  creates_insert e = rw (missing, e)

  pub creates_post : kind ≢ kind_insert → creates_by kind p ≡ eqb kind kind_post
  unfolding creates_by
  creates_post d = rw (missing, ne_eqb kind kind_insert d)

-- a new account that is not crowded has room
pub room_left :
    (s : Settings) (count kind : ℕ) (p : Position) → creates_by kind p ≡ true → crowded_by s count kind p ≡ false → count < s.capacity
unfolding crowded_by full_by
room_left s count kind p new e = leb-false s.capacity count (is_false _ (λ full. no_both new (and_right _ _ e full)))

-- ---- whether an update is pending

-- a word has 64 bits
pub bit_past : (w j : ℕ) → w < 2 ^ 64 → 64 ≤ j → bit w j ≡ 0
unfolding bit
bit_past w j h k = rw (div-eq_of_lt (lt_of_lt_of_le h (pow_mono k)))

module _ (toggle applied j settled ticket : ℕ) where
  pub pending_same : bit toggle j ≡ bit applied j → pending_by toggle applied j settled ticket ≡ false
  unfolding pending_by
  pending_same e = and_left_false (ltb settled ticket) (ap not (eq-eqb (bit toggle j) (bit applied j) e))

  pub pending_settled : ticket ≤ settled → pending_by toggle applied j settled ticket ≡ false
  unfolding pending_by
  pending_settled h = rw (le-ltb settled ticket h) (and_right_false (not (eqb (bit toggle j) (bit applied j))))

  pub pending_differs : bit toggle j ≢ bit applied j → pending_by toggle applied j settled ticket ≡ ltb settled ticket
  unfolding pending_by ◌and◌
  pending_differs d = rw (ne_eqb (bit toggle j) (bit applied j) d)
