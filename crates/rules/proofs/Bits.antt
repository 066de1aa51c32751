-- Laws of single bits of a word: one set, one taken away, one flipped; what is left is a word, and the other bits stay.
-- Rests on the laws of powers of two.
use Prim.Native.Nat.{ℕ, suc, ◌+◌, ◌-◌, ◌*◌, ◌/◌, ◌%◌, ◌^◌, ◌≤◌, ◌<◌}
use native.Mathlib.Nat.{one-mul, add-div_right, add-mul-div_right, mod-lt, div-lt_iff_lt-mul, div-eq_of_lt}
use native.Mathlib.Omega.{arith}
use native.Mathlib.Decide.{dec_lt}
use mathlib.Core.Path.{◌≡◌, sym, ◌∙◌, ap}
use mathlib.Core.Logic.{◌≢◌, by_cases}
use lib.Pow.{pow-add, pow_pos, shr-shr, shl_exact}
use Rattle.machine.proofs.laws.Base.{eq_elim, if_eq, if_ne}
use Rattle.rules.specs.Rules.{bit, flip_bit, with_bit}

pow_above : (n w : ℕ) → w < n → 2 ^ n ≡ 2 ^ (n - suc w) * 2 * 2 ^ w
pow_above n w h =
    let e : n ≡ n - suc w + 1 + w = omega arith in
    ap (λ (k : ℕ). 2 ^ k) e ∙ pow-add 2 (n - suc w + 1) w ∙ ap (λ (k : ℕ). k * 2 ^ w) (pow-add 2 (n - suc w) 1)

-- a bit that is 0 can be set in a word of n bits
pub bit_room : (x w n : ℕ) → w < n → x < 2 ^ n → bit x w ≡ 0 → x + 2 ^ w < 2 ^ n
unfolding bit
bit_room x w n h b clear =
    let p = pow_above n w h in
    let low : x / 2 ^ w < 2 ^ (n - suc w) * 2 = (div-lt_iff_lt-mul (pow_pos w)).1 (rw p at b) in
    let more = add-div_right x (pow_pos w) in
    rw p ((div-lt_iff_lt-mul (pow_pos w)).0 (omega arith))

-- a bit that is not 0 can be taken away
pub bit_clear_fits : (x w : ℕ) → (bit x w ≡ 0 → ⊥) → 2 ^ w ≤ x
unfolding bit
bit_clear_fits x w e = go (dec_lt x (2 ^ w))
  where
    go : Dec (x < 2 ^ w) → 2 ^ w ≤ x
    go (yes h) = absurd (e (rw (div-eq_of_lt h)))
    go (no h) = omega arith

pub bit_below : (x j : ℕ) → bit x j < 2
unfolding bit
bit_below x j = mod-lt (x / 2 ^ j) (omega arith)

-- ---- a bit that is 0 set

module _ (x w : ℕ) (clear : bit x w ≡ 0) where
  above : (x + 2 ^ w) / 2 ^ w ≡ x / 2 ^ w + 1
  above = add-div_right x (pow_pos w)

  pub bit_set : bit (x + 2 ^ w) w ≡ 1
  unfolding bit
  bit_set = let e = above in let z : x / 2 ^ w % 2 ≡ 0 = clear in rw above (omega arith)

  pub bit_beside : (j : ℕ) → j ≢ w → bit (x + 2 ^ w) j ≡ bit x j
  unfolding bit
  bit_beside j d = by_cases (dec_lt j w) lower higher
    where
      -- the bits from j on change by an even number
      lower : j < w → (x + 2 ^ w) / 2 ^ j % 2 ≡ x / 2 ^ j % 2
      lower h =
          let q : (x + 2 ^ w) / 2 ^ j ≡ x / 2 ^ j + 2 ^ (w - suc j) * 2 =
          ap (λ (k : ℕ). (x + k) / 2 ^ j) (pow_above w j h) ∙ add-mul-div_right x (2 ^ (w - suc j) * 2) (pow_pos j) in
          rw q (omega arith)

      -- the bits above w stay
      higher : (j < w → ⊥) → (x + 2 ^ w) / 2 ^ j % 2 ≡ x / 2 ^ j % 2
      higher h =
          let e : j ≡ w + (1 + (j - suc w)) = omega arith in
          let half : (x + 2 ^ w) / 2 ^ w / 2 ≡ x / 2 ^ w / 2 = let z : x / 2 ^ w % 2 ≡ 0 = clear in rw above (omega arith) in
          let down : (y : ℕ) → y / 2 ^ j ≡ y / 2 ^ w / 2 / 2 ^ (j - suc w) =
          λ y. ap (λ (k : ℕ). y / 2 ^ k) e ∙ sym (shr-shr y w (1 + (j - suc w))) ∙ sym (shr-shr (y / 2 ^ w) 1 (j - suc w)) in
          ap (λ (k : ℕ). k % 2) (down (x + 2 ^ w) ∙ ap (λ (k : ℕ). k / 2 ^ (j - suc w)) half ∙ sym (down x))

-- ---- a bit that is 1 taken away

module _ (x w : ℕ) (is : bit x w ≡ 1) where
  rest : x - 2 ^ w + 2 ^ w ≡ x
  rest = let h = bit_clear_fits x w (λ e. omega (arith, is)) in omega arith

  pub bit_cleared : bit (x - 2 ^ w) w ≡ 0
  unfolding bit
  bit_cleared =
      let e : x / 2 ^ w ≡ (x - 2 ^ w) / 2 ^ w + 1 = ap (λ (k : ℕ). k / 2 ^ w) (sym rest) ∙ add-div_right (x - 2 ^ w) (pow_pos w) in
      let z : x / 2 ^ w % 2 ≡ 1 = is in
      omega arith

  pub bit_left : (j : ℕ) → j ≢ w → bit (x - 2 ^ w) j ≡ bit x j
  bit_left j d = sym (bit_beside (x - 2 ^ w) w bit_cleared j d) ∙ ap (λ (k : ℕ). bit k j) rest

-- ---- a bit flipped

module _ (x w : ℕ) where
  pub is_one : bit x w ≢ 0 → bit x w ≡ 1
  is_one d = let h = bit_below x w in omega arith

  pub flip_own : bit (flip_bit x w) w ≢ bit x w
  unfolding flip_bit
  flip_own = eq_elim (λ y. bit y w ≢ bit x w) (bit x w) 0 _ _
      (λ e f. omega (arith, bit_set x w e))
      (λ d f. omega (arith, bit_cleared x w (is_one d), is_one d))

  pub flip_others : (j : ℕ) → j ≢ w → bit (flip_bit x w) j ≡ bit x j
  unfolding flip_bit
  flip_others j d = eq_elim (λ y. bit y j ≡ bit x j) (bit x w) 0 _ _ (λ e. bit_beside x w e j d) (λ f. bit_left x w (is_one f) j d)

-- ---- the code's own bit: 1 shifted up

-- a shifted 1 does not leave the word
pub shift_one : (w : ℕ) → w < 64 → 1 * 2 ^ w % 2 ^ 64 ≡ 2 ^ w
shift_one w h = shl_exact {a = 1} 1 w 64 (omega arith) (omega arith) ∙ one-mul (2 ^ w)

pub flip_set : (x w : ℕ) → bit x w ≡ 0 → w < 64 → x + 1 * 2 ^ w % 2 ^ 64 ≡ flip_bit x w
unfolding flip_bit
flip_set x w e h = ap (λ (k : ℕ). x + k) (shift_one w h) ∙ sym (if_eq (bit x w) 0 (x + 2 ^ w) (x - 2 ^ w) e)

pub flip_clear : (x w : ℕ) → (bit x w ≡ 0 → ⊥) → w < 64 → x - 1 * 2 ^ w % 2 ^ 64 ≡ flip_bit x w
unfolding flip_bit
flip_clear x w e h = ap (λ (k : ℕ). x - k) (shift_one w h) ∙ sym (if_ne (bit x w) 0 (x + 2 ^ w) (x - 2 ^ w) e)

-- a bit that is 0 is set by a change
pub mark_set : (x w : ℕ) → bit x w ≡ 0 → flip_bit x w ≡ with_bit x w
unfolding flip_bit with_bit
mark_set x w e = if_eq (bit x w) 0 (x + 2 ^ w) (x - 2 ^ w) e ∙ sym (if_eq (bit x w) 0 (x + 2 ^ w) x e)

pub mark_kept : (x w : ℕ) → (bit x w ≡ 0 → ⊥) → with_bit x w ≡ x
unfolding with_bit
mark_kept x w e = if_ne (bit x w) 0 (x + 2 ^ w) x e
