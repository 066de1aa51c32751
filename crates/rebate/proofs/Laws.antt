-- The laws of the rebate: for bands that ascend, whichever they are, that each cent is in one and that more cents are due no less; then
-- for the table. Rests on the definition of the rebate.
use Prim.Native.Nat.{ℕ, ◌+◌, ◌-◌, ◌*◌, ◌≤◌}
use native.Mathlib.Nat.{sub-zero, mul-le-mul_right}
use native.Mathlib.Omega.{arith}
use mathlib.Core.Path.{◌≡◌, refl, ◌∙◌}
use mathlib.Core.Bool.{true}
use mathlib.Core.List.{List, [], ◌∷◌}
use lib.IntN.{ℤ, pos, negsuc}
use lib.Signed.{◌≤ℤ◌}
use mir.Facts.{leb_yes}
use Rattle.rebate.specs.declared.Band.{Band}
use Rattle.rebate.specs.Bands.{ascending, yearly}
use Rattle.rebate.specs.Rebate.{inside, due_by, rounded, rebate_on}
use Rattle.rebate.specs.Laws.{inside_all, ByBand, RebateLaws}
use Rattle.rebate.proofs.Ascends.{ascends}
use Rattle.rebate.proofs.Dues.{next_above, rest_ascends}

-- ---- bands that ascend

inside_whole : (x : Band) (l : List Band) (t : ℕ) → ascending (x ∷ l) ≡ true → inside_all (x ∷ l) t ≡ t - x.start
unfolding inside_all inside
inside_whole x [] t e = omega arith
inside_whole x (y ∷ l) t e =
    let h = inside_whole y l t (rest_ascends x (y ∷ l) e) in
    let k = next_above x y l e in
    omega arith

module _ (t u : ℕ) (more : t ≤ u) where
  inside_monotone : (l : List Band) → ascending l ≡ true → inside l t ≤ inside l u
  unfolding inside
  inside_monotone [] e = omega arith
  inside_monotone (x ∷ []) e = omega arith
  inside_monotone (x ∷ y ∷ l) e = let k = next_above x y l e in omega arith

  due_monotone : (l : List Band) → ascending l ≡ true → due_by l t ≤ due_by l u
  unfolding due_by
  due_monotone [] e = omega arith
  due_monotone (x ∷ l) e =
      let h = mul-le-mul_right x.rate (inside_monotone (x ∷ l) e) in
      let k = due_monotone l (rest_ascends x l e) in
      omega arith

-- ---- the table

-- what is due is the sum of what is above each start, at what its band has more than the one below
due_above : (t : ℕ) → due_by yearly.bands t ≡ 150 * (t - 1_000_000) + 100 * (t - 5_000_000) + 100 * (t - 20_000_000)
unfolding due_by inside
due_above t =
    summed (t - 1_000_000) (t - 5_000_000) (t - 20_000_000) (t - 0 - (t - 1_000_000)) (t - 1_000_000 - (t - 5_000_000))
    (t - 5_000_000 - (t - 20_000_000)) (omega arith) (omega arith)
  where
    summed : (b c d x y z : ℕ) → y + c ≡ b → z + d ≡ c → x * 0 + (y * 150 + (z * 250 + (d * 350 + 0))) ≡ 150 * b + 100 * c + 100 * d
    summed b c d x y z h k = omega arith

by_band : ByBand
by_band =
    record {
      first = λ t h. rw due_above (omega arith);
      second = λ t h k. rw due_above (omega arith);
      third = λ t h k. rw due_above (omega arith);
      fourth = λ t h. rw due_above (omega arith);
    }

bounded : (t : ℕ) → rebate_on (pos t) ≤ t
unfolding rebate_on rounded
bounded t = let h = due_above t in omega arith

monotone : (x y : ℤ) → x ≤ℤ y → rebate_on x ≤ rebate_on y
unfolding rebate_on rounded
monotone (pos t) (pos u) h = let k = due_monotone t u (leb_yes h.le) yearly.bands ascends in omega arith
monotone (pos t) (negsuc u) h = absurd h.le
monotone (negsuc t) y h = omega arith

pub rebate_laws : RebateLaws
unfolding rebate_on
rebate_laws =
    record {
      ascends = ascends;
      whole = λ t. inside_whole _ _ t ascends ∙ sub-zero t;
      by_band = by_band;
      negative = λ t. refl;
      bounded = bounded;
      monotone = monotone;
    }
