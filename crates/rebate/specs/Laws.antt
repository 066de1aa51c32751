-- What holds of the rebate, whatever the total is. Rests on its definition.
use Rattle.std.specs.Prelude.{ℕ, ◌+◌, ◌-◌, ◌*◌, ◌≤◌, ◌≡◌, true, List, [], ◌∷◌, ℤ, pos, negsuc, ◌≤ℤ◌}
use Rattle.rebate.specs.declared.Band.{Band}
use Rattle.rebate.specs.Bands.{ascending, yearly}
use Rattle.rebate.specs.Rebate.{inside, due_by, rebate_on}

-- the parts inside these bands, together
unfoldable pub inside_all : List Band → ℕ → ℕ
inside_all [] t = 0
inside_all (x ∷ l) t = inside (x ∷ l) t + inside_all l t

-- what is due in each of the four bands, in ten-thousandths of a cent; a band's end belongs to it
pub record ByBand : Type 0 where
  -- "up to 1,000,000 nothing"
  pub first : (t : ℕ) → t ≤ 1_000_000 → due_by yearly.bands t ≡ 0
  -- "above that to 5,000,000 at 150 hundredths of a percent"
  pub second :
      (t : ℕ) → 1_000_000 ≤ t → t ≤ 5_000_000 → due_by yearly.bands t ≡ (t - 1_000_000) * 150
  -- "above to 20,000,000 at 250": 60,000 cents are due by the band below
  pub third :
      (t : ℕ) → 5_000_000 ≤ t → t ≤ 20_000_000 → due_by yearly.bands t ≡ 600_000_000 + (t - 5_000_000) * 250
  -- "above at 350": 435,000 cents are due by the bands below
  pub fourth : (t : ℕ) → 20_000_000 ≤ t → due_by yearly.bands t ≡ 4_350_000_000 + (t - 20_000_000) * 350

pub record RebateLaws : Type 0 where
  -- each band of the table starts above the one before
  pub ascends : ascending yearly.bands ≡ true
  -- each cent of a total is in one band
  pub whole : (t : ℕ) → inside_all yearly.bands t ≡ t
  pub by_band : ByBand
  -- "Negative totals get 0."
  pub negative : (t : ℕ) → rebate_on (negsuc t) ≡ 0
  -- never above the total where that is 0 or more
  pub bounded : (t : ℕ) → rebate_on (pos t) ≤ t
  -- on a greater total it is no less
  pub monotone : (x y : ℤ) → x ≤ℤ y → rebate_on x ≤ rebate_on y
