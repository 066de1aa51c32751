-- The yearly rebate on a total in cents (document 02, No. 13), for every total. Rests on the bands.
use Rattle.std.specs.Prelude.{ℕ, ◌+◌, ◌-◌, ◌*◌, ◌/◌, List, [], ◌∷◌, ℤ, pos, negsuc}
use Rattle.rebate.specs.declared.Band.{Band}
use Rattle.rebate.specs.Bands.{yearly}

-- the whole in hundredths of a percent: a cent at rate r comes to r of its 10,000 parts
abbrev pub whole_rate : ℕ
whole_rate = 10_000

-- "the part inside its band", of t cents, for the first of these bands: what is above its start, without what is above
-- the next one's, each 0 where t does not reach so far; the last band has no end
unfoldable pub inside : List Band → ℕ → ℕ
inside [] t = 0
inside (x ∷ []) t = t - x.start
inside (x ∷ next ∷ l) t = t - x.start - (t - next.start)

-- "Each rate is for the part inside its band.": the sum over these bands, in ten-thousandths of a cent
unfoldable pub due_by : List Band → ℕ → ℕ
due_by [] t = 0
due_by (x ∷ l) t = inside (x ∷ l) t * x.rate + due_by l t

-- "rounded once to the cent, half upward"
unfoldable pub rounded : ℕ → ℕ
rounded due = (due + whole_rate / 2) / whole_rate

-- "The yearly rebate is due on each account's total in cents, by bands"; "Negative totals get 0."
unfoldable pub rebate_on : ℤ → ℕ
rebate_on (pos t) = rounded (due_by yearly.bands t)
rebate_on (negsuc t) = 0
