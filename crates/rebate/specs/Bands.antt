-- The bands of the yearly rebate: a constant table, and a test that starts ascend, which proofs/Ascends computes of it.
-- Rests on the type of a band, which src/lib.rt declares: where it starts, in cents, and its rate in hundredths of a
-- percent (basis points).
use Rattle.std.specs.Prelude.{ℕ, Bool, true, ◌&&◌, List, [], ◌∷◌, ltb, get_or}
use Rattle.rebate.specs.declared.Band.{Band}

-- each band starts above the one before
abbrev pub ascending : List Band → Bool
ascending [] = true
ascending (x ∷ []) = true
ascending (x ∷ y ∷ l) = ltb x.start y.start && ascending (y ∷ l)

-- a table of bands
pub record Schedule : Type 0 where
  pub bands : List Band

-- "up to 1,000,000 nothing; above that to 5,000,000 at 150 hundredths of a percent; above to 20,000,000 at 250; above
-- at 350": a band ends where the next one starts, and has its end in it
abbrev pub yearly : Schedule
yearly =
    record {
      bands = record { start = 0; rate = 0 } ∷ record { start = 1_000_000; rate = 150 }
          ∷ record { start = 5_000_000; rate = 250 } ∷ record { start = 20_000_000; rate = 350 } ∷ [];
    }

-- band i of them, from 0 on
abbrev pub band_at : ℕ → Band
band_at i = get_or yearly.bands i (record { start = 0; rate = 0 })
