-- `inside` gives the part inside band i: one band follows, or none. Rests on the laws of the part inside a band.
use Prim.Native.Nat.{suc, ◌-◌}
use native.Mathlib.Numerals.{add-one}
use native.Mathlib.Omega.{arith}
use mathlib.Core.Path.{◌≡◌, sym, ◌∙◌}
use Rattle.rebate.specs.Bands.{yearly, band_at}
use Rattle.rebate.proofs.Dues.{none, inside_between, inside_last}
use Rattle.rebate.proofs.inside.Goals as goal
use Rattle.rebate.proofs.inside.Goals.{After-above-part}

-- what is above the start of band i
first : (c : After-above-part) → c.above-part.result ≡ c.args.amount - (band_at c.args.i).start
first c = rw c.band_at.ensures at c.above-part.ensures

pub returns-in-Some : goal.returns-in-Some
returns-in-Some c =
    let s = c.args in
    let next = rw add-one at (c.in-Some.ensures.lookup.3.1 none) in
    let second = rw next at c.above.ensures in
    omega (arith, inside_between yearly.bands s.i s.amount (omega (arith, c.in-Some.ensures.lookup.3.0)), first (goal.at.returns-in-Some c).After-above-part)

pub returns-in-None : goal.returns-in-None
returns-in-None c =
    let s = c.args in
    let e : suc s.i ≡ 4 = omega (arith, c.in-None.ensures.lookup.3) in
    first (goal.at.returns-in-None c).After-above-part ∙ sym (inside_last yearly.bands s.i s.amount e)
