-- `on_amount` sums the bands.
use Prim.Native.Nat.{ℕ, ◌*◌, ◌/◌, ◌%◌, ◌≤◌}
use native.Mathlib.Numerals.{add-one}
use native.Mathlib.Omega.{arith}
use mathlib.Core.Path.{◌≡◌, ap}
use lib.ListN.{drop}
use Rattle.rebate.specs.declared.Band.{Band}
use Rattle.rebate.specs.Bands.{yearly, band_at}
use Rattle.rebate.specs.Rebate.{whole_rate, due_by, rounded}
use Rattle.rebate.proofs.Dues.{inside_most, rate_most, due_added, cents_most, parts_most}
use Rattle.rebate.proofs.on_amount.Goals as goal
use Rattle.rebate.proofs.on_amount.Goals.{After-band_at-rate}

-- one turn: its part, its rate, and what they come to
module _ (c : After-band_at-rate) where
  abbrev i : ℕ
  i = c.loop-i.i

  abbrev part : ℕ
  part = c.inside-part.result

  abbrev rate : ℕ
  rate = c.band_at-rate.result.rate

  rate_is : rate ≡ (band_at i).rate
  rate_is = ap (λ (x : Band). x.rate) c.band_at-rate.ensures

  cents : part / whole_rate * rate ≤ 400_000_000_000_000_000
  cents =
      let n = inside_most (drop i yearly.bands) c.args.amount in
      let e = c.inside-part.ensures in
      let h = c.requires in
      cents_most part rate (omega arith) (rw rate_is (rate_most i))

  parts : part % whole_rate * rate ≤ 3_500_000
  parts = parts_most part rate (rw rate_is (rate_most i))

pub overflow_mul-cents : goal.overflow_mul-cents
overflow_mul-cents c = omega (arith, cents c)

pub overflow_add-cents : goal.overflow_add-cents
overflow_add-cents c = let n = c.loop-i.invariant in omega (arith, cents c)

pub overflow_mul-parts : goal.overflow_mul-parts
overflow_mul-parts c = omega (arith, parts c)

pub overflow_add-parts : goal.overflow_add-parts
overflow_add-parts c = let n = c.loop-i.invariant in omega (arith, parts c)

pub loop-i-preserved : goal.loop-i-preserved
loop-i-preserved c =
    let l = c.loop-i in
    record {
      cents = omega (arith, cents c);
      parts = omega (arith, parts c);
      due = rw add-one (due_added yearly.bands (i c) _ _ _ _ _ _ (omega arith) c.inside-part.ensures (rate_is c) l.invariant.due);
    }

pub overflow_add-result : goal.overflow_add-result
overflow_add-result c = let n = c.loop-i.invariant in omega arith

pub overflow_add-result-2 : goal.overflow_add-result-2
overflow_add-result-2 c = let n = c.loop-i.invariant in omega arith

pub returns : goal.returns
unfolding due_by rounded
returns c =
    let l = c.loop-i in
    let e : l.i ≡ 4 = omega arith in
    let h = rw e at l.invariant.due in
    omega arith
