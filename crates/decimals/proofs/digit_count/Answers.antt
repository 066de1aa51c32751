-- `digit_count`: one more than the power of ten.
-- Rests on the laws that it cites and on the contracts of what is called.
use native.Mathlib.Omega.{arith}
use Rattle.decimals.proofs.DecimalLaws.{digit_count_at, digit_count_small}
use Rattle.decimals.proofs.digit_count.Goals as goal

pub returns-in-Some : goal.returns-in-Some
returns-in-Some c =
    let e = digit_count_at c.in-Some.k c.args.n c.in-Some.ensures.power_le c.in-Some.ensures.next_power_gt in
    omega (arith, c.in-Some.ensures.bound)

pub returns-in-None : goal.returns-in-None
returns-in-None c = omega (arith, c.in-None.ensures.none, digit_count_small c.args.n (omega (arith, c.in-None.ensures.none)))
