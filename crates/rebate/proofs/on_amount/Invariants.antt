-- `on_amount` sums the bands. The loop's invariant: cents, parts and what is due by the bands from i on come to what is due. Rests on
-- the laws of what is due.
use Prim.Native.Nat.{◌+◌, ◌*◌, ◌≤◌}
use mathlib.Core.Path.{◌≡◌}
use lib.ListN.{drop}
use Rattle.rebate.specs.Bands.{yearly}
use Rattle.rebate.specs.Rebate.{whole_rate, due_by}
use Rattle.rebate.proofs.on_amount.Given as goal

abbrev pub invariant-loop-i : goal.invariant-loop-i
invariant-loop-i l = record {
  cents : l.cents ≤ l.i * 400_000_000_000_000_000;
  parts : l.parts ≤ l.i * 3_500_000;
  due : whole_rate * l.cents + l.parts + due_by (drop l.i yearly.bands) l.amount ≡ due_by yearly.bands l.amount;
}
