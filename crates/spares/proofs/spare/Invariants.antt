-- `spare` gives the next record to use. The loop's invariant: the search from r on, for the records left, is the whole search.
-- Rests on the turns of the search.
use Prim.Native.Nat.{◌-◌, ◌<◌}
use mathlib.Core.Path.{◌≡◌}
use Rattle.fields.specs.Regions.{pool_size}
use Rattle.spares.specs.Records.{spare_from, spare_of}
use Rattle.spares.proofs.spare.Given as goal

abbrev pub invariant-loop-k : goal.invariant-loop-k
invariant-loop-k l = (l.r < pool_size l.g) × (spare_from l.words l.g l.r (l.all - l._k) ≡ spare_of l.words l.g)
