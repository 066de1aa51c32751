-- `take`: the measure is how many bytes of the block are left.
use lib.ListN.{length}
use Rattle.totals.proofs.Lent.take.Given as goal

abbrev pub decreases-loop-rest : goal.decreases-loop-rest
decreases-loop-rest g l = length l.rest
