-- `dues` gives the workers whose update is due, as bits. The loop's invariant: the bits of the workers passed.
-- Rests on the turn for one worker more.
use Rattle.fields.specs.Regions.{worker_at}
use Rattle.taking.proofs.TakingLaws.{Dues}
use Rattle.taking.proofs.dues.Given as goal

abbrev pub invariant-loop-i : goal.invariant-loop-i
invariant-loop-i l = Dues l.words l.g (worker_at l.g.workers l.w) l.q l.bits l.i
