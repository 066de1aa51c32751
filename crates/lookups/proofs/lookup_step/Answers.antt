-- `lookup_step` reads the directory, or looks and ends, as `lookup_at` says.
-- Rests on the bounds of words that fit.
use Rattle.layout.specs.Addresses.{held_by, bucket_read_at}
use Rattle.layout.proofs.Positions.{long, record_in_inside}
use Rattle.lookups.proofs.LookupLaws.{lookup_later}
use Rattle.calls.specs.Calls.{ended_at}
use Rattle.lookups.specs.Lookups.{lookup_at}
use Rattle.lookups.proofs.lookup_step.Goals as goal

pub returns-then-k-eq0 : goal.returns-then-k-eq0
unfolding lookup_at bucket_read_at
returns-then-k-eq0 c =
    rw (c.if-k-eq0.true, ← c.get.ensures, ← c.record_of-q.ensures, ← c.put.ensures)

pub look-answer-requires : goal.look-answer-requires
look-answer-requires c =
    (c.requires.0, rw c.record_in-q.ensures (record_in_inside _ _ (long c.requires.0)))

pub returns : goal.returns
unfolding ended_at held_by
returns c =
    rw (
      lookup_later _ _ _ _ c.if-k-eq0.false,
      c.completed.ensures,
      ← c.get-2.ensures,
      ← c.record_in-q.ensures,
      ←
          c.get-3.ensures,
      ← c.look-answer.ensures,
      ← c.finish.ensures,
    )
