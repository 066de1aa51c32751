-- `carry` carries out one update in a record.
-- Rests on the words of the slot one after another.
use Rattle.fields.specs.Regions.{worker_at}
use Rattle.taking.proofs.TakingLaws.{carried_is}
use Rattle.taking.proofs.carry.Goals as goal

pub store_state-requires : goal.store_state-requires
store_state-requires c =
    let known = c.requires in
    (known.1.1.1, (known.0.capacity, known.0.workers))

pub returns : goal.returns
returns c =
    let args = c.args in
    carried_is _ _ _ (worker_at args.g.workers args.w) args.i _ _ _ _ c.load_state-s.ensures c.slot_read-u.ensures
    c.carry.ensures c.store_state.ensures
