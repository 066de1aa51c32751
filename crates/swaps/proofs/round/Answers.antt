-- `round` stores the record's state after a round with what the worker has read; its own update, where it is alone, is carried out in
-- the words. Rests on the cases of `round_at`.
use Prim.Native.Nat.{ℕ, ◌+◌, ◌*◌}
use native.Mathlib.Omega.{arith}
use mathlib.Core.Path.{◌∙◌, ap}
use Rattle.fields.specs.Fields.{slot_size, worker_slots}
use Rattle.fields.specs.Regions.{worker_at}
use Rattle.layout.proofs.Positions.{Placed, placed}
use Rattle.rules.specs.Rules.{flip_bit}
use Rattle.inplace.proofs.Rounds.{round_none, round_done}
use Rattle.lists.proofs.PartLaws.{part_taken}
use Rattle.swaps.proofs.round.Goals as goal
use Rattle.swaps.proofs.round.Goals.{After-worker_at-from}

-- the worker's record lies inside the words
own :
    (c : After-worker_at-from)
    → let args = c.args in
    Placed args.words.now args.g c.worker_at-from.result
own c =
    let known = c.requires in
    rw c.worker_at-from.ensures (placed known.0 _ known.1.0)

pub returns-then-toggle-applied : goal.returns-then-toggle-applied
returns-then-toggle-applied c =
    let args = c.args in
    round_none _ _ (worker_at args.g.workers args.w) _ _ _ c.worker_word-toggle.ensures c.get-applied.ensures c.if-toggle-applied.true

pub own_round-requires : goal.own_round-requires
own_round-requires c =
    let known = c.requires in
    let bit = c.if-toggle-flip_bit.true ∙ c.flip_bit.ensures ∙ ap (λ (x : ℕ). flip_bit x c.args.w) c.get-applied.ensures in
    (known.0, (known.1.0, (known.1.1, (c.worker_word-toggle.ensures, bit))))

pub overflow_add-from : goal.overflow_add-from
overflow_add-from c = let b = own c in omega arith

pub overflow_add-to : goal.overflow_add-to
overflow_add-to c = let b = own c in omega arith

pub offset_bounds-words-from : goal.offset_bounds-words-from
offset_bounds-words-from c = let b = own c in omega arith

pub slice_bounds-round-end : goal.slice_bounds-round-end
slice_bounds-round-end c = let b = own (goal.at.slice_bounds-round-end c).After-worker_at-from in omega arith

pub store_state-requires : goal.store_state-requires
store_state-requires c =
    let known = c.requires in
    (known.1.1, (known.0.capacity, known.0.workers))

pub returns-else-toggle-flip_bit : goal.returns-else-toggle-flip_bit
returns-else-toggle-flip_bit c =
    let args = c.args in
    let l = args.words.now in
    let slots = part_taken l _ _ (slot_size * args.g.workers) (ap (λ (p : ℕ). p + worker_slots) c.worker_at-from.ensures) in
    round_done l args.g (worker_at args.g.workers args.w) args.q _ _ c.worker_word-toggle.ensures c.get-applied.ensures
    c.if-toggle-applied.false _ _ _ _ _ c.load_state-s.ensures slots c.get-depth.ensures c.round-t.ensures
    c.store_state.ensures
