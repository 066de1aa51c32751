-- `swap` carries out a round and takes a fresh number, if the state is still the one that was read.
-- Rests on the cases of `swapped_at`, and on the bound of a held record.
use Prim.Native.Nat.{◌+◌, ◌≤◌}
use native.Mathlib.Omega.{arith}
use mathlib.Core.Path.{◌≡◌, ◌∙◌, ap}
use lib.ListN.{length}
use Rattle.fields.specs.Fields.{widest_record}
use Rattle.fields.specs.Regions.{worker_at}
use Rattle.swaps.specs.BucketSwap.{swapped_at}
use Rattle.layout.proofs.Positions.{held_inside}
use Rattle.swaps.proofs.Cases.{swap_none, swap_done}
use borrow.Author.Rules.{rules}
use Rattle.swaps.proofs.swap.Goals as goal
use Rattle.swaps.proofs.swap.Goals.{After-held_by-q}

-- the record that the worker holds is inside the words
inside : (c : After-held_by-q) → c.held_by-q.result + widest_record ≤ length c.args.words.now
inside c = rw c.held_by-q.ensures (held_inside c.requires.0 _)

pub overflow_add-q : goal.overflow_add-q
overflow_add-q c = let h = inside (goal.at.overflow_add-q c).After-held_by-q in omega arith

pub get-requires : goal.get-requires
get-requires c = let h = inside (goal.at.get-requires c).After-held_by-q in omega arith

pub returns-then-worker_word-get : goal.returns-then-worker_word-get
returns-then-worker_word-get c =
    let args = c.args in
    let p = worker_at args.g.workers args.w in
    swap_none args.words.now args.g p _ _ _ c.worker_word.ensures c.get.ensures c.if-worker_word-get.true
    ∙ ap (swapped_at args.words.now args.g p) c.held_by-q.ensures

pub round-requires : goal.round-requires
round-requires c =
    let known = c.requires in
    let h = inside (goal.at.round-requires c).After-held_by-q in (known.0, (known.1, omega arith))

pub overflow_add-q-2 : goal.overflow_add-q-2
overflow_add-q-2 c =
    let h = inside (goal.at.overflow_add-q-2 c).After-held_by-q in omega arith

pub put-requires : goal.put-requires
put-requires c =
    let h = inside (goal.at.put-requires c).After-held_by-q in
    let e : length c.round.new.words ≡ length c.args.words.now = search rules in
    omega arith

pub returns : goal.returns
returns c =
    let args = c.args in
    let p = worker_at args.g.workers args.w in
    c.put.ensures
    ∙ swap_done args.words.now args.g p _ _ _ c.worker_word.ensures c.get.ensures c.if-worker_word-get.false _ _
    c.round.ensures c.fresh_number-x.ensures
    ∙ ap (swapped_at args.words.now args.g p) c.held_by-q.ensures
