-- `begin` writes an operation into a worker's words, as `begun_at` says.
-- Rests on the bounds of a worker's words.
use native.Mathlib.Omega.{arith}
use Rattle.layout.proofs.Positions.{Placed, placed}
use Rattle.calls.specs.Calls.{begun_at}
use Rattle.calls.proofs.begin.Goals as goal
use Rattle.calls.proofs.begin.Goals.{After-worker_at-p}

-- the worker's record lies inside the words
inside : (c : After-worker_at-p) → Placed c.args.words.now c.args.g c.worker_at-p.result
inside c = rw c.worker_at-p.ensures (placed c.requires.0 _ c.requires.1)

pub overflow_add-p : goal.overflow_add-p
overflow_add-p c = let b = inside (goal.at.overflow_add-p c).After-worker_at-p in omega arith

pub put-requires : goal.put-requires
put-requires c = let b = inside (goal.at.put-requires c).After-worker_at-p in omega arith

pub overflow_add-p-2 : goal.overflow_add-p-2
overflow_add-p-2 c = let b = inside (goal.at.overflow_add-p-2 c).After-worker_at-p in omega arith

pub put-requires-2 : goal.put-requires-2
put-requires-2 c = let b = inside (goal.at.put-requires-2 c).After-worker_at-p in omega arith

pub overflow_add-p-3 : goal.overflow_add-p-3
overflow_add-p-3 c = let b = inside (goal.at.overflow_add-p-3 c).After-worker_at-p in omega arith

pub put-requires-3 : goal.put-requires-3
put-requires-3 c = let b = inside (goal.at.put-requires-3 c).After-worker_at-p in omega arith

pub overflow_add-p-4 : goal.overflow_add-p-4
overflow_add-p-4 c =
    let b = inside (goal.at.overflow_add-p-4 c).After-worker_at-p in
    omega arith

pub put-requires-4 : goal.put-requires-4
put-requires-4 c =
    let b = inside (goal.at.put-requires-4 c).After-worker_at-p in
    omega arith

pub overflow_add-p-5 : goal.overflow_add-p-5
overflow_add-p-5 c =
    let b = inside (goal.at.overflow_add-p-5 c).After-worker_at-p in
    omega arith

pub put-requires-5 : goal.put-requires-5
put-requires-5 c =
    let b = inside (goal.at.put-requires-5 c).After-worker_at-p in
    omega arith

pub returns : goal.returns
unfolding begun_at
returns c =
    rw (← c.worker_at-p.ensures, ← c.put.ensures, ← c.put-2.ensures, ← c.put-3.ensures, ← c.put-4.ensures)
    c.put-5.ensures
