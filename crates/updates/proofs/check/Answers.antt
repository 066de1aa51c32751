-- `check` ends an operation, or lets it go on, as `check_at` says of what `checked_at` finds: a case for each end.
-- Rests on the laws of a check, and on the bounds of words that fit.
use Prim.Native.Nat.{◌+◌, ◌≤◌}
use native.Mathlib.Omega.{arith}
use mathlib.Core.Path.{◌∙◌}
use lib.ListN.{length}
use Rattle.fields.specs.Fields.{widest_record}
use Rattle.layout.proofs.Positions.{Placed, placed}
use Rattle.calls.specs.Calls.{ended_at}
use Rattle.updates.specs.Updates.{update_at}
use Rattle.updates.proofs.UpdateLaws.{held_room, check_settled, check_moved}
use Rattle.updates.proofs.check.Goals as goal
use Rattle.updates.proofs.check.Goals.{After-held_by-q, After-worker_at-p}

-- the record held is inside the words, and so is the worker's record
inside : (c : After-held_by-q) → c.held_by-q.result + widest_record ≤ length c.args.words.now
inside c =
    held_room _ _ c.requires.0 c.held_by-q.ensures

own :
    (c : After-worker_at-p) → let args = c.args in
    Placed args.words.now args.g c.worker_at-p.result
own c = rw c.worker_at-p.ensures (placed c.requires.0 _ c.requires.1.0)

pub settled_ticket-requires : goal.settled_ticket-requires
settled_ticket-requires c =
    let known = c.requires in
    (known.0, (known.1.0, inside (goal.at.settled_ticket-requires c).After-held_by-q))

pub overflow_add-p : goal.overflow_add-p
overflow_add-p c = let b = own (goal.at.overflow_add-p c).After-worker_at-p in omega arith

pub get-requires : goal.get-requires
get-requires c = let b = own (goal.at.get-requires c).After-worker_at-p in omega arith

pub returns-then-settled_ticket-get : goal.returns-then-settled_ticket-get
unfolding update_at
returns-then-settled_ticket-get c =
    rw (← c.held_by-q.ensures, ← c.worker_at-p.ensures)
    (check_moved _ _ _ _ _ _ _ _ c.get.ensures c.settled_ticket.ensures c.if-settled_ticket-get.true)

pub settled_answer-requires : goal.settled_answer-requires
settled_answer-requires c =
    let known = c.requires in
    (known.0, (known.1.0, inside (goal.at.settled_answer-requires c).After-held_by-q))

pub settled_total-requires : goal.settled_total-requires
settled_total-requires c =
    let known = c.requires in
    (known.0, (known.1.0, inside (goal.at.settled_total-requires c).After-held_by-q))

pub finish-requires : goal.finish-requires
finish-requires c =
    let b = own (goal.at.finish-requires c).After-worker_at-p in omega arith

pub returns : goal.returns
unfolding update_at ended_at
returns c =
    rw (← c.held_by-q.ensures, ← c.worker_at-p.ensures)
    (check_settled _ _ _ _ _ _ _ _ c.get.ensures c.settled_ticket.ensures _ _ c.if-settled_ticket-get.false
    (c.answer_of-answer.ensures ∙ rw (c.settled_answer.ensures, c.settled_total.ensures))
    (rw (c.finish.ensures, c.completed.ensures, c.check_number.ensures)))
