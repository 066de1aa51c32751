-- `marking` answers `marks`: the first `return` is of a worker with no update, the last two of the rest of the test.
-- Rests on the cases of `marks`, and on the bound of a bucket's record.
use Prim.Native.Nat.{◌+◌, ◌≤◌}
use native.Mathlib.Omega.{arith}
use mathlib.Core.Path.{◌≡◌, ◌∙◌}
use lib.ListN.{length}
use Rattle.fields.specs.Fields.{widest_record}
use Rattle.fields.specs.Regions.{worker_at}
use Rattle.rules.specs.Rules.{splittable_by}
use Rattle.layout.proofs.Positions.{record_inside}
use Rattle.record.specs.Bucket.{splittable_at}
use Rattle.record.proofs.Tests.{both_read}
use Rattle.marks.specs.StateStep.{splits_at}
use Rattle.marks.proofs.Cases.{marks_idle, marks_not, marks_found, splits_not, splits_by}
use Rattle.marks.proofs.marking.Goals as goal
use Rattle.marks.proofs.marking.Goals.{After-record_of-q, After-splittable, Joined-splittable}
use Rattle.marks.proofs.marking.Goals.{then-splittable, else-splittable}

-- the record of the account's bucket is inside the words
inside :
    (c : After-record_of-q) → c.record_of-q.result + widest_record ≤ length c.args.words.now
inside c = rw c.record_of-q.ensures (record_inside c.requires.0 _)

-- whether the bucket is to be split
tested :
    (c : After-splittable)
    → let args = c.args in
    c.splittable.result ≡ splittable_at args.words.now args.g c.record_of-q.result
tested c = both_read (splittable_by _) c.splittable.ensures c.get-depth.ensures c.get.ensures

-- and for worker j's update
splits :
    (c : Joined-splittable)
    → let args = c.args in
    c.if-splittable.value ≡ splits_at args.words.now args.g (worker_at args.g.workers args.w) args.j c.record_of-q.result
splits c =
    let args = c.args in
    let full = tested (goal.at.Joined-splittable c).After-splittable in
    elim c.if-splittable.branch [
      | then-splittable w ↦ w.value-is ∙ splits_by _ args.g (worker_at args.g.workers args.w) args.j _ _ full w.if-splittable.true _
          w.slot_word-then-splittable.ensures _ w.settled_ticket.ensures
      | else-splittable w ↦ w.value-is ∙ splits_not _ args.g (worker_at args.g.workers args.w) args.j _ _ full w.if-splittable.false
    ]

pub returns-then-slot_word-eq-KIND_NONE : goal.returns-then-slot_word-eq-KIND_NONE
returns-then-slot_word-eq-KIND_NONE c =
    let args = c.args in
    marks_idle _ args.g (worker_at args.g.workers args.w) args.j _ c.slot_word.ensures c.if-slot_word-eq-KIND_NONE.true

pub overflow_add-q : goal.overflow_add-q
overflow_add-q c = let h = inside c in omega arith

pub get-depth-requires : goal.get-depth-requires
get-depth-requires c = let h = inside c in omega arith

pub get-requires : goal.get-requires
get-requires c = let h = inside (goal.at.get-requires c).After-record_of-q in omega arith

pub settled_ticket-requires : goal.settled_ticket-requires
settled_ticket-requires c =
    let known = c.requires in
    (known.0, (known.1.1, inside (goal.at.settled_ticket-requires c).After-record_of-q))

pub returns-then-settled_ticket-slot_word : goal.returns-then-settled_ticket-slot_word
returns-then-settled_ticket-slot_word c =
    let args = c.args in
    marks_found _ args.g (worker_at args.g.workers args.w) args.j _ c.slot_word.ensures c.if-slot_word-eq-KIND_NONE.false _ _
    c.slot_word-2.ensures c.record_of-q.ensures _ (splits (goal.at.returns-then-settled_ticket-slot_word c).Joined-splittable)
    c.if-settled_ticket-slot_word.true _ c.found_before.ensures

pub returns-else-settled_ticket-slot_word : goal.returns-else-settled_ticket-slot_word
returns-else-settled_ticket-slot_word c =
    let args = c.args in
    marks_not _ args.g (worker_at args.g.workers args.w) args.j _ c.slot_word.ensures c.if-slot_word-eq-KIND_NONE.false _ _
    c.slot_word-2.ensures c.record_of-q.ensures _ (splits (goal.at.returns-else-settled_ticket-slot_word c).Joined-splittable)
    c.if-settled_ticket-slot_word.false
