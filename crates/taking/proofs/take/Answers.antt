-- `take` splits for one update, and then carries it out unless its bucket holds it back.
-- Rests on the bound of a bucket's record, which a split keeps.
use Prim.Native.Nat.{◌+◌, ◌≤◌}
use native.Mathlib.Omega.{arith}
use lib.ListN.{length}
use Rattle.layout.specs.Shape.{Fits}
use Rattle.fields.specs.Fields.{widest_record}
use Rattle.fields.specs.Regions.{worker_at}
use Rattle.layout.proofs.Positions.{fits_kept, record_inside}
use Rattle.taking.proofs.TakingLaws.{taken_back, taken_carried}
use mathlib.Core.Path.{◌≡◌}
use Rattle.rules.specs.Rules.{holds_back_by}
use Rattle.record.specs.Bucket.{holds_back_at}
use Rattle.record.proofs.Tests.{both_read}
use borrow.Author.Rules.{rules}
use Rattle.taking.proofs.take.Goals as goal
use Rattle.taking.proofs.take.Goals.{After-holds_back, After-record_of-q}

-- the record of the account's bucket is inside the words, which a split keeps
inside :
    (c : After-record_of-q)
    → Fits c.split_while.new.words c.args.g
    × (c.record_of-q.result + widest_record ≤ length c.split_while.new.words)
inside c =
    let fits : Fits c.split_while.new.words c.args.g = fits_kept (search rules) c.requires.0.fits in
    (fits, rw c.record_of-q.ensures (record_inside fits _))

-- whether it takes no update
tested :
    (c : After-holds_back)
    → c.holds_back.result
    ≡ holds_back_at c.split_while.new.words c.args.g c.record_of-q.result
tested c = both_read (holds_back_by _) c.holds_back.ensures c.get-depth.ensures c.get.ensures

pub overflow_add-q : goal.overflow_add-q
overflow_add-q c = let h = inside c in omega arith

pub get-depth-requires : goal.get-depth-requires
get-depth-requires c = let h = inside c in omega arith

pub overflow_add-q-2 : goal.overflow_add-q-2
overflow_add-q-2 c = let h = inside (goal.at.overflow_add-q-2 c).After-record_of-q in omega arith

pub get-requires : goal.get-requires
get-requires c = let h = inside (goal.at.get-requires c).After-record_of-q in omega arith

pub returns-else-not-holds_back : goal.returns-else-not-holds_back
returns-else-not-holds_back c =
    let args = c.args in
    taken_back _ _ args.g (worker_at args.g.workers args.w) args.i _ _ _ _ c.slot_word.ensures
    c.split_while.ensures
    c.slot_word-2.ensures c.record_of-q.ensures (tested (goal.at.returns-else-not-holds_back c).After-holds_back) c.if-not-holds_back.false

pub carry-requires : goal.carry-requires
carry-requires c =
    let known = c.requires.1 in
    let h = inside (goal.at.carry-requires c).After-record_of-q in (h.0, (known.0, (known.1, h.1)))

pub returns-then-not-holds_back : goal.returns-then-not-holds_back
returns-then-not-holds_back c =
    let args = c.args in
    taken_carried _ _ args.g (worker_at args.g.workers args.w) args.i _ _ _ _ c.slot_word.ensures
    c.split_while.ensures
    c.slot_word-2.ensures c.record_of-q.ensures (tested (goal.at.returns-then-not-holds_back c).After-holds_back) _ c.if-not-holds_back.true c.carry.ensures
