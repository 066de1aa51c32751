-- `split_while` splits an account's bucket while it is full.
use Prim.Native.Nat.{◌+◌, ◌-◌, ◌≤◌}
use native.Mathlib.Omega.{arith}
use mathlib.Core.Path.{◌≡◌, refl, sym, ◌∙◌}
use lib.ListN.{length}
use borrow.Author.Rules.{rules}
use Rattle.rules.specs.Rules.{splittable_by}
use Rattle.record.specs.Bucket.{splittable_at}
use Rattle.record.proofs.Tests.{both_read}
use Rattle.fields.specs.Fields.{widest_record}
use Rattle.layout.specs.Shape.{Whole}
use Rattle.spares.proofs.PoolLaws.{whole_kept}
use Rattle.layout.proofs.Positions.{record_inside}
use Rattle.splits.proofs.Splitting.{splittable_depth, while_done, while_turn, while_end}
use Rattle.splits.proofs.split_while.Goals as goal
use Rattle.splits.proofs.split_while.Goals.{After-record_of-q, After-splittable, At-loop}

-- what the turns have left of the words holds every record, and the account's
whole : (c : At-loop) → Whole c.loop.words c.args.g
whole c = whole_kept (sym c.loop.invariant.0) c.requires

inside : (c : After-record_of-q) → c.record_of-q.result + widest_record ≤ length c.loop.words
inside c = rw c.record_of-q.ensures (record_inside (whole (goal.at.After-record_of-q c).At-loop).fits _)

-- whether it is to be split
tested :
    (c : After-splittable)
    → c.splittable.result
    ≡ splittable_at c.loop.words c.args.g
    c.record_of-q.result
tested c = both_read (splittable_by _) c.splittable.ensures c.get-depth.ensures c.get.ensures

pub loop-init : goal.loop-init
loop-init c = let all : c.args.g.depth - 0 ≡ c.args.g.depth = omega arith in (refl, rw all)

pub record_of-q-requires : goal.record_of-q-requires
record_of-q-requires c = (whole (goal.at.record_of-q-requires c).At-loop).fits

pub overflow_add-q : goal.overflow_add-q
overflow_add-q c = omega (arith, inside c)

pub get-depth-requires : goal.get-depth-requires
get-depth-requires c = omega (arith, inside c)

pub overflow_add-q-in-loop : goal.overflow_add-q-in-loop
overflow_add-q-in-loop c = omega (arith, inside (goal.at.overflow_add-q-in-loop c).After-record_of-q)

pub get-requires : goal.get-requires
get-requires c = omega (arith, inside (goal.at.get-requires c).After-record_of-q)

pub returns-then-not-splittable : goal.returns-then-not-splittable
returns-then-not-splittable c =
    while_done _ _ _ _ _ c.record_of-q.ensures (tested (goal.at.returns-then-not-splittable c).After-splittable) _ c.if-not-splittable.true
    ∙ c.loop.invariant.1

pub split-requires : goal.split-requires
split-requires c =
    let yes = sym (tested (goal.at.split-requires c).After-splittable) ∙ c.if-not-splittable.false in
    (whole (goal.at.split-requires c).At-loop, (splittable_depth c.loop.words c.args.g c.record_of-q.result yes, inside (goal.at.split-requires c).After-record_of-q))

pub loop-preserved : goal.loop-preserved
loop-preserved c = (
  search rules,
  while_turn _ _ _ _ _ c.record_of-q.ensures (tested (goal.at.loop-preserved c).After-splittable) _ _ _ c.loop-test.true c.if-not-splittable.false
      c.split.ensures
      ∙ c.loop.invariant.1,
)

pub returns : goal.returns
returns c = while_end _ _ _ _ _ c.loop-test.false ∙ c.loop.invariant.1
