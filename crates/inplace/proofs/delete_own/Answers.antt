-- `delete_own` takes an account out if it is there, and settles the ticket.
-- Rests on the law of a delete and on the laws of an own update.
use Prim.Native.Nat.{◌+◌, ◌<◌}
use native.Mathlib.Omega.{arith}
use mathlib.Core.Path.{refl, ◌∙◌, ap}
use lib.ListN.{length}
use Rattle.fields.specs.Fields.{totals_from}
use Rattle.arrays.specs.declared.Position.TheVariants.{At, Before}
use Rattle.bucket.specs.State.{remove_of}
use Rattle.rules.specs.Rules.{answer_by, delete_answer}
use Rattle.rounds.proofs.Laws.{change_delete}
use Rattle.inplace.specs.InPlace.{record_as, changed_at}
use Rattle.inplace.proofs.OwnUpdate.{Start, start, found_as, removed}
use Rattle.inplace.proofs.delete_own.Goals as goal
use Rattle.inplace.proofs.delete_own.Goals.{In-At, Start as AtStart}

-- what the update starts from
begun : (c : AtStart) → let s = c.args in Start s.words.now s.g s.q s.c
begun c = let s = c.args in start s.words.now s.g s.q s.c c.requires.0.0

-- the position that was found is one of the accounts
found_at :
    (c : In-At) → let s = c.args in
    (c.in-At.i < s.c) × (totals_from s.q s.g.capacity + s.c < length s.words.now)
found_at c =
    let y = begun (goal.at.In-At c).Start in (found_as y c.args.u.account c.requires.0.1.1 (At _) c.in-At.is, y.behind)

pub overflow_sub-c : goal.overflow_sub-c
overflow_sub-c c = let h = found_at (goal.at.overflow_sub-c c).In-At in omega arith

pub lower_in-requires : goal.lower_in-requires
lower_in-requires c =
    let h = found_at (goal.at.lower_in-requires c).In-At in
    (omega arith, h.0)

pub lower_in-requires-in-At : goal.lower_in-requires-in-At
lower_in-requires-in-At c =
    let h = found_at (goal.at.lower_in-requires-in-At c).In-At in
    (omega arith, h.0)

pub settle_own-requires : goal.settle_own-requires
settle_own-requires c = let known = c.requires.0 in (known.0, known.1.0)

pub returns-in-At : goal.returns-in-At
unfolding changed_at delete_answer answer_by
returns-in-At c =
    let s = c.args in
    rw c.in-At.is
    (removed (begun (goal.at.returns-in-At c).Start) _ _ _ _ _ c.requires.0.1.0 c.settle.ensures (found_at (goal.at.returns-in-At c).In-At).0 c.put_first.ensures
    c.lower_in.ensures c.lower_in-in-At.ensures
    ∙ ap (record_as s.words.now s.g s.q s.toggle) (change_delete _ s.j (At _) s.u _ _ c.requires.1 refl refl))

pub returns-in-Before : goal.returns-in-Before
unfolding changed_at delete_answer answer_by remove_of
returns-in-Before c =
    let s = c.args in
    rw c.in-Before.is
    (c.settle_own.ensures
    ∙ ap (record_as s.words.now s.g s.q s.toggle) (change_delete _ s.j (Before _) s.u _ _ c.requires.1 refl refl))
