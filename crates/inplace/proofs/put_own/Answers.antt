-- `put_own` sets the total of an account that is there, or puts a new account at its position, and settles the ticket.
-- Rests on the laws of an own update.
use Prim.Native.Nat.{◌+◌, ◌≤◌, ◌<◌}
use native.Mathlib.Omega.{arith}
use mathlib.Core.Path.{refl, subst}
use lib.ListN.{length}
use Rattle.fields.specs.Fields.{totals_from}
use Rattle.arrays.specs.declared.Position.TheVariants.{At, Before}
use Rattle.inplace.specs.InPlace.{RoomAt, put_at}
use Rattle.inplace.proofs.OwnUpdate.{Start, start, found_as, replaced, inserted}
use Rattle.inplace.proofs.put_own.Goals as goal
use Rattle.inplace.proofs.put_own.Goals.{In-At, In-Before, Start as AtStart}

-- what the update starts from
begun : (c : AtStart) → let s = c.args in Start s.words.now s.g s.q s.c
begun c = let s = c.args in start s.words.now s.g s.q s.c c.requires.0.0

-- the position that was found is one of the accounts
found_at :
    (c : In-At) → let s = c.args in
    (c.in-At.i < s.c) × (totals_from s.q s.g.capacity + s.c < length s.words.now)
found_at c =
    let y = begun (goal.at.In-At c).Start in (found_as y c.args.u.account c.requires.0.1.1 (At _) c.in-At.is, y.behind)

-- or just past them, and there is room
found-before :
    (c : In-Before) → let s = c.args in
    (c.in-Before.i ≤ s.c) × ((s.c < s.g.capacity) × (totals_from s.q s.g.capacity + s.c < length s.words.now))
found-before c =
    let s = c.args in
    let y = begun (goal.at.In-Before c).Start in
    let room : RoomAt s.g s.c (Before c.in-Before.i) = subst (RoomAt s.g s.c) c.in-Before.is c.requires.1 in
    (found_as y s.u.account c.requires.0.1.1 (Before _) c.in-Before.is, (room, y.behind))

pub overflow_add-totals-in-At : goal.overflow_add-totals-in-At
overflow_add-totals-in-At c = let h = found_at (goal.at.overflow_add-totals-in-At c).In-At in omega arith

pub put-requires : goal.put-requires
put-requires c = let h = found_at (goal.at.put-requires c).In-At in omega arith

pub overflow_add-c : goal.overflow_add-c
overflow_add-c c = let h = found-before (goal.at.overflow_add-c c).In-Before in omega arith

pub raise_in-requires : goal.raise_in-requires
raise_in-requires c = let h = found-before (goal.at.raise_in-requires c).In-Before in (omega arith, h.0)

pub raise_in-requires-in-Before : goal.raise_in-requires-in-Before
raise_in-requires-in-Before c =
    let h = found-before (goal.at.raise_in-requires-in-Before c).In-Before in (omega arith, h.0)

pub returns-in-At : goal.returns-in-At
unfolding put_at
returns-in-At c =
    rw c.in-At.is
    (replaced (begun (goal.at.returns-in-At c).Start) _ _ _ _ _ c.requires.0.1.0 c.settle.ensures _ _ (found_at (goal.at.returns-in-At c).In-At).0 c.put_first.ensures
    refl c.put.ensures)

pub returns-in-Before : goal.returns-in-Before
unfolding put_at
returns-in-Before c =
    let h = found-before (goal.at.returns-in-Before c).In-Before in
    rw c.in-Before.is
    (inserted (begun (goal.at.returns-in-Before c).Start) _ _ _ _ _ c.requires.0.1.0 c.settle-in-Before.ensures _ _ h.0 h.1.0 c.put_first-in-Before.ensures
    c.raise_in.ensures c.raise_in-in-Before.ensures)
