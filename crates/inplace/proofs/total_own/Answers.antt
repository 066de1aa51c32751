-- `total_own` reads the total at the position found, as `total_in` does in the record's state.
-- Rests on the laws of an own update.
use Prim.Native.Nat.{◌+◌, ◌<◌}
use native.Mathlib.Omega.{arith}
use mathlib.Core.Path.{◌∙◌}
use lib.ListN.{length}
use Rattle.fields.specs.Fields.{totals_from}
use Rattle.arrays.specs.declared.Position.TheVariants.{At}
use Rattle.bucket.specs.State.{total_in}
use Rattle.inplace.proofs.OwnUpdate.{Start, start, found_as, total_is}
use Rattle.inplace.proofs.total_own.Goals as goal
use Rattle.inplace.proofs.total_own.Goals.{In-At, Start as AtStart}

-- what the search started from
begun : (c : AtStart) → let s = c.args in Start s.words.now s.g s.q s.c
begun c = let s = c.args in start s.words.now s.g s.q s.c c.requires.0

-- the position found is one of the accounts, and its total inside the words
found_at :
    (c : In-At) → let s = c.args in
    (c.in-At.i < s.c) × (totals_from s.q s.g.capacity + s.c < length s.words.now)
found_at c =
    let y = begun (goal.at.In-At c).Start in (found_as y c.args.account c.requires.1 (At _) c.in-At.is, y.behind)

pub overflow_add-q-in-At-2 : goal.overflow_add-q-in-At-2
overflow_add-q-in-At-2 c = let h = found_at (goal.at.overflow_add-q-in-At-2 c).In-At in omega arith

pub get-requires : goal.get-requires
get-requires c = let h = found_at (goal.at.get-requires c).In-At in omega arith

pub returns-in-At : goal.returns-in-At
returns-in-At c =
    rw c.in-At.is (c.get.ensures ∙ total_is (begun (goal.at.returns-in-At c).Start) _ (found_at (goal.at.returns-in-At c).In-At).0)

pub returns-in-Before : goal.returns-in-Before
unfolding total_in
returns-in-Before c = rw c.in-Before.is
