-- `direct` makes a bucket's entries of the directory name a record.
-- Rests on the bounds of entries.
use Prim.Native.Nat.{◌+◌, ◌-◌, ◌*◌, ◌%◌, ◌^◌, ◌≤◌}
use native.Mathlib.Omega.{arith}
use mathlib.Core.Path.{◌≡◌}
use lib.ListN.{length}
use Rattle.rules.proofs.Bits.{shift_one}
use Rattle.splits.proofs.Splitting.{directed_inside, directed_is}
use Rattle.splits.proofs.direct.Goals as goal
use Rattle.splits.proofs.direct.Goals.{After-first_entry}

-- the bucket's entries are inside the words
inside :
    (c : After-first_entry)
    → c.directory_start.result + c.first_entry.result + 2 ^
    (c.args.g.depth - c.args.d)
    ≤ length c.args.words.now
inside c =
    directed_inside c.requires.0 c.args.d c.args.q _ _ c.requires.1 c.directory_start.ensures
    c.first_entry.ensures

width :
    (c : After-first_entry) → let w = c.args.g.depth - c.args.d in 1 * 2 ^
    w % 2 ^ 64 ≡ 2 ^ w
width c = shift_one _ (omega (arith, c.requires.0.fits.depth))

pub overflow_add-from : goal.overflow_add-from
overflow_add-from c = omega (arith, inside c)

pub overflow_add-from-2 : goal.overflow_add-from-2
overflow_add-from-2 c = omega (arith, inside (goal.at.overflow_add-from-2 c).After-first_entry, width (goal.at.overflow_add-from-2 c).After-first_entry)

pub fill-requires : goal.fill-requires
fill-requires c = omega (arith, inside (goal.at.fill-requires c).After-first_entry, width (goal.at.fill-requires c).After-first_entry)

pub returns : goal.returns
returns c =
    directed_is _ _ _ c.args.d c.args.q _ _ _ _ c.directory_start.ensures c.first_entry.ensures
    (width (goal.at.returns c).After-first_entry) c.fill.ensures
