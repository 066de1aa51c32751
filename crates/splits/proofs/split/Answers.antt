-- `split` makes two buckets of one.
-- Rests on the bounds of the halves' depth and prefix.
use Prim.Native.Nat.{◌+◌, ◌-◌, ◌*◌, ◌%◌, ◌^◌}
use native.Mathlib.Omega.{arith}
use mathlib.Core.Path.{◌≡◌}
use borrow.Author.Rules.{rules}
use Rattle.rules.proofs.Bits.{shift_one}
use Rattle.splits.proofs.Splitting.{Depths, depths, prefix_small, split_is}
use Rattle.splits.proofs.split.Goals as goal
use Rattle.splits.proofs.split.Goals.{After-get}

-- the halves' depth, and the span of their prefixes
deep : (c : After-get) → Depths c.args.g c.get.result
deep c = depths c.args.g c.get.result c.requires.1.0 c.requires.0.fits.depth

span : (c : After-get) → let d = c.get.result % c.args.g.depth + 1 - 1 in 1 * 2 ^ d % 2 ^ 64 ≡ 2 ^ d
span c = shift_one _ (omega (arith, deep c, c.requires.0.fits.depth))

pub overflow_add-d : goal.overflow_add-d
overflow_add-d c = omega (arith, deep (goal.at.overflow_add-d c).After-get, c.requires.0.fits.depth)

pub overflow_shl-prefix : goal.overflow_shl-prefix
overflow_shl-prefix c = omega (arith, deep (goal.at.overflow_shl-prefix c).After-get, c.requires.0.fits.depth)

pub nonzero_rem-prefix : goal.nonzero_rem-prefix
nonzero_rem-prefix c = omega (arith, deep (goal.at.nonzero_rem-prefix c).After-get)

pub overflow_mul-prefix : goal.overflow_mul-prefix
overflow_mul-prefix c =
    omega (
      arith,
      prefix_small c.args.g c.get.result c.get-2.result _ c.requires.1.0 c.requires.0.fits.depth
          (span (goal.at.overflow_mul-prefix c).After-get),
    )

pub half-requires : goal.half-requires
half-requires c = (search rules, omega (arith, deep (goal.at.half-requires c).After-get))

pub overflow_add-prefix : goal.overflow_add-prefix
overflow_add-prefix c =
    omega (
      arith,
      prefix_small c.args.g c.get.result c.get-2.result _ c.requires.1.0
          c.requires.0.fits.depth (span (goal.at.overflow_add-prefix c).After-get),
    )

pub half-requires-2 : goal.half-requires-2
half-requires-2 c = (
  search rules,
  omega (
    arith,
    deep (goal.at.half-requires-2 c).After-get,
  ),
)

pub returns : goal.returns
returns c =
    split_is _ _ _ _ _ _ _ _ _ _ c.get.ensures c.get-2.ensures (span (goal.at.returns c).After-get) c.load_state-s.ensures
    c.deepen.ensures
    c.half.ensures c.half-2.ensures
