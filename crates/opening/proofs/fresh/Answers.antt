-- `fresh` lays the words of a fresh table part by part, as `fresh_words` says.
-- Rests on the laws of a fresh table's parts.
use native.Mathlib.Omega.{arith}
use mathlib.Core.Path.{refl}
use lib.Pow.{pow_mono}
use Rattle.rules.proofs.Bits.{shift_one}
use Rattle.layout.proofs.Positions.{start_bound}
use Rattle.opening.proofs.FreshWords.{fresh_parts, fresh_laid}
use Rattle.opening.proofs.fresh.Goals as goal

pub overflow_add-records : goal.overflow_add-records
overflow_add-records c =
    let s = c.args.s in
    let p = c.requires in
    omega (
      arith,
      start_bound s.workers p.1.0,
      c.directory_start-start.ensures,
      shift_one s.depth (omega arith),
      pow_mono
          p.1.1.1.1.0,
    )

pub header-requires : goal.header-requires
header-requires c =
    omega (arith, fresh_parts c.args.s)

pub fill-requires : goal.fill-requires
fill-requires c = omega (arith, fresh_parts c.args.s, c.directory_start-start.ensures)

pub fill-requires-2 : goal.fill-requires-2
fill-requires-2 c =
    let s = c.args.s in omega (arith, fresh_parts s, c.directory_start-start.ensures, shift_one s.depth (omega arith))

pub returns : goal.returns
returns c =
    fresh_laid _ _ _ _ _ _ _ _ _ _ _ c.first_word.ensures c.directory_start-start.ensures
    (shift_one c.args.s.depth (omega (arith, c.requires))) refl c.needed-all.ensures c.header.ensures
    c.fill.ensures c.fill-2.ensures c.fill-3.ensures
