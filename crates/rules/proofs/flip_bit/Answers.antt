-- `flip_bit` changes one bit of a word.
-- Rests on the laws of single bits.
use Prim.Native.Nat.{◌^◌, ◌<◌}
use native.Mathlib.Omega.{arith}
use Rattle.rules.specs.Rules.{bit}
use Rattle.rules.proofs.Bits.{shift_one, bit_room, bit_clear_fits, flip_set, flip_clear}
use Rattle.rules.proofs.flip_bit.Goals as goal

pub overflow_add-result : goal.overflow_add-result
unfolding bit
overflow_add-result c =
    let small : c.args.x < 2 ^ 64 = omega arith in
    omega (arith, shift_one c.args.w c.requires, bit_room c.args.x c.args.w 64 c.requires small c.if-x-w-eq0.true)

pub overflow_sub-result : goal.overflow_sub-result
unfolding bit
overflow_sub-result c =
    omega (arith, shift_one c.args.w c.requires, bit_clear_fits c.args.x c.args.w c.if-x-w-eq0.false)

pub returns-then-x-w-eq0 : goal.returns-then-x-w-eq0
unfolding bit
returns-then-x-w-eq0 c = flip_set c.args.x c.args.w c.if-x-w-eq0.true c.requires

pub returns-else-x-w-eq0 : goal.returns-else-x-w-eq0
unfolding bit
returns-else-x-w-eq0 c = flip_clear c.args.x c.args.w c.if-x-w-eq0.false c.requires
