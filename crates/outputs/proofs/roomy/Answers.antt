-- `roomy`: a difference instead of a sum, which could be too large.
-- Rests on the law of it.
use Prim.Native.Nat.{◌+◌}
use mathlib.Core.Path.{sym, ◌∙◌}
use native.Mathlib.Omega.{arith}
use borrow.Author.Tests.{lt-leb}
use Rattle.printers.proofs.Written.{room_in_rest}
use Rattle.outputs.specs.Room.{room_for, longest}
use Rattle.outputs.proofs.roomy.Goals as goal

pub returns-then-used-len : goal.returns-then-used-len
unfolding room_for longest
returns-then-used-len c = room_in_rest _ _ _ c.if-used-len.true

pub returns-else-used-len : goal.returns-else-used-len
unfolding room_for longest
returns-else-used-len c =
    let h = c.if-used-len.false in
    lt-leb c.args.used c.args.len h ∙ sym (lt-leb (c.args.used + 131_097) c.args.len (omega arith))
