-- `settle` makes the state that `settle_of` makes; a worker past the arrays changes nothing.
-- Rests on the arrays' size.
use native.Mathlib.Omega.{arith}
use mathlib.Core.Path.{◌≡◌}
use lib.ListN.{length}
use lib.Seq.{set_out}
use borrow.Author.Rules.{rules}
use Rattle.bucket.specs.State.{array_size, settle_of}
use Rattle.bucket.proofs.BucketState.settle.Goals as goal

pub returns : goal.returns
unfolding settle_of
returns c = search rules

pub returns-then-j-ge-ARRAY_SIZE : goal.returns-then-j-ge-ARRAY_SIZE
unfolding settle_of
returns-then-j-ge-ARRAY_SIZE c =
    let s = c.args in
    let settled : length s.self.settled ≡ array_size = search rules in
    let answers : length s.self.answers ≡ array_size = search rules in
    let posted : length s.self.posted ≡ array_size = search rules in
    rw (
      set_out s.self.settled s.j s.ticket (omega arith),
      set_out s.self.answers s.j s.answer (omega arith),
      set_out s.self.posted s.j s.total (omega arith),
    )
