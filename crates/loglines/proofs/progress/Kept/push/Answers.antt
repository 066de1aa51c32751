-- `Kept::push`: the words behind those there, where they have room.
-- Rests on the laws that it cites and on the contracts of what is called.
use Prim.Native.Nat.{◌+◌}
use mathlib.Core.Path.{◌≡◌}
use native.Mathlib.Omega.{arith}
use lib.ListN.{length}
use borrow.Author.Tests.{le-leb, lt-leb}
use borrow.Author.Rules.{rules}
use Rattle.machine.specs.Choice.{when◌then◌else◌}
use Rattle.logs.specs.Log.{operation_words}
use Rattle.loglines.specs.Holding.{kept_words, kept_with}
use Rattle.loglines.proofs.progress.Kept.push.Goals as goal

pub returns-then-filled : goal.returns-then-filled
unfolding kept_with when◌then◌else◌
returns-then-filled c = rw (lt-leb (c.args.self.filled + 8) kept_words (omega arith))

pub returns : goal.returns
unfolding kept_with when◌then◌else◌
returns c =
    rw (le-leb (c.args.self.filled + 8) kept_words (omega arith), c.store.ensures)

pub store-requires : goal.store-requires
store-requires c =
    let all : length c.args.self.words ≡ kept_words = search rules in
    let row : length c.args.row ≡ operation_words = search rules in
    omega arith
