-- `record_in` keeps a record's address if a whole record fits there.
-- Rests on nothing but the test.
use Prim.Native.Nat.{◌+◌}
use native.Mathlib.Omega.{arith}
use mathlib.Core.Path.{sym}
use lib.ListN.{length}
use borrow.Author.Tests.{le-leb, lt-leb}
use Rattle.fields.specs.Fields.{widest_record}
use Rattle.machine.proofs.laws.Base.{if_true, if_false}
use Rattle.layout.specs.Addresses.{record_in}
use Rattle.layout.proofs.addresses.record_in.Goals as goal

pub returns-then-q-most : goal.returns-then-q-most
unfolding record_in
returns-then-q-most c =
    let s = c.args in
    sym (if_true _ _ (le-leb (s.q + widest_record) (length s.words.now) (omega arith)))

pub returns-else-q-most : goal.returns-else-q-most
unfolding record_in
returns-else-q-most c =
    let s = c.args in
    sym (if_false _ _ (lt-leb (s.q + widest_record) (length s.words.now) (omega arith)))
