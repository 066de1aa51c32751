-- `total` reads the total that `total_in` reads, at any position; past the array there is none.
-- Rests on nothing.
use mathlib.Core.Path.{◌≡◌, sym, ◌∙◌, ap}
use lib.ListN.{get_or}
use borrow.Author.Rules.{rules}
use Rattle.bucket.specs.State.{total_in}
use Rattle.bucket.proofs.BucketState.total.Goals as goal

pub returns : goal.returns
unfolding total_in
returns c =
    let s = c.args in
    let read : c.unwrap_or.result ≡ get_or s.self.totals c.in-At.i 0 = search rules in
    read ∙ ap (total_in s.self) (sym c.in-At.is)

pub returns-in_default : goal.returns-in_default
unfolding total_in
returns-in_default c = ap (total_in c.args.self) (sym c.in_default.is)
