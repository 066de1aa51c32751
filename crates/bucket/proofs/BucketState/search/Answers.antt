-- `search` scans the accounts that the state has, as `search_of` says.
-- Rests on the limit of the count.
use Prim.Native.Nat.{ℕ, ◌-◌, ◌≤◌}
use native.Mathlib.Omega.{arith}
use mathlib.Core.Path.{◌≡◌, ◌∙◌, ap}
use lib.ListN.{length, take, length-take}
use borrow.Author.Rules.{rules}
use Rattle.bucket.specs.State.{array_size, size_of, search_of}
use Rattle.arrays.specs.Arrays.{scan}
use Rattle.bucket.proofs.Laws.{size_limit}
use Rattle.bucket.proofs.BucketState.search.Goals as goal
use Rattle.bucket.proofs.BucketState.search.Goals.{After-size-n}

-- no more accounts than an array has items
few : (c : After-size-n) → c.size-n.result ≤ array_size
few c = rw c.size-n.ensures (size_limit _)

pub slice_bounds-scan-end : goal.slice_bounds-scan-end
slice_bounds-scan-end c =
    let h = few (goal.at.slice_bounds-scan-end c).After-size-n in
    let long : length c.args.self.accounts ≡ array_size = search rules in
    omega arith

pub scan-requires : goal.scan-requires
scan-requires c = let h = few (goal.at.scan-requires c).After-size-n in rw length-take (omega arith)

pub returns : goal.returns
unfolding search_of
returns c =
    let s = c.args in
    let all : c.size-n.result - 0 ≡ size_of s.self = omega (arith, c.size-n.ensures) in
    c.scan.ensures ∙ ap (λ (n : ℕ). scan (take n s.self.accounts) s.account 0) all
