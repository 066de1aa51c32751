-- `look` gives the answer that `looked_at` gives: the total at the position that the search finds.
-- Rests on the laws of a lookup.
use Prim.Native.Nat.{◌≤◌, ◌<◌}
use native.Mathlib.Omega.{arith}
use mathlib.Core.Path.{◌≡◌, sym, ◌∙◌, ap, subst}
use lib.ListN.{length-take}
use Rattle.interface.specs.Limits.{greatest_capacity}
use Rattle.interface.specs.declared.Answer.{Answer}
use Rattle.arrays.proofs.Laws.{Among}
use Rattle.layout.proofs.Positions.{size_limit}
use Rattle.memory.proofs.Totals.{total_kept}
use Rattle.lookups.proofs.LookupLaws.{looked-at, found_below}
use Rattle.lookups.specs.Lookups.{found_at, looked_at}
use Rattle.lookups.proofs.look.Goals as goal
use Rattle.lookups.proofs.look.Goals.{After-scan, After-size-c, In-At}

-- no more accounts than the greatest bucket has
few : (c : After-size-c) → c.size-c.result ≤ greatest_capacity
few c = size_limit _ _ c.requires.0 c.size-c.ensures

-- what the search found
here :
    (c : After-scan)
    → let s = c.args in
    looked_at s.words.now s.g s.q s.account ≡ found_at s.words.now s.g s.q c.scan.result
here c =
    let s = c.args in
    looked-at s.words.now s.g s.q s.account _ _ c.size-c.ensures c.scan.ensures

-- the position is one of the accounts
found : (c : In-At) → c.in-At.i < c.size-c.result
found c =
    let s = c.args in
    let room = few (goal.at.In-At c).After-size-c in
    let below = found_below s.words.now s.g s.q s.account _ _ c.size-c.ensures c.scan.ensures (omega arith) in
    subst (Among c.size-c.result) c.in-At.is below

pub overflow_add-end : goal.overflow_add-end
overflow_add-end c = let h = few c in omega arith

pub offset_bounds-words-accounts : goal.offset_bounds-words-accounts
offset_bounds-words-accounts c = let h = few c in omega arith

pub slice_bounds-scan-end : goal.slice_bounds-scan-end
slice_bounds-scan-end c = let h = few c in omega arith

pub scan-requires : goal.scan-requires
scan-requires c = let h = few (goal.at.scan-requires c).After-size-c in rw length-take (omega arith)

pub overflow_add-at-in-At : goal.overflow_add-at-in-At
overflow_add-at-in-At c = let h = found (goal.at.overflow_add-at-in-At c).In-At in let k = few (goal.at.overflow_add-at-in-At c).After-size-c in omega arith

pub get-requires : goal.get-requires
get-requires c = let h = found (goal.at.get-requires c).In-At in let k = few (goal.at.get-requires c).After-size-c in omega arith

pub returns-in-At : goal.returns-in-At
unfolding found_at
returns-in-At c =
    ap Answer.Found (total_kept _ _ _ c.total_of.ensures c.get.type_inv c.get.ensures)
    ∙ sym (here (goal.at.returns-in-At c).After-scan ∙ ap (found_at c.args.words.now c.args.g c.args.q) c.in-At.is)

pub returns-in-Before : goal.returns-in-Before
unfolding found_at
returns-in-Before c = sym (here (goal.at.returns-in-Before c).After-scan ∙ ap (found_at c.args.words.now c.args.g c.args.q) c.in-Before.is)
