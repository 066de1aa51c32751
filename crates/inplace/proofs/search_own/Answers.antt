-- `search_own` searches the record's accounts as the state that the record has.
-- Rests on the laws of an own update.
use native.Mathlib.Omega.{arith}
use mathlib.Core.Path.{◌∙◌}
use lib.ListN.{length-take}
use Rattle.inplace.proofs.OwnUpdate.{Start, start, search_is}
use Rattle.inplace.proofs.search_own.Goals as goal
use Rattle.inplace.proofs.search_own.Goals.{After-shared_slice_known-1}

-- what the search starts from
begun : (c : After-shared_slice_known-1) → let s = c.args in Start s.words.now s.g s.q s.c
begun c = let s = c.args in start s.words.now s.g s.q s.c c.requires

pub overflow_add-end : goal.overflow_add-end
overflow_add-end c = let h = (begun c).behind in omega arith

pub slice_bounds-scan-end : goal.slice_bounds-scan-end
slice_bounds-scan-end c = let h = (begun c).behind in omega arith

pub scan-requires : goal.scan-requires
scan-requires c = let h = (begun (goal.at.scan-requires c).After-shared_slice_known-1).few in rw length-take (omega arith)

pub returns : goal.returns
returns c =
    let s = c.args in
    c.scan.ensures ∙ search_is s.words.now s.g s.q s.c s.account c.requires
