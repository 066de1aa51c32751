-- `any_has` answers `any_has`: the library's `any` over the workers.
-- Rests on the law of that search.
use mathlib.Core.Path.{refl, ◌∙◌}
use native.Mathlib.Omega.{arith}
use borrow.Author.Rules.{rules}
use Rattle.std.proofs.Common.{tests}
use Rattle.std.proofs.lemmas.Iterator.{YieldsList-from_range}
use Rattle.std.proofs.lemmas.Iterator.Search.{any_from_yields_List}
use Rattle.renumbering.proofs.Searches.{has, any_listed}
use Rattle.renumbering.proofs.any_has.Goals as goal

pub returns : goal.returns
returns c =
    let s = c.args in
    let n = s.g.workers in
    let test = has s.words.now n s.k s.x in
    any_from_yields_List test _ _ _ c.any.ensures.ran (YieldsList-from_range 0 n n refl (omega arith)) (λ x b q k. search (rules, tests))
    ∙ any_listed test n
