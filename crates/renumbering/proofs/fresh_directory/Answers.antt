-- `fresh_directory` gives the least number that is not taken: the library's `find` over the numbers.
-- Rests on the law of that search.
use mathlib.Core.Path.{refl, ◌∙◌}
use mathlib.Core.Bool.{not}
use native.Mathlib.Omega.{arith}
use borrow.Author.Rules.{rules}
use Rattle.std.proofs.Common.{tests}
use Rattle.std.proofs.lemmas.Iterator.{YieldsList-from_range}
use Rattle.std.proofs.lemmas.Iterator.Search.{find_from_yields_List}
use Rattle.renumbering.specs.Numbers.{directory_taken, fresh_directory}
use Rattle.renumbering.proofs.Searches.{least_listed}
use Rattle.renumbering.proofs.fresh_directory.Goals as goal

pub returns : goal.returns
unfolding fresh_directory directory_taken
returns c =
    let s = c.args in
    let n = s.g.workers in
    let taken = directory_taken s.words.now n in
    let found =
    find_from_yields_List (λ x. not (taken x)) _ _ c.find.result c.find.ensures.ran (YieldsList-from_range 0 n n refl (omega arith))
    (λ x b q k. search (rules, tests)) in
    c.unwrap_or.ensures ∙ least_listed taken _ n found
