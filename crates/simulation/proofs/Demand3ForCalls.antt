-- Demand 3 for the calls: the words reply as the machine does, so that the machine's claim is theirs. Rests on demand 2's simulation and on
-- demand 3 on the machine.
use mathlib.Core.Path.{sym}
use mathlib.Core.List.{[]}
use lib.ListN.{length}
use Rattle.machine.specs.Records.{opened}
use Rattle.machine.specs.Calls.{settings}
use Rattle.machine.specs.Systems.{machines}
use Rattle.machine.specs.History.{entry_at}
use Rattle.machine.proofs.list.Transfer.{transfer}
use Rattle.machine.proofs.Demand3.{demand3}
use Rattle.opening.specs.Opening.{open_words}
use Rattle.simulation.specs.LentWords.{lent_words}
use Rattle.simulation.specs.Demand3ForCalls.{Demand3OnWords}
use Rattle.simulation.proofs.Represents.{typed_at, listing_alike, represents_at, alike_at, refused_at, started}

pub demand3_on_words : Demand3OnWords
demand3_on_words l n b M es f =
    let g = started l n b M f.accepted in
    let k = (open_words l n b M).0 in
    let r = represents_at (settings n b M) g.range k es g.represents f.typed f.refused in
    transfer (settings n b M) (machines (settings n b M) (length k)) lent_words opened k [] es
    (λ i.
    sym (alike_at (settings n b M) g.range k es g.represents f.typed f.refused i (entry_at es i) (typed_at es f.typed i)))
    (λ i x y h. listing_alike (settings n b M) g.range _ _ (r i) x y)
    (demand3 n b M (length k) (settings n b M) opened g.opens es
    (refused_at (settings n b M) g.range k es g.represents f.typed f.refused))
