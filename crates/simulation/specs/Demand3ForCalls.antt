-- Demand 3 for the calls: every list from an accepted opening of lent words is linearizable. Rests on the lent words as
-- a system, and on the statement of demand 3.
use Rattle.std.specs.Prelude.{ℕ, List, []}
use Rattle.machine.specs.Calls.{settings}
use Rattle.machine.specs.Systems.{Entry}
use Rattle.machine.specs.History.{Linearizable}
use Rattle.opening.specs.Opening.{open_words}
use Rattle.simulation.specs.LentWords.{lent_words, FromOpening}

abbrev pub Demand3OnWords : Type 0
Demand3OnWords =
    (l : List ℕ) (n b M : ℕ) (es : List Entry) → FromOpening l n b M es
    → Linearizable (settings n b M) lent_words (open_words l n b M).0 [] es
