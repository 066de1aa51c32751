-- `spell`: the digits still to be written over the buffer give all of them over the first one.
-- Rests on the laws that it cites and on the contracts of what is called.
use mathlib.Core.Path.{◌≡◌}
use Rattle.decimals.specs.Decimals.{digits}
use Rattle.lists.specs.Parts.{overlay}
use Rattle.decimals.proofs.spell.Given as goal

abbrev pub invariant-loop-i : goal.invariant-loop-i
invariant-loop-i l = overlay l.out l.at (digits l.i l.rest) ≡ overlay l.initial.out l.at (digits l.k l.n)
