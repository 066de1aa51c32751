-- `settle_own` writes the count as it stands, the applied bits and the ticket with its answer.
-- Rests on the laws of an own update.
use mathlib.Core.Path.{refl}
use Rattle.inplace.proofs.OwnUpdate.{start, kept}
use Rattle.inplace.proofs.settle_own.Goals as goal

pub returns : goal.returns
returns c =
    let s = c.args in
    kept (start s.words.now s.g s.q s.c c.requires.0) _ _ _ _ _ c.requires.1 c.settle.ensures
    c.put_first.ensures refl refl
