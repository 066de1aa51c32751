-- `memory::copy` writes k words again elsewhere. The loop's invariant: the words passed stand there.
-- Rests on the law of one word more, which reads a word that is not yet written over.
use mathlib.Core.Path.{◌≡◌}
use Rattle.lists.specs.Parts.{part, overlay}
use Rattle.memory.proofs.copy.Given as goal

abbrev pub invariant-loop-i : goal.invariant-loop-i
invariant-loop-i l = l.words ≡ overlay l.initial.words l.to (part l.initial.words l.from l.i)
