-- `lower` leaves what `removed_from` says: the library's copy one place down.
-- Rests on the laws of `removed_from`.
use native.Mathlib.Omega.{arith}
use mathlib.Core.Path.{sym, ◌∙◌}
use Rattle.arrays.proofs.Laws.{removed_copied, removed_none, removed_past}
use Rattle.arrays.proofs.lower.Goals as goal
use Rattle.arrays.proofs.lower.Goals.{else-c-a-via-then-c-a+else-i-c, else-c-a-via-else-c-a}

pub returns-then-i-c : goal.returns-then-i-c
returns-then-i-c c =
    let s = c.args in
    c.copy_within.ensures.after ∙ removed_copied s.a.now s.c s.i (omega arith) (omega arith)

pub returns-else-c-a : goal.returns-else-c-a
returns-else-c-a c = elim c.else-c-a.branch [
  | else-c-a-via-then-c-a+else-i-c w ↦ sym (removed_past _ _ _ w.if-c-a.true w.if-i-c.false)
  | else-c-a-via-else-c-a w ↦ sym (removed_none _ _ _ w.if-c-a.false)
]
