-- `pending` answers what `pending_by` says: where the two bits are the same it is false, and else the tickets decide.
-- Rests on the laws of pending updates; a bit past the 64th is 0.
use Prim.Native.Nat.{ℕ, ◌≤◌, ◌<◌, ◌^◌}
use native.Mathlib.Omega.{arith}
use mathlib.Core.Path.{◌≡◌, sym, ◌∙◌, ap}
use mathlib.Core.Bool.{not, false}
use lib.Dec.{eqb}
use borrow.Author.Tests.{eq-eqb, le-ltb}
use Rattle.machine.specs.Choice.{◌and◌}
use Rattle.machine.proofs.laws.Base.{and_left_false}
use Rattle.rules.specs.Rules.{bit, pending_by}
use Rattle.rules.proofs.Laws.{bit_past}
use Rattle.rules.proofs.pending.Goals as goal
use Rattle.rules.proofs.pending.Goals.{then-j-lt64, else-j-lt64}

-- past the last bit no two words differ
alike : (x y j : ℕ) → x < 2 ^ 64 → y < 2 ^ 64 → 64 ≤ j → not (eqb (bit x j) (bit y j)) ≡ false
alike x y j h k m = ap not (eq-eqb _ _ (bit_past x j h m ∙ sym (bit_past y j k m)))

pub returns-then-toggle-j : goal.returns-then-toggle-j
unfolding bit pending_by ◌and◌
returns-then-toggle-j c =
    let s = c.args in
    let test : c.if-j-lt64.value ≡ not (eqb (bit s.toggle s.j) (bit s.applied s.j)) =
    elim c.if-j-lt64.branch [
      | then-j-lt64 w ↦ w.value-is
      | else-j-lt64 w ↦ w.value-is ∙ le-ltb _ _ w.if-j-lt64.false ∙ sym (alike s.toggle s.applied s.j (omega arith) (omega arith) (omega arith))
    ] in
    rw (sym test ∙ c.if-toggle-j.true)

pub returns-else-toggle-j : goal.returns-else-toggle-j
unfolding bit pending_by
returns-else-toggle-j c =
    let s = c.args in
    let test : c.if-j-lt64.value ≡ not (eqb (bit s.toggle s.j) (bit s.applied s.j)) =
    elim c.if-j-lt64.branch [
      | then-j-lt64 w ↦ w.value-is
      | else-j-lt64 w ↦ w.value-is ∙ le-ltb _ _ w.if-j-lt64.false ∙ sym (alike s.toggle s.applied s.j (omega arith) (omega arith) (omega arith))
    ] in
    c.if-toggle-j.false ∙ sym (and_left_false _ (sym test ∙ c.if-toggle-j.false))
