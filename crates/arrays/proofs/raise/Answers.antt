-- `raise` leaves what `inserted_in` says.
use native.Mathlib.Omega.{arith}
use mathlib.Core.Path.{◌≡◌, sym, ◌∙◌, ap}
use mathlib.Core.List.{List}
use Prim.Native.Nat.{ℕ, ◌+◌, ◌-◌}
use lib.ListN.{set, get_or}
use Rattle.arrays.proofs.Laws.{raised, raised_start, raised_turn, raised_end, inserted_none, inserted_past}
use Rattle.arrays.proofs.raise.Goals as goal
use Rattle.arrays.proofs.raise.Goals.{else-c-a-via-then-c-a+else-i-c, else-c-a-via-else-c-a}

pub loop-k-init : goal.loop-k-init
loop-k-init c = (omega arith, sym (raised_start _ _))

pub loop-k-preserved : goal.loop-k-preserved
loop-k-preserved c =
    let k = c.loop-k.k in
    let here : k - 1 + 1 ≡ k = omega arith in (
      omega arith,
      ap (λ (j : ℕ). set c.loop-k.a j (get_or c.loop-k.a (k - 1) 0)) here
          ∙ ap (λ (r : List ℕ). set r k (get_or r (k - 1) 0)) c.loop-k.invariant.1
          ∙ raised_turn c.args.a.now c.args.c k (omega arith) (omega arith) (omega arith),
    )

pub returns-after-loop-k : goal.returns-after-loop-k
returns-after-loop-k c =
    let s = c.args in
    let e : c.loop-k.k ≡ s.i = omega arith in
    ap (λ (r : List ℕ). set r s.i s.v) (c.loop-k.invariant.1 ∙ ap (raised s.a.now s.c) e)
    ∙ raised_end s.a.now s.c s.i s.v (omega arith) (omega arith)

pub returns-else-c-a : goal.returns-else-c-a
returns-else-c-a c = elim c.else-c-a.branch [
  | else-c-a-via-then-c-a+else-i-c w ↦ sym (inserted_past _ _ _ _ w.if-c-a.true w.if-i-c.false)
  | else-c-a-via-else-c-a w ↦ sym (inserted_none _ _ _ _ w.if-c-a.false)
]
