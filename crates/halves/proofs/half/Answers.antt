-- `half` makes the state that `half_of` makes.
use native.Mathlib.Omega.{arith}
use mathlib.Core.Path.{◌≡◌, sym, ◌∙◌}
use Rattle.halves.proofs.Laws.{halved_start, halved_more, halved_same, halved_end}
use Rattle.bucket.proofs.Laws.{size_limit}
use Rattle.halves.proofs.half.Goals as goal
use Rattle.halves.proofs.half.Goals.{else-first_bits-q, then-first_bits-q}

pub loop-i-init : goal.loop-i-init
loop-i-init c = (rw c.size-n.ensures (size_limit _), omega arith, halved_start _ _ _ _)

pub loop-i-preserved : goal.loop-i-preserved
loop-i-preserved c =
    let l = c.loop-i in (
      l.invariant.0,
      (elim c.if-first_bits-q.branch [ then-first_bits-q w ↦ omega arith | else-first_bits-q w ↦ omega arith ]),
      (elim c.if-first_bits-q.branch [
        | then-first_bits-q w ↦ rw (w.accounts-is, w.totals-is, w.kept-is) (halved_more _ _ _ _ _ _ _ _ l.invariant.2 (omega arith)
            (sym c.first_bits.ensures ∙ w.if-first_bits-q.true))
        | else-first_bits-q w ↦ rw (w.accounts-is, w.totals-is, w.kept-is) (halved_same _ _ _ _ _ _ _ _ l.invariant.2 (λ e. w.if-first_bits-q.false (c.first_bits.ensures ∙ e)))
      ]),
    )

pub returns : goal.returns
returns c =
    let s = c.args in
    let all : c.loop-i.i ≡ c.size-n.result = omega arith in
    halved_end s.state _ _ _ _ _ _ c.loop-i.invariant.2 (all ∙ c.size-n.ensures)
