-- `least_end` takes the least end of what is left, place by place.
use native.Mathlib.Omega.{arith}
use mathlib.Core.Path.{◌≡◌, refl, ap, ◌∙◌}
use Rattle.searching.specs.Searching.{least_end}
use Rattle.searching.proofs.Ends.{least_min, ends_left, ends_gone}
use Rattle.searching.proofs.least_end.Goals as goal
use Rattle.searching.proofs.least_end.Goals.{then-here-eq1, else-here-eq1}

pub loop-j-init : goal.loop-j-init
unfolding least_end
loop-j-init c = refl

pub loop-j-preserved : goal.loop-j-preserved
loop-j-preserved c =
    let known = c.loop-j.invariant in
    elim c.if-here-eq1.branch [
      | then-here-eq1 w ↦
          w.limit-is ∙ w.min-limit.ensures ∙ least_min _ _
          ∙ ends_left c.args.log.now c.args.left _ _ known _ w.word_at.ensures w.if-here-eq1.true
      | else-here-eq1 w ↦ w.limit-is ∙ ends_gone c.args.log.now c.args.left _ _ known w.if-here-eq1.false
    ]

pub returns : goal.returns
returns c = let e : c.loop-j.j ≡ 12 = omega arith in c.loop-j.invariant ∙ ap (least_end c.args.log.now c.args.left) e
