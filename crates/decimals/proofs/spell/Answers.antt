-- `spell`: the digits still to be written over the buffer give all of them over the first one.
use mathlib.Core.Path.{◌≡◌, sym, ◌∙◌}
use native.Mathlib.Omega.{arith}
use Rattle.decimals.specs.Decimals.{digits}
use Rattle.lists.proofs.PartLaws.{overlay_nil}
use Rattle.decimals.proofs.Overlays.{spelled}
use Rattle.decimals.proofs.spell.Goals as goal

pub loop-i-preserved : goal.loop-i-preserved
loop-i-preserved c =
    spelled c.loop-i.out c.args.at c.loop-i.i c.loop-i.rest (omega arith) (omega arith) ∙ c.loop-i.invariant

pub returns : goal.returns
unfolding digits
returns c =
    let e : c.loop-i.i ≡ 0 = omega arith in
    sym (overlay_nil c.loop-i.out c.args.at) ∙ rw e at c.loop-i.invariant
