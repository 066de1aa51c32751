-- `memory::copy` writes k words again elsewhere.
use Prim.Native.Nat.{ℕ}
use native.Mathlib.Omega.{arith}
use mathlib.Core.Path.{◌≡◌, sym, ◌∙◌, ap}
use Rattle.lists.specs.Parts.{part, overlay}
use Rattle.lists.proofs.PartLaws.{overlay_nil}
use Rattle.memory.proofs.Runs.{copy_more}
use Rattle.memory.proofs.copy.Goals as goal

pub loop-i-init : goal.loop-i-init
unfolding part
loop-i-init c = sym (overlay_nil _ _)

pub loop-i-preserved : goal.loop-i-preserved
loop-i-preserved c =
    let known = c.requires in
    copy_more _ _ _ _ _ _ c.loop-i.invariant known.0 known.1.0 known.1.1 c.loop-i-test.true

pub returns : goal.returns
returns c =
    let all : c.loop-i.i ≡ c.args.k = omega arith in
    c.loop-i.invariant ∙ ap (λ (j : ℕ). overlay c.args.words.now c.args.to (part c.args.words.now c.args.from j)) all
