-- `agreeing` counts what the definition counts.
use Prim.Native.Nat.{◌/◌}
use native.Mathlib.Omega.{arith}
use mathlib.Core.Path.{◌≡◌, refl, sym, ap, ◌∙◌}
use lib.ListN.{length}
use Rattle.machine.specs.Sequential.{first_bits}
use Rattle.logs.specs.Log.{count_of}
use Rattle.replay.specs.Balances.{account_logged, there_at, agreeing}
use Rattle.replay.proofs.PlaceLaws.{agree_missing, agree_same, agree_other}
use Rattle.replay.proofs.agreeing.Goals as goal
use Rattle.replay.proofs.agreeing.Goals.{then-balances-j-ne0+then-first_bits-bits, else-balances-j-ne0, else-balances-j-ne0-via-then-balances-j-ne0+else-first_bits-bits, else-balances-j-ne0-via-else-balances-j-ne0}

pub loop-j-init : goal.loop-j-init
unfolding agreeing
loop-j-init c = (omega arith, refl)

pub loop-j-preserved : goal.loop-j-preserved
unfolding account_logged there_at
loop-j-preserved c =
    let s = c.args in
    let j = c.loop-j.j in
    let inv = c.loop-j.invariant in
    elim c.if-balances-j-ne0.branch [
      | then-balances-j-ne0+then-first_bits-bits w ↦ (
        omega arith,
        w.found-is ∙ rw inv.1 (sym (agree_same s.log.now s.depth s.bits s.balances j w.if-balances-j-ne0.true
            (sym (w.first_bits.ensures ∙ ap (first_bits s.depth) w.word_at.ensures) ∙ w.if-first_bits-bits.true))),
      )
      | else-balances-j-ne0 w ↦ (
        omega arith,
        w.found-is ∙ inv.1 ∙ elim w.else-balances-j-ne0.branch [
          | else-balances-j-ne0-via-then-balances-j-ne0+else-first_bits-bits v ↦
              sym (agree_other s.log.now s.depth s.bits s.balances j v.if-balances-j-ne0.true
              (λ e. v.if-first_bits-bits.false (v.first_bits.ensures ∙ ap (first_bits s.depth) v.word_at.ensures ∙ e)))
          | else-balances-j-ne0-via-else-balances-j-ne0 v ↦
              sym (agree_missing s.log.now s.depth s.bits s.balances j v.if-balances-j-ne0.false)
        ],
      )
    ]

pub returns : goal.returns
unfolding count_of
returns c =
    let s = c.args in
    let e : c.loop-j.j ≡ length s.log.now / 8 = omega arith in
    c.loop-j.invariant.1 ∙ ap (agreeing s.log.now s.depth s.bits s.balances) e
