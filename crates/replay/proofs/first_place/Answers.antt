-- `first_place` finds what the definition finds.
use Prim.Native.Nat.{ℕ, ◌-◌}
use native.Mathlib.Omega.{arith}
use mathlib.Core.Path.{◌≡◌, sym, ap, ◌∙◌}
use Rattle.replay.specs.Balances.{account_logged, first_from, first_place}
use Rattle.replay.proofs.PlaceLaws.{first_hit, first_turn, first_end}
use Rattle.replay.proofs.first_place.Goals as goal

pub loop-j-init : goal.loop-j-init
unfolding first_place account_logged
loop-j-init c =
    let s = c.args in
    let e : s.i - 0 ≡ s.i = omega arith in
    rw e (ap (λ (a : ℕ). first_from s.log.now a s.i 0) c.word_at-account.ensures)

pub returns-then-word_at-account : goal.returns-then-word_at-account
unfolding account_logged
returns-then-word_at-account c =
    let s = c.args in (
      sym (first_hit s.log.now _ s.i c.loop-j.j (omega arith) (sym c.word_at.ensures ∙ c.if-word_at-account.true))
          ∙ c.loop-j.invariant,
      omega arith,
    )

pub loop-j-preserved : goal.loop-j-preserved
unfolding account_logged
loop-j-preserved c =
    sym (first_turn c.args.log.now _ c.args.i c.loop-j.j (omega arith) (λ e. c.if-word_at-account.false (c.word_at.ensures ∙ e)))
    ∙ c.loop-j.invariant

pub returns : goal.returns
returns c =
    let s = c.args in
    let e : c.loop-j.j ≡ s.i = omega arith in
    (sym e ∙ sym (first_end s.log.now _ s.i c.loop-j.j (omega arith)) ∙ c.loop-j.invariant, omega arith)
