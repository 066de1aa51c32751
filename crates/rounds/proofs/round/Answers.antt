-- `round` makes the state that `round_of` makes.
use Prim.Native.Nat.{ℕ, ◌*◌, ◌/◌}
use native.Mathlib.Decide.{dec_le}
use native.Mathlib.Omega.{arith}
use mathlib.Core.Path.{◌≡◌, refl, sym, ◌∙◌, ap}
use lib.ListN.{length, get_or}
use Rattle.fields.specs.Fields.{slot_size}
use Rattle.bucket.specs.declared.BucketState.{BucketState}
use Rattle.rules.specs.declared.Descriptor.{Descriptor}
use Rattle.rules.specs.Rules.{descriptor_in, pending_by}
use Rattle.rounds.specs.Rounds.{carry_of, helped_of, with_applied}
use Rattle.rounds.proofs.Laws.{help_left, help_back, help_carried, helped_settled, helped_turn, helped_few, round_end}
use Rattle.rounds.proofs.round.Goals as goal
use Rattle.rounds.proofs.round.Goals.{then-pending+then-not-holds_back, else-pending, else-pending-via-then-pending+else-not-holds_back, else-pending-via-else-pending}

pub loop-j-init : goal.loop-j-init
unfolding helped_of
loop-j-init c =
    let s = c.args in
    let n = s.s.workers in (
      omega arith,
      elim (dec_le n (length s.slots.now / slot_size)) [
        | yes h ↦ let e : n ≡ c.min-m.result = omega arith in ap (helped_of s.state s.slots.now s.s s.depth s.toggle) e
        | no h ↦ helped_few s.state s.slots.now s.s s.depth s.toggle n c.min-m.result (omega arith) (omega arith)
      ],
      refl,
    )

pub loop-j-preserved : goal.loop-j-preserved
unfolding descriptor_in
loop-j-preserved c =
    let s = c.args in
    let l = c.loop-j in
    let u : Descriptor = descriptor_in s.slots.now (slot_size * l.j) in
    let last =
    c.at-last.ensures
    ∙ sym (helped_settled s.state s.slots.now s.s s.depth s.toggle l.j l.j (omega arith))
    ∙ ap (λ (y : BucketState). get_or y.settled l.j 0) (sym l.invariant.2) in
    let pending =
    sym (c.pending.ensures ∙ ap (λ (k : ℕ). pending_by s.toggle l.x.applied l.j k u.ticket) last) in
    let turn = helped_turn s.state s.slots.now s.s s.depth s.toggle l.j l.x in (
      l.invariant.0,
      l.invariant.1,
      elim c.if-pending.branch [
        | then-pending+then-not-holds_back w ↦
            w.x-is ∙ turn _ (w.carry-x.ensures ∙ ap (carry_of l.x s.s l.j) w.descriptor_at.ensures
            ∙ sym (help_carried l.x s.s s.depth s.toggle l.j u (pending ∙ w.if-pending.true)
            (sym w.holds_back.ensures ∙ w.if-not-holds_back.true))) l.invariant.2
        | else-pending w ↦
            w.x-is ∙ turn _ (elim w.else-pending.branch [
              | else-pending-via-then-pending+else-not-holds_back v ↦
                  sym (help_back l.x s.s s.depth s.toggle l.j u (sym v.holds_back.ensures ∙ v.if-not-holds_back.false))
              | else-pending-via-else-pending v ↦ sym (help_left l.x s.s s.depth s.toggle l.j u (pending ∙ v.if-pending.false))
            ]) l.invariant.2
      ],
    )

pub returns : goal.returns
unfolding with_applied
returns c =
    let s = c.args in
    let all : c.loop-j.j ≡ c.min-m.result = omega arith in
    round_end s.state s.slots.now s.s s.depth s.toggle c.min-m.result c.loop-j.x
    (c.loop-j.invariant.2 ∙ ap (helped_of s.state s.slots.now s.s s.depth s.toggle) all)
    c.loop-j.invariant.1
