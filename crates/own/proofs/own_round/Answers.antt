-- `own_round` carries out the worker's own update, if it is due and not held back, as the round would.
-- Rests on the laws of an own update's round.
use Prim.Native.Nat.{ℕ}
use native.Mathlib.Omega.{arith}
use mathlib.Core.Path.{◌∙◌, ap}
use Rattle.fields.specs.Regions.{worker_at}
use Rattle.memory.specs.Words.{least}
use Rattle.own.proofs.OwnRound.{Tested, tested, own_held_back, own_required, own_settled, own_carried}
use Rattle.own.proofs.own_round.Goals as goal
use Rattle.own.proofs.own_round.Goals.{After-holds_back}

-- what every return has tested
held :
    (c : After-holds_back) → let s = c.args in
    Tested s.words.now s.g (worker_at s.g.workers s.w) s.q s.w s.toggle c.least-c.result
    c.holds_back.result
held c =
    let s = c.args in
    tested s.words.now s.g (worker_at s.g.workers s.w) s.q s.w s.toggle _ _ _ c.requires
    (c.least-c.ensures ∙ ap (λ (k : ℕ). least k s.g.capacity) c.get.ensures) c.get-2.ensures c.holds_back.ensures

pub returns-then-holds_back : goal.returns-then-holds_back
returns-then-holds_back c =
    own_held_back (held (goal.at.returns-then-holds_back c).After-holds_back) c.if-holds_back.true c.put_first.ensures

pub returns-then-u-settled_ticket : goal.returns-then-u-settled_ticket
returns-then-u-settled_ticket c =
    own_settled (held (goal.at.returns-then-u-settled_ticket c).After-holds_back) c.slot_read-u.ensures c.settled_ticket.ensures (omega (arith, c.if-u-settled_ticket.true))
    c.put_first-then-u-settled_ticket.ensures

pub carry_own-requires : goal.carry_own-requires
carry_own-requires c = own_required (held (goal.at.carry_own-requires c).After-holds_back)

pub returns : goal.returns
returns c =
    own_carried (held (goal.at.returns c).After-holds_back) c.slot_read-u.ensures c.settled_ticket.ensures c.if-holds_back.false c.if-u-settled_ticket.false
    c.carry_own.ensures
