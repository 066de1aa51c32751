-- `call_in` refuses a call, or begins it, as `call_in` says: a case for each `return`.
-- Rests on the laws of a call, and on the bounds of a worker's words.
use Prim.Native.Nat.{◌≤◌, ◌<◌}
use native.Mathlib.Omega.{arith}
use native.Mathlib.Decide.{dec_lt}
use mathlib.Core.Logic.{◌⊎◌, inl, inr, by_cases}
use mathlib.Core.Path.{sym, ◌∙◌, ap}
use mir.Syntax.{w64}
use mir.Val.{of_z}
use mir.Facts.{to_z-of_z}
use Rattle.interface.specs.Numbers.{kind_insert, greatest_kind}
use Rattle.machine.proofs.laws.Base.{if_eq, if_ne}
use Rattle.layout.proofs.Positions.{Placed, placed}
use Rattle.calls.proofs.CallLaws.{call_busy, call_kind, call_lookup, call_spent, call_update}
use Rattle.calls.proofs.call_in.Goals as goal
use Rattle.calls.proofs.call_in.Goals.{else-kind-eq-KIND_DELETE, then-kind-eq-KIND_DELETE}
use Rattle.calls.proofs.call_in.Goals.{After-worker_at-p, Else-not-matches}

-- the worker's record lies inside the words
inside : (c : After-worker_at-p) → Placed c.args.words.now c.args.g c.worker_at-p.result
inside c = rw c.worker_at-p.ensures (placed c.requires.0 _ c.requires.1)

pub overflow_add-p : goal.overflow_add-p
overflow_add-p c = let b = inside (goal.at.overflow_add-p c).After-worker_at-p in omega arith

pub get-requires : goal.get-requires
get-requires c = let b = inside (goal.at.get-requires c).After-worker_at-p in omega arith

pub returns-then-get-ne-KIND_NONE : goal.returns-then-get-ne-KIND_NONE
returns-then-get-ne-KIND_NONE c =
    rw (← c.worker_at-p.ensures) (call_busy _ _ _ _ _ _ c.get.ensures c.if-get-ne-KIND_NONE.true)

-- the kind is one of the four, or below or above them
known :
    (c : Else-not-matches) → (kind_insert ≤ c.args.kind) × (c.args.kind ≤ greatest_kind)
known c = (grind arith, grind arith)

pub returns-then-not-matches : goal.returns-then-not-matches
returns-then-not-matches c =
    let other : (c.args.kind < kind_insert) ⊎ (greatest_kind < c.args.kind) =
    by_cases (dec_lt c.args.kind kind_insert) inl (λ h. inr (grind arith)) in
    rw (← c.worker_at-p.ensures) (call_kind _ _ _ _ _ _ c.get.ensures c.if-get-ne-KIND_NONE.false other)

pub overflow_add-p-2 : goal.overflow_add-p-2
overflow_add-p-2 c = let b = inside (goal.at.overflow_add-p-2 c).After-worker_at-p in omega arith

pub get-last-requires : goal.get-last-requires
get-last-requires c = let b = inside (goal.at.get-last-requires c).After-worker_at-p in omega arith

pub returns-then-kind-eq-KIND_LOOKUP : goal.returns-then-kind-eq-KIND_LOOKUP
returns-then-kind-eq-KIND_LOOKUP c =
    let k = known (goal.at.returns-then-kind-eq-KIND_LOOKUP c).Else-not-matches in
    rw (← c.worker_at-p.ensures)
    (call_lookup _ _ _ _ _ _ c.get.ensures c.if-get-ne-KIND_NONE.false k.0 k.1 _ c.get-last.ensures _
    c.if-kind-eq-KIND_LOOKUP.true
    (rw c.worker_at-p.ensures c.begin.ensures))

pub returns-then-last-ge-GREATEST_TICKET : goal.returns-then-last-ge-GREATEST_TICKET
returns-then-last-ge-GREATEST_TICKET c =
    let k = known (goal.at.returns-then-last-ge-GREATEST_TICKET c).Else-not-matches in
    rw (← c.worker_at-p.ensures)
    (call_spent _ _ _ _ _ _ c.get.ensures c.if-get-ne-KIND_NONE.false k.0 k.1 _ c.get-last.ensures
    c.if-kind-eq-KIND_LOOKUP.false
    c.if-last-ge-GREATEST_TICKET.true)

pub returns : goal.returns
returns c =
    let k = known (goal.at.returns c).Else-not-matches in
    rw (← c.worker_at-p.ensures)
    (call_update _ _ _ _ _ _ c.get.ensures c.if-get-ne-KIND_NONE.false k.0 k.1 _ c.get-last.ensures
    c.if-kind-eq-KIND_LOOKUP.false
    _ _ c.if-last-ge-GREATEST_TICKET.false
    (elim c.if-kind-eq-KIND_DELETE.branch [ then-kind-eq-KIND_DELETE w ↦ w.total-is ∙ sym (if_eq _ _ _ _ w.if-kind-eq-KIND_DELETE.true) | else-kind-eq-KIND_DELETE w ↦ w.total-is ∙ w.word_of-total.ensures ∙ ap (of_z w64) (to_z-of_z c.ranges.total) ∙ sym (if_ne _ _ _ _ w.if-kind-eq-KIND_DELETE.false) ])
    (rw c.worker_at-p.ensures c.begin-2.ensures))
