-- `found-before` answers `found_before`.
use mathlib.Core.Path.{refl, sym, ◌∙◌}
use Rattle.rules.specs.Rules.{bit}
use Rattle.fields.specs.Regions.{worker_at}
use Rattle.marks.specs.StateStep.{found_before}
use Rattle.renumbering.proofs.Searches.{any_hit, any_turn, any_none}
use Rattle.marks.proofs.Cases.{found_unmarked, found_it, found_not}
use Rattle.marks.proofs.found_before.Goals as goal
use Rattle.marks.proofs.found_before.Goals.{else-bits-i-eq1-via-then-bits-i-eq1+else-record_of-q, else-bits-i-eq1-via-else-bits-i-eq1}

pub loop-i-init : goal.loop-i-init
unfolding found_before
loop-i-init c = refl

pub returns-then-record_of-q : goal.returns-then-record_of-q
unfolding bit
returns-then-record_of-q c =
    sym
    (any_hit _ _ c.loop-i-test.true
    (found_it _ _ _ _ _ _ c.worker_word-bits.ensures _ _ c.slot_word.ensures c.record_of.ensures
    c.if-bits-i-eq1.true
    c.if-record_of-q.true))
    ∙ c.loop-i.invariant

pub loop-i-preserved : goal.loop-i-preserved
unfolding bit
loop-i-preserved c =
    let args = c.args in
    any_turn _ _ c.loop-i-test.true
    (elim c.else-bits-i-eq1.branch [
      | else-bits-i-eq1-via-then-bits-i-eq1+else-record_of-q w ↦
          found_not _ _ _ _ _ _ c.worker_word-bits.ensures _ _ w.slot_word.ensures w.record_of.ensures w.if-record_of-q.false
      | else-bits-i-eq1-via-else-bits-i-eq1 w ↦
          found_unmarked args.words.now args.g (worker_at args.g.workers args.w) args.q _ _ c.worker_word-bits.ensures w.if-bits-i-eq1.false
    ])
    ∙ c.loop-i.invariant

pub returns : goal.returns
returns c = sym (any_none _ _ c.loop-i-test.false) ∙ c.loop-i.invariant
