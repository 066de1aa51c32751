-- `feed`: the loop's invariant is that feeding the bytes left comes to feeding all.
use native.Mathlib.Omega.{arith}
use mathlib.Core.Path.{◌≡◌, refl, ◌∙◌, ap}
use lib.ListN.{length}
use Rattle.outputs.specs.Outputs.{state_of}
use Rattle.driver.specs.Feeding.{feeding_of}
use Rattle.driver.proofs.Bytes.{same_feeding, fed_end, fed_full, fed_next, took_line, took_byte}
use Rattle.driver.proofs.feed.Goals as goal
use Rattle.driver.proofs.feed.Goals.{else-byte-eq10, then-byte-eq10}

pub loop-i-init : goal.loop-i-init
loop-i-init c = ((refl, (refl, (refl, refl))), refl)

pub loop-i-preserved : goal.loop-i-preserved
loop-i-preserved c =
    let lengths = c.loop-i.invariant.0 in
    let next = fed_next _ _ _ _ _ c.loop-i-test.true c.roomy.ensures
    c.if-not-roomy.false in
    (elim c.if-byte-eq10.branch [
      | then-byte-eq10 w ↦
          let kept = w.answer-used.auto in (
            (
              ap length w.words-is ∙ kept.words ∙ lengths.0,
              (
                ap length w.accounts-is ∙ kept.accounts ∙ lengths.1.0,
                (ap length w.totals-is ∙ kept.totals ∙ lengths.1.1.0, ap length w.out-is ∙ kept.out ∙ lengths.1.1.1),
              ),
            ),
            next (same_feeding _ w.words-is w.accounts-is w.totals-is w.out-is w.reader-is w.used-is
                ∙ took_line _ _ _ _ _ w.if-byte-eq10.true w.command.ensures w.answer-used.ensures w.new-reader.ensures)
                ∙ c.loop-i.invariant.1,
          )
      | else-byte-eq10 w ↦ (
        (
          ap length w.words-is ∙ lengths.0,
          (ap length w.accounts-is ∙ lengths.1.0, (ap length w.totals-is ∙ lengths.1.1.0, ap length w.out-is ∙ lengths.1.1.1)),
        ),
        next (same_feeding _ w.words-is w.accounts-is w.totals-is w.out-is w.reader-is w.used-is ∙ took_byte _ _ _ w.if-byte-eq10.false w.push-reader.ensures)
            ∙ c.loop-i.invariant.1,
      )
    ])

pub returns-then-not-roomy : goal.returns-then-not-roomy
returns-then-not-roomy c = fed_full _ _ _ _ c.loop-i-test.true c.roomy.ensures c.if-not-roomy.true
    ∙ c.loop-i.invariant.1

pub returns : goal.returns
returns c =
    let all : length c.args.input.now ≡ c.loop-i.i = omega arith in
    ap (feeding_of (state_of c.loop-i.words c.loop-i.accounts c.loop-i.totals c.loop-i.out c.loop-i.used) c.loop-i.reader) all
    ∙ fed_end _ _ _ c.loop-i-test.false
    ∙ c.loop-i.invariant.1
