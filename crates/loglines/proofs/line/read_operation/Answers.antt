-- `read_operation`: k fields are read, and the others follow.
use Prim.Native.Nat.{◌<◌}
use mathlib.Core.Path.{◌≡◌, refl, sym, ◌∙◌}
use native.Mathlib.Omega.{arith}
use native.Mathlib.Numerals.{add-one}
use lib.ListN.{length, take, drop, length-drop, length-set}
use lib.Seq.{length-take-le, take-suc-set}
use borrow.Author.Rules.{rules}
use Rattle.numerals.proofs.Parts.{part_from}
use Rattle.loglines.proofs.LineLaws.{no_word_yet, too_few, next_unread, next_read}
use Rattle.loglines.proofs.line.read_operation.Goals as goal

pub loop-k-init : goal.loop-k-init
loop-k-init c = (search rules, (refl, no_word_yet _))

pub returns-then-rest-end : goal.returns-then-rest-end
returns-then-rest-end c =
    let l = c.args.line.now in
    too_few _ _ _ c.loop-k-test.true
    (rw (part_from l c.loop-k.from) at (rw c.first_field-end.ensures at c.if-rest-end.true))
    ∙ c.loop-k.invariant.1.1

pub slice_bounds-read_field-end : goal.slice_bounds-read_field-end
slice_bounds-read_field-end c = sym (length-take-le _ _ (omega arith))

pub returns-in_err-words : goal.returns-in_err-words
returns-in_err-words c =
    let l = c.args.line.now in
    let from = c.loop-k.from in
    let p = part_from l from in
    c.from_residual.ensures
    ∙ next_unread _ l from c.loop-k.k c.first_field-end.result (rw p at c.first_field-end.ensures)
    (rw p at c.if-rest-end.false)
    (sym (rw p at c.in_err-words.ensures))
    ∙ c.loop-k.invariant.1.1

pub loop-k-preserved : goal.loop-k-preserved
loop-k-preserved c =
    let l = c.args.line.now in
    let from = c.loop-k.from in
    let k = c.loop-k.k in
    let n = c.first_field-end.result in
    let w = c.in_ok-words.field-0 in
    let p = part_from l from in
    let h : n < length (drop from l) = rw p at c.if-rest-end.false in
    let d = length-drop from l in (
      omega arith,
      (
        length-set c.loop-k.words k w ∙ c.loop-k.invariant.1.0,
        rw (add-one k, take-suc-set c.loop-k.words k w (omega arith), ← add-one k)
            (next_read (take k c.loop-k.words) l from k n (rw p at c.first_field-end.ensures) h w
            (sym (rw p at c.in_ok-words.ensures))
            ∙ c.loop-k.invariant.1.1),
      ),
    )

pub returns : goal.returns
returns c =
    let l = c.args.line.now in
    let e : c.loop-k.k ≡ 7 = omega arith in
    c.last_field.ensures ∙ rw (part_from l c.loop-k.from) (rw e at c.loop-k.invariant.1.1)
