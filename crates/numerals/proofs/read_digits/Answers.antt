-- `read_digits`: what the bytes passed say is within the limit, and the rest is still to be read after it.
use Prim.Native.Nat.{◌+◌, ◌*◌, ◌<◌}
use mathlib.Core.Path.{◌≡◌, sym, ◌∙◌}
use native.Mathlib.Omega.{arith}
use Rattle.numerals.proofs.NumeralLaws.{stop_other, stop_large, go_on, digits_end}
use Rattle.numerals.proofs.read_digits.Goals as goal

pub returns-then-not-is_ascii_digit : goal.returns-then-not-is_ascii_digit
returns-then-not-is_ascii_digit c =
    let l = c.loop-byte in
    sym (sym l.invariant.1 ∙ stop_other c.args.most l.value c.args.field.now l.byte-index (omega arith)
    c.if-not-is_ascii_digit.ensures.cases)

pub returns-in_err-checked_mul : goal.returns-in_err-checked_mul
returns-in_err-checked_mul c =
    let l = c.loop-byte in
    let digit = c.if-not-is_ascii_digit.ensures in
    let m = c.in_err-checked_mul.ensures in
    let large : c.args.most < l.value * 10 + c.from-digit.result = grind (arith, m) in
    c.from_residual.ensures ∙ sym (sym l.invariant.1 ∙ stop_large c.args.most l.value c.args.field.now l.byte-index (omega arith) (omega arith)
    (omega arith) (omega arith))

pub returns-in_err-next : goal.returns-in_err-next
returns-in_err-next c =
    let l = c.loop-byte in
    let digit = c.if-not-is_ascii_digit.ensures in
    let m = c.in_ok-checked_mul.ensures in
    let e = c.in_err-next.ensures in
    let large : c.args.most < l.value * 10 + c.from-digit.result = grind (arith, m, e) in
    c.from_residual-in_err-next.ensures ∙ sym (sym l.invariant.1 ∙ stop_large c.args.most l.value c.args.field.now l.byte-index (omega arith)
    (omega arith) (omega arith) (omega arith))

pub returns-then-most-next : goal.returns-then-most-next
returns-then-most-next c =
    let l = c.loop-byte in
    let digit = c.if-not-is_ascii_digit.ensures in
    let m = c.in_ok-checked_mul.ensures in
    let e = c.in_ok-next.ensures in
    let sum : c.in_ok-next.next ≡ l.value * 10 + c.from-digit.result = grind (arith, m, e) in
    sym (sym l.invariant.1 ∙ stop_large c.args.most l.value c.args.field.now l.byte-index (omega arith) (omega arith)
    (omega arith) (omega arith))

pub loop-byte-preserved : goal.loop-byte-preserved
loop-byte-preserved c =
    let l = c.loop-byte in
    let digit = c.if-not-is_ascii_digit.ensures in
    let m = c.in_ok-checked_mul.ensures in
    let e = c.in_ok-next.ensures in
    let sum : c.in_ok-next.next ≡ l.value * 10 + c.from-digit.result = grind (arith, m, e) in (
      omega arith,
      rw (sum, c.from-digit.ensures)
          (sym (go_on c.args.most l.value c.args.field.now l.byte-index (omega arith) (omega arith) (omega arith)) ∙ l.invariant.1),
    )

pub returns : goal.returns
returns c =
    sym (sym c.loop-byte.invariant.1 ∙ digits_end c.args.most c.loop-byte.value c.args.field.now
    c.loop-byte.byte-index (omega arith) (omega arith))
