-- `scan` finds what the definition finds.
use native.Mathlib.Omega.{arith}
use mathlib.Core.Path.{◌≡◌, sym, ◌∙◌, ap}
use lib.ListN.{length}
use Rattle.arrays.specs.declared.Position.TheVariants.{Before}
use Rattle.arrays.proofs.Laws.{scan_hit, scan_before, scan_turn, scan_end}
use Rattle.arrays.proofs.scan.Goals as goal

pub returns-then-account-x-2 : goal.returns-then-account-x-2
returns-then-account-x-2 c =
    let s = c.args in
    sym (scan_hit s.accounts.now s.account c.loop-i.i (omega arith) (omega arith)) ∙ c.loop-i.invariant

pub returns-else-account-x-2 : goal.returns-else-account-x-2
returns-else-account-x-2 c =
    let s = c.args in
    sym (scan_before s.accounts.now s.account c.loop-i.i (omega arith) (omega (arith, c.if-account-x-2.false)))
    ∙ c.loop-i.invariant

pub loop-i-preserved : goal.loop-i-preserved
loop-i-preserved c =
    let s = c.args in
    sym (scan_turn s.accounts.now s.account c.loop-i.i (omega arith) (omega arith)) ∙ c.loop-i.invariant

pub returns : goal.returns
returns c =
    let s = c.args in
    let e : c.loop-i.i ≡ length s.accounts.now = omega arith in
    ap Before (sym e) ∙ sym (scan_end s.accounts.now s.account c.loop-i.i (omega arith)) ∙ c.loop-i.invariant
