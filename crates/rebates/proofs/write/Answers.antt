-- `write` writes the rows one by one.
use Prim.Native.Nat.{ℕ}
use native.Mathlib.Nat.{le_antisymm}
use native.Mathlib.Omega.{arith}
use mathlib.Core.Path.{◌≡◌, sym, ◌∙◌, ap}
use lib.IntN.{ℤ, pos}
use lib.ListN.{get_or}
use mir.Val.{SFits}
use mir.Syntax.{w64}
use mir.Facts.{to_z-of_z}
use borrow.Author.Rules.{rules}
use Rattle.lists.proofs.PartLaws.{overlay_nil}
use Rattle.sorting.specs.RowLists.{row_at, rows_at}
use Rattle.rebate.specs.Rebate.{rebate_on}
use Rattle.rebates.proofs.RebateRows.{row_behind}
use Rattle.rebates.proofs.write.Goals as goal

pub loop-i-init : goal.loop-i-init
unfolding rows_at
loop-i-init c = record { accounts = sym (overlay_nil _ _); rebates = sym (overlay_nil _ _) }

pub loop-i-preserved : goal.loop-i-preserved
unfolding row_at
loop-i-preserved c =
    let s = c.args in
    let l = c.loop-i in
    let fits : SFits w64 (get_or s.totals.now l.i (pos 0)) = search rules in
    let e : c.rebate.result ≡ rebate_on (get_or s.totals.now l.i (pos 0)) =
    c.rebate.ensures ∙ ap rebate_on (to_z-of_z fits) in
    record {
      accounts = row_behind _ _ (λ (x : ℕ × ℤ). x.0) _ _ l.i l.invariant.accounts (omega arith);
      rebates = rw e (row_behind _ _ (λ (x : ℕ × ℤ). rebate_on x.1) _ _ l.i l.invariant.rebates (omega arith));
    }

pub returns : goal.returns
returns c =
    let l = c.loop-i in
    let e = le_antisymm l.auto.i-end c.loop-i-test.false in
    (rw e at l.invariant.accounts, rw e at l.invariant.rebates)
