-- `count` counts the rows of every entry.
use Prim.Native.Nat.{ℕ}
use native.Mathlib.Nat.{le_antisymm}
use native.Mathlib.Omega.{arith}
use mathlib.Core.Path.{refl, ◌∙◌, ap}
use lib.ListN.{length}
use Rattle.rows.specs.Rows.{rows_from, unsorted}
use Rattle.rows.proofs.RowLaws.{span_is, counted_entry}
use Rattle.entries.proofs.EntryLaws.{span_limit, entry_limit}
use borrow.Author.Rules.{rules}
use Rattle.rows.proofs.count.Goals as goal

pub loop-e-init : goal.loop-e-init
unfolding rows_from
loop-e-init c = record { few = search rules; count = refl }

pub count_in-k-requires : goal.count_in-k-requires
count_in-k-requires c = let n = span_is _ c.requires.depth in (c.requires, omega arith)

pub overflow_add-k : goal.overflow_add-k
overflow_add-k c =
    let s = c.args in
    let n = span_is _ c.requires.depth in
    let m = entry_limit s.words.now s.g c.loop-e.e c.requires in
    omega (arith, span_limit s.g.depth c.requires.depth, c.count_in-k.ensures)

pub loop-e-preserved : goal.loop-e-preserved
loop-e-preserved c =
    let s = c.args in
    let n = entry_limit s.words.now s.g c.loop-e.e c.requires in
    let m = counted_entry s.words.now s.g c.loop-e.e in
    let h = c.count_in-k.ensures in
    record { few = omega arith; count = omega arith }

pub returns : goal.returns
unfolding unsorted
returns c =
    let s = c.args in
    let l = c.loop-e in
    l.invariant.count ∙ ap (λ (e : ℕ). length (rows_from s.words.now s.g 0 e))
    (le_antisymm l.auto.e-end c.loop-e-test.false ∙ span_is _ c.requires.depth)
