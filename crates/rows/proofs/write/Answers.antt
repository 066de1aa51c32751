-- `write` writes the rows of every entry.
use Prim.Native.Nat.{ℕ, ◌<◌, ◌^◌}
use native.Mathlib.Nat.{le_antisymm}
use lib.IntN.{ℤ}
use native.Mathlib.Omega.{arith}
use mathlib.Core.Path.{refl, sym, ◌∙◌}
use Rattle.entries.specs.Entries.{rows_of}
use Rattle.rows.specs.Rows.{rows_from, unsorted}
use Rattle.lists.proofs.PartLaws.{overlay_nil}
use Rattle.rows.proofs.RowLaws.{span_is, entries_more, counted_entry, entry_room, written_behind}
use Rattle.rows.proofs.write.Goals as goal

pub loop-e-init : goal.loop-e-init
unfolding rows_from
loop-e-init c = record { next = refl; accounts = sym (overlay_nil _ _); totals = sym (overlay_nil _ _) }

pub write_in-k-requires : goal.write_in-k-requires
write_in-k-requires c =
    let s = c.args in
    let l = c.loop-e in
    let n = span_is _ c.requires.0.depth in
    let h : l.e < 2 ^ s.g.depth = omega arith in
    let a = entry_room s.words.now s.g l.e _ h c.requires.1.0 in
    let t = entry_room s.words.now s.g l.e _ h c.requires.1.1 in
    (c.requires.0, (h, (omega arith, omega arith)))

pub loop-e-preserved : goal.loop-e-preserved
loop-e-preserved c =
    let s = c.args in
    let l = c.loop-e in
    let more = entries_more s.words.now s.g l.e in
    let m = counted_entry s.words.now s.g l.e in
    let h = c.write_in-k.ensures in
    let before = rows_from s.words.now s.g 0 l.e in
    let here = rows_of s.words.now s.g l.e in
    record {
      next = omega (arith, h.0);
      accounts = written_behind (λ (x : ℕ × ℤ). x.0) _ _ _ _ before here _ l.invariant.accounts l.invariant.next h.1.0 more;
      totals = written_behind (λ (x : ℕ × ℤ). x.1) _ _ _ _ before here _ l.invariant.totals l.invariant.next h.1.1 more;
    }

pub returns : goal.returns
unfolding unsorted
returns c =
    let l = c.loop-e in
    let e = le_antisymm l.auto.e-end c.loop-e-test.false ∙ span_is _ c.requires.0.depth in
    (rw e at l.invariant.accounts, rw e at l.invariant.totals)
