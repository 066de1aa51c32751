-- `count_in` counts the rows of one entry.
use native.Mathlib.Omega.{arith}
use mathlib.Core.Path.{refl, sym, ◌∙◌, ap}
use lib.ListN.{length}
use Rattle.entries.specs.Entries.{rows_in}
use Rattle.entries.proofs.EntryLaws.{looked, entry_inside, same_bits, rows_same, counted_more, counted_end}
use borrow.Author.Rules.{rules}
use Rattle.entries.proofs.count_in.Goals as goal
use Rattle.entries.proofs.count_in.Goals.{then-first_bits-e, else-first_bits-e}

pub size-c-requires : goal.size-c-requires
size-c-requires c = (c.requires.0, entry_inside _ _ c.requires.0 c.entry_record-q.ensures)

pub loop-i-init : goal.loop-i-init
unfolding rows_in
loop-i-init c =
    record { looked = looked _ _ _ c.requires.0 c.entry_record-q.ensures c.size-c.ensures; few = search rules; count = refl }

pub loop-i-preserved : goal.loop-i-preserved
loop-i-preserved c =
    let s = c.args in
    let l = c.loop-i in
    let q = c.entry_record-q.result in
    let same = same_bits s.words.now s.g q l.i _ _ c.get.ensures c.first_bits.ensures in
    record {
      looked = l.invariant.looked;
      few = elim c.if-first_bits-e.branch [ then-first_bits-e w ↦ omega arith | else-first_bits-e w ↦ omega arith ];
      count = elim c.if-first_bits-e.branch [
        | then-first_bits-e w ↦
            omega (arith, counted_more s.words.now s.g s.e q l.i (sym same ∙ w.if-first_bits-e.true))
        | else-first_bits-e w ↦
            w.k-is ∙ l.invariant.count ∙ ap length
            (sym (rows_same s.words.now s.g s.e q l.i (λ h. w.if-first_bits-e.false (same ∙ h))))
      ];
    }

pub returns : goal.returns
returns c = let l = c.loop-i in counted_end l.i l.k l.invariant.looked l.invariant.count l.auto.i-end c.loop-i-test.false
