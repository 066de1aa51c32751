-- `write_in` writes the rows of one entry.
use Prim.Native.Nat.{ℕ, ◌<◌, ◌%◌}
use lib.ListN.{length}
use native.Mathlib.Omega.{arith}
use mathlib.Core.Path.{sym, ◌∙◌, ap}
use Rattle.entries.specs.Entries.{row_at}
use Rattle.entries.proofs.EntryLaws.{looked, entry_inside, same_bits, written_start, written_room, written_more, written_same, written_end}
use Rattle.memory.proofs.Totals.{total_kept}
use borrow.Author.Rules.{rules}
use Rattle.entries.proofs.write_in.Goals as goal
use Rattle.entries.proofs.write_in.Goals.{Then-first_bits-e, then-first_bits-e, else-first_bits-e}

pub size-c-requires : goal.size-c-requires
size-c-requires c = (c.requires.0, entry_inside _ _ c.requires.0 c.entry_record-q.ensures)

pub loop-i-init : goal.loop-i-init
loop-i-init c =
    record {
      looked = looked _ _ _ c.requires.0 c.entry_record-q.ensures c.size-c.ensures;
      written = written_start _ _ _ _ _ _ _;
    }

-- there is a place for one row more in each list
room :
    (c : Then-first_bits-e)
    → let s = c.args in
    (c.loop-i.at < length s.accounts.now) × (c.loop-i.at < length s.totals.now)
room c =
    let l = c.loop-i in
    let bits = same_bits c.args.words.now c.args.g _ l.i _ _ c.get-a.ensures
    c.first_bits.ensures in
    let hit = sym bits ∙ c.if-first_bits-e.true in
    let test = c.loop-i-test.true in (
      written_room _ _ _ _ _ _ _ _ _ _ _ l.invariant.written _ _ l.invariant.looked hit test c.requires.1.1.0,
      written_room _ _ _ _ _ _ _ _ _ _ _ l.invariant.written _ _ l.invariant.looked hit test c.requires.1.1.1,
    )

pub offset_bounds-accounts-at : goal.offset_bounds-accounts-at
offset_bounds-accounts-at c = let h = room (goal.at.offset_bounds-accounts-at c).Then-first_bits-e in omega arith

pub bounds-accounts-at : goal.bounds-accounts-at
bounds-accounts-at c = let h = room (goal.at.bounds-accounts-at c).Then-first_bits-e in omega arith

pub offset_bounds-totals-at : goal.offset_bounds-totals-at
offset_bounds-totals-at c =
    let h = room (goal.at.offset_bounds-totals-at c).Then-first_bits-e in
    omega arith

pub bounds-totals-at : goal.bounds-totals-at
bounds-totals-at c =
    let h = room (goal.at.bounds-totals-at c).Then-first_bits-e in
    omega arith

pub overflow_add-at : goal.overflow_add-at
overflow_add-at c =
    let h = room (goal.at.overflow_add-at c).Then-first_bits-e in
    omega arith

pub loop-i-preserved : goal.loop-i-preserved
unfolding row_at
loop-i-preserved c =
    let s = c.args in
    let l = c.loop-i in
    let q = c.entry_record-q.result in
    let get = c.get-a.ensures in
    let same = same_bits s.words.now s.g q l.i _ _ get c.first_bits.ensures in
    let test = c.loop-i-test.true in
    let written = l.invariant.written in
    record {
      looked = l.invariant.looked;
      written = elim c.if-first_bits-e.branch [
        | then-first_bits-e w ↦
            let hit = sym same ∙ w.if-first_bits-e.true in
            rw (w.accounts-is, w.totals-is, w.at-is)
            (written_more _ _ _ _ _ _ _ _ _ _ _ written _ _ hit (ap (λ (a : ℕ). a % 4_294_967_296) get)
            (total_kept _ _ _ w.total_of.ensures (search rules) w.get.ensures)
            (written_room _ _ _ _ _ _ _ _ _ _ _ written _ _ l.invariant.looked hit test c.requires.1.1.0)
            (written_room _ _ _ _ _ _ _ _ _ _ _ written _ _ l.invariant.looked hit test c.requires.1.1.1))
        | else-first_bits-e w ↦
            rw (w.accounts-is, w.totals-is, w.at-is)
            (written_same _ _ _ _ _ _ _ _ _ _ _ written (λ h. w.if-first_bits-e.false (same ∙ h)))
      ];
    }

pub returns : goal.returns
returns c = let l = c.loop-i in written_end _ _ _ _ _ _ _ _ _ _ _ l.invariant.written _ l.invariant.looked l.auto.i-end c.loop-i-test.false
