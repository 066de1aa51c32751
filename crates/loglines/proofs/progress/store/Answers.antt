-- `store`: the words at their place.
use Prim.Native.Nat.{ℕ, ◌+◌, ◌-◌}
use mathlib.Core.Path.{◌≡◌, sym}
use mathlib.Core.List.{List, ◌++◌, append_assoc}
use native.Mathlib.Omega.{arith}
use lib.ListN.{length, take, drop}
use Rattle.std.proofs.lemmas.List.{drop-drop}
use Rattle.lists.specs.Parts.{overlay}
use Rattle.loglines.proofs.progress.store.Goals as goal

placed : (at : ℕ) (l row : List ℕ) → take at l ++ (row ++ drop (length row) (drop at l)) ≡ overlay l at row
unfolding overlay
placed at l row = rw (drop-drop (length row) at l) (sym (append_assoc (take at l) row (drop (at + length row) l)))

pub returns : goal.returns
returns c =
    let at = c.args.at in
    let row = c.args.row.now in
    let k : at + length row - at ≡ length row = omega arith in
    rw (k, c.copy_from_slice.ensures.after) (placed at c.args.words.now row)
