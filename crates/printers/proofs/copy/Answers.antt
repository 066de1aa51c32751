-- `copy`: the part in the middle, with what lies before it and after it.
-- Rests on the laws that it cites and on the contracts of what is called.
use Rattle.std.proofs.Common.{◌≡◌, ◌+◌, ◌-◌, length, append_assoc, drop-drop, arith}
use Rattle.lists.specs.Parts.{overlay}
use Rattle.printers.proofs.copy.Goals as goal

pub returns : goal.returns
unfolding overlay
returns c =
    let at = c.args.at in
    let n = length c.args.word.now in
    let e : at + (at + n - at) ≡ at + n = omega arith in
    rw (c.copy_from_slice.ensures.after, drop-drop, e, append_assoc)
