-- `print_pair`: the word and the two numbers behind it.
-- Rests on the laws that it cites and on the contracts of what is called.
use Prim.Native.Nat.{◌+◌, ◌≤◌, ◌<◌}
use mathlib.Core.Path.{◌≡◌, refl, sym}
use mathlib.Core.List.{◌++◌}
use native.Mathlib.Omega.{arith}
use lib.ListN.{length, length-append}
use Rattle.printers.specs.Written.{pair_text}
use Rattle.decimals.proofs.Overlays.{next}
use Rattle.printers.proofs.Written.{pair_length, wrote, wrote_nothing, has_room, no-room}
use Rattle.printers.proofs.print_pair.Goals as goal
use Rattle.printers.proofs.print_pair.Goals.{After-width-2, Else-not-room}

size_of : (c : After-width-2)
    → length (c.args.word.now ++ pair_text c.args.a
    c.args.b) ≡ length c.args.word.now + (c.width.result
    + 1 + c.width-2.result + 1)
size_of c =
    omega (
      arith,
      length-append c.args.word.now (pair_text c.args.a c.args.b),
      pair_length c.args.a c.args.b,
      c.width.ensures.0,
      c.width-2.ensures.0,
    )

room_for : (c : Else-not-room)
    → c.args.at +
    (length c.args.word.now +
    (c.width.result + 1 + c.width-2.result +
    1)) ≤ length c.args.out.now
room_for c = has_room _ _ _ c.room.ensures c.if-not-room.false

pub returns-then-not-room : goal.returns-then-not-room
returns-then-not-room c =
    let l = c.args.out.now in
    let at = c.args.at in
    let e = size_of (goal.at.returns-then-not-room c).After-width-2 in
    let h : length l < at + (length c.args.word.now +
    (c.width.result + 1 + c.width-2.result +
    1)) = no-room _ _ _ c.room.ensures c.if-not-room.true in
    wrote_nothing l at _ (omega arith)

pub copy-requires : goal.copy-requires
copy-requires c = let h = room_for (goal.at.copy-requires c).Else-not-room in omega arith

pub overflow_add-at : goal.overflow_add-at
overflow_add-at c =
    let h = room_for (goal.at.overflow_add-at c).Else-not-room in
    omega (arith, c.well_formed)

pub spell_pair-requires : goal.spell_pair-requires
spell_pair-requires c =
    let h = room_for (goal.at.spell_pair-requires c).Else-not-room in
    omega (
      arith,
      c.copy.auto.out,
      pair_length c.args.a c.args.b,
      c.width.ensures.0,
      c.width-2.ensures.0,
    )

pub returns : goal.returns
returns c =
    let l = c.args.out.now in
    let at = c.args.at in
    let w = c.args.word.now in
    let t = pair_text c.args.a c.args.b in
    let h = room_for (goal.at.returns c).Else-not-room in
    let e = size_of (goal.at.returns c).After-width-2 in
    wrote l at (w ++ t) _ _ (omega arith) (sym e)
    (next l at w (at + length w) t (omega arith) c.copy.ensures c.spell_pair.ensures refl)
