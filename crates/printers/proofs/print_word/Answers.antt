-- `print_word`: the bytes, where they have room.
-- Rests on the laws that it cites and on the contracts of what is called.
use mathlib.Core.Path.{refl}
use Rattle.printers.proofs.Written.{wrote, wrote_nothing, has_room, no-room}
use Rattle.printers.proofs.print_word.Goals as goal

pub returns-then-not-room : goal.returns-then-not-room
returns-then-not-room c =
    wrote_nothing c.args.out.now c.args.at c.args.word.now (no-room _ _ _ c.room.ensures c.if-not-room.true)

pub copy-requires : goal.copy-requires
copy-requires c = has_room _ _ _ c.room.ensures c.if-not-room.false

pub returns : goal.returns
returns c =
    wrote c.args.out.now c.args.at c.args.word.now _ _ (has_room _ _ _ c.room.ensures c.if-not-room.false) refl
    c.copy.ensures
