-- `conclude`: no room, a line that is none of a log, or a log.
-- Rests on the laws that it cites and on the contracts of what is called.
use native.Mathlib.Omega.{arith}
use Rattle.interface.specs.Numbers.{bytes}
use Rattle.replies.specs.Printed.{printed_line}
use Rattle.loglines.specs.Texts.{unread_text}
use Rattle.loglines.specs.Inputs.{input_text}
use Rattle.loglines.proofs.TextLaws.{wrote_printed, without_room, with_room, counted_length}
use Rattle.loglines.proofs.Reading.{some_unread, none_unread}
use Rattle.loglines.proofs.text.conclude.Goals as goal

pub returns-then-out-lt-TEXT_ROOM : goal.returns-then-out-lt-TEXT_ROOM
returns-then-out-lt-TEXT_ROOM c = record { told = without_room _ _ c.if-out-lt-TEXT_ROOM.true; within = omega arith }

pub returns-then-line-gt0 : goal.returns-then-line-gt0
unfolding input_text unread_text printed_line bytes
returns-then-line-gt0 c =
    let n = c.unread-line.result in
    let size = counted_length (bytes "unread ") n (omega arith) in
    let printed_so = wrote_printed _ _ c.print_counted.ensures (omega arith) in
    record {
      told = rw (
        with_room _ _ c.if-out-lt-TEXT_ROOM.false,
        ← c.end-progress.ensures,
        some_unread c.end-progress.result n c.unread-line.ensures c.if-line-gt0.true,
      ) printed_so.0;
      within = printed_so.1;
    }

pub print_judged-requires : goal.print_judged-requires
print_judged-requires c = c.if-out-lt-TEXT_ROOM.false

pub returns : goal.returns
returns c =
    rw (
      with_room _ _ c.if-out-lt-TEXT_ROOM.false,
      ← c.end-progress.ensures,
      none_unread c.end-progress.result c.unread-line.result c.unread-line.ensures c.if-line-gt0.false,
    ) c.print_judged.ensures
