-- `Reader::push`: the byte is kept while there is room.
-- Rests on the laws that it cites and on the contracts of what is called.
use borrow.Author.Tests.{lt-ltb, le-ltb}
use Rattle.machine.specs.Choice.{when◌then◌else◌}
use Rattle.lines.specs.Reading.{line_room, pushed}
use Rattle.lines.proofs.reader.Reader.push.Goals as goal

pub returns-then-len-lt-LINE_ROOM : goal.returns-then-len-lt-LINE_ROOM
unfolding pushed when◌then◌else◌
returns-then-len-lt-LINE_ROOM c = rw (lt-ltb _ line_room c.if-len-lt-LINE_ROOM.true)

pub returns-else-len-lt-LINE_ROOM : goal.returns-else-len-lt-LINE_ROOM
unfolding pushed when◌then◌else◌
returns-else-len-lt-LINE_ROOM c = rw (le-ltb _ line_room c.if-len-lt-LINE_ROOM.false)
