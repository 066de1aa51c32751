-- `print_reply`: by the reply.
-- Rests on the laws that it cites and on the contracts of what is called.
use Rattle.interface.specs.Numbers.{bytes}
use Rattle.replies.specs.Printed.{printed_reply, printed, printed_unread, printed_line}
use Rattle.replies.proofs.print_reply.Goals as goal

pub returns-in-Ok : goal.returns-in-Ok
unfolding printed_reply printed printed_unread printed_line bytes
returns-in-Ok c = rw c.in-Ok.is c.print_word.ensures

pub returns-in-Refused : goal.returns-in-Refused
unfolding printed_reply printed printed_unread printed_line bytes
returns-in-Refused c =
    rw c.in-Refused.is c.print_counted.ensures

pub returns-in-Moved : goal.returns-in-Moved
unfolding printed_reply printed printed_unread printed_line bytes
returns-in-Moved c =
    rw c.in-Moved.is c.print_counted-in-Moved.ensures

pub returns-in-Answered : goal.returns-in-Answered
unfolding printed_reply printed
returns-in-Answered c = rw c.in-Answered.is c.print_answer.ensures

pub returns-in-Unread : goal.returns-in-Unread
unfolding printed_reply printed printed_unread printed_line bytes
returns-in-Unread c = rw c.in-Unread.is c.print_word-in-Unread.ensures
