-- `print_end`: a word and a number.
-- Rests on the laws that it cites and on the contracts of what is called.
use Rattle.interface.specs.Numbers.{bytes}
use Rattle.replies.specs.Printed.{printed_end, printed_line}
use Rattle.replies.proofs.print_end.Goals as goal

pub returns : goal.returns
unfolding printed_end printed_line bytes
returns c = c.print_counted.ensures
