-- `Feeding::end_line`: the bytes that are kept of the line.
-- Rests on the laws that it cites and on the contracts of what is called.
use mathlib.Core.Path.{sym, ◌∙◌, ap}
use native.Mathlib.Omega.{arith}
use lib.Seq.{take_all, length-take-le}
use Rattle.loglines.specs.Holding.{line_in, with_line}
use Rattle.loglines.proofs.progress.Feeding.end_line.Goals as goal

pub returns-then-all-len : goal.returns-then-all-len
unfolding line_in
returns-then-all-len c =
    let l = c.args.self.line in
    c.read.ensures ∙ ap (with_line c.args.self.progress) (sym (take_all l.len l.bytes (omega arith)))

pub slice_bounds-read-end : goal.slice_bounds-read-end
slice_bounds-read-end c = sym (length-take-le _ _ (omega arith))

pub returns : goal.returns
unfolding line_in
returns c = c.read-2.ensures
