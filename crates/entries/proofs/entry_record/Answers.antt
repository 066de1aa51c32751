-- `entry_record` reads the record that an entry names, as `entry_record` says.
-- Rests on the bounds of words that fit.
use native.Mathlib.Omega.{arith}
use Rattle.entries.specs.Entries.{entry_record}
use Rattle.layout.proofs.Positions.{start_bound}
use Rattle.entries.proofs.EntryLaws.{span_limit}
use Rattle.entries.proofs.entry_record.Goals as goal

pub overflow_add-directory_start : goal.overflow_add-directory_start
overflow_add-directory_start c =
    let f = c.requires.0 in
    omega (arith, start_bound c.args.g.workers f.workers, span_limit c.args.g.depth f.depth)

pub returns : goal.returns
unfolding entry_record
returns c = rw (← c.directory_start.ensures, ← c.get_or.ensures) c.record_in.ensures
