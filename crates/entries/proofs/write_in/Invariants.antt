-- `write_in` writes the rows of one entry. The loop's invariant: the rows among the first i accounts are written. Rests on the laws of
-- rows.
use Rattle.entries.proofs.EntryLaws.{Looked, Written}
use Rattle.entries.proofs.write_in.Given as goal

abbrev pub invariant-loop-i : goal.invariant-loop-i
invariant-loop-i l = record {
  looked : Looked l.words l.g l.e l.q l.c;
  written : Written l.words l.g l.e l.q l.k l.initial.accounts l.initial.totals l.i l.accounts l.totals l.at;
}
