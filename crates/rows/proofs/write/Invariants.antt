-- `write` writes the rows of every entry. The loop's invariant: the rows of the first e entries are written. Rests on the laws of rows.
use mathlib.Core.Path.{◌≡◌}
use mathlib.Core.List.{map}
use lib.ListN.{length}
use Rattle.lists.specs.Parts.{overlay}
use Rattle.rows.specs.Rows.{rows_from}
use Rattle.rows.proofs.write.Given as goal

abbrev pub invariant-loop-e : goal.invariant-loop-e
invariant-loop-e l = record {
  next : l.k ≡ length (rows_from l.words l.g 0 l.e);
  accounts : l.accounts ≡ overlay l.initial.accounts 0 (map (λ x. x.0) (rows_from l.words l.g 0 l.e));
  totals : l.totals ≡ overlay l.initial.totals 0 (map (λ x. x.1) (rows_from l.words l.g 0 l.e));
}
