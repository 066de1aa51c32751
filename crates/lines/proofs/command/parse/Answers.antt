-- `parse`: a line of one field, or a letter with fields behind it.
-- Rests on the laws that it cites and on the contracts of what is called.
use Prim.Native.Nat.{◌+◌}
use mathlib.Core.Path.{sym, ◌∙◌}
use borrow.Author.Tests.{eq-eqb, ne_eqb}
use Rattle.machine.specs.Choice.{when◌then◌else◌}
use Rattle.commands.specs.Commands.{list_letter, one_field}
use Rattle.lines.proofs.Splitting.{found, none_found, alone, followed}
use Rattle.numerals.proofs.Parts.{part_from}
use Rattle.lines.proofs.command.parse.Goals as goal

pub returns-then-letter-eq84 : goal.returns-then-letter-eq84
unfolding one_field when◌then◌else◌
returns-then-letter-eq84 c =
    let l = c.args.line.now in
    sym (alone l (none_found l c.in-None.ensures) ∙ rw (sym c.letter-in-None.ensures, eq-eqb _ list_letter c.if-letter-eq84.true))

pub returns-else-letter-eq84 : goal.returns-else-letter-eq84
unfolding one_field when◌then◌else◌
returns-else-letter-eq84 c =
    let l = c.args.line.now in
    sym (alone l (none_found l c.in-None.ensures) ∙ rw (sym c.letter-in-None.ensures, ne_eqb _ list_letter c.if-letter-eq84.false))

pub returns-in-Some : goal.returns-in-Some
returns-in-Some c =
    let l = c.args.line.now in
    let n = c.in-Some.end in
    let f = found l n c.in-Some.ensures in
    c.after_letter.ensures ∙ rw (c.letter.ensures, part_from l (n + 1)) (sym (followed l n f.0 f.1))
