-- `Reader::command`: a long line, or the bytes that are kept.
-- Rests on the laws that it cites and on the contracts of what is called.
use Prim.Native.Nat.{◌<◌}
use mathlib.Core.Path.{◌∙◌, ap}
use native.Mathlib.Omega.{arith}
use native.Mathlib.Numerals.{unary_clauses}
use lib.ListN.{length}
use borrow.Author.Tests.{lt-leb, le-leb}
use Rattle.machine.specs.Choice.{when◌then◌else◌}
use Rattle.lines.specs.Grammar.{command_of}
use Rattle.lines.specs.Reading.{command_in}
use Rattle.lines.proofs.reader.Reader.command.Goals as goal

pub returns-then-self : goal.returns-then-self
unfolding command_in when◌then◌else◌
returns-then-self c = rw c.if-self.true

pub returns-in_err-get : goal.returns-in_err-get
unfolding command_in when◌then◌else◌
returns-in_err-get c =
    let past : length c.args.self.line < c.args.self.len = omega (arith, c.in_err-get.ensures.lookup) in
    rw (c.if-self.false, lt-leb _ _ past) c.from_residual.ensures

pub returns : goal.returns
unfolding command_in when◌then◌else◌
returns c =
    let part = c.in_ok-get.ensures.lookup.0 in
    rw (c.if-self.false, le-leb _ _ part.1) (c.parse.ensures ∙ ap command_of (simp unary_clauses at part.2))
