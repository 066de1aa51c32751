-- `post`: a worker and an account, and the amount.
-- Rests on the laws that it cites and on the contracts of what is called.
use mir.Syntax.{w64}
use mir.Val.{SFits}
use mir.Facts.{to_z-of_z}
use borrow.Author.Rules.{rules}
use Rattle.commands.specs.Commands.{total_of}
use Rattle.commands.proofs.Fields.{of_pair_then}
use Rattle.commands.proofs.post.Goals as goal

pub returns-in_err-w : goal.returns-in_err-w
returns-in_err-w c = rw (of_pair_then, ← c.in_err-w.ensures) c.from_residual.ensures

pub returns-in_err-amount : goal.returns-in_err-amount
unfolding total_of
returns-in_err-amount c = rw (of_pair_then, ← c.in_ok-w.ensures, ← c.in_err-amount.ensures) c.from_residual-in_err-amount.ensures

pub returns : goal.returns
unfolding total_of
returns c =
    let fits : SFits w64 c.in_ok-amount.amount = search rules in
    rw (of_pair_then, ← c.in_ok-w.ensures, ← c.in_ok-amount.ensures, to_z-of_z fits)
