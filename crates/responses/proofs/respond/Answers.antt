-- `respond`: by the command, each call's answer turned into its reply.
-- Rests on the law of such a reply and on the contracts of what is called.
use mathlib.Core.Path.{◌∙◌, ap}
use mir.Facts.{to_z-of_z}
use Rattle.interface.specs.Numbers.{kind_insert, kind_post}
use Rattle.calls.specs.Calls.{call_words}
use Rattle.responses.specs.Responses.{responded, of_done, of_ran}
use Rattle.responses.proofs.Responding.{replied}
use mir.Syntax.{w64}
use mir.Val.{SFits}
use borrow.Author.Rules.{rules}
use Rattle.responses.proofs.respond.Goals as goal

pub returns-in-Open : goal.returns-in-Open
unfolding responded
returns-in-Open c = rw (c.in-Some.is, c.in-Open.is)
    (replied of_done _ _ _ _ c.«open».ensures c.of_done.ensures)

pub returns-in-Insert : goal.returns-in-Insert
unfolding responded
returns-in-Insert c =
    let fits : SFits w64 c.in-Insert.total = search rules in
    let kept = to_z-of_z fits in
    rw (c.in-Some.is, c.in-Insert.is) (replied of_done _ _ _ _ (c.call.ensures ∙ ap (call_words _ _ kind_insert _) kept)
    c.of_done-in-Insert.ensures)

pub returns-in-Delete : goal.returns-in-Delete
unfolding responded
returns-in-Delete c =
    rw (c.in-Some.is, c.in-Delete.is)
    (replied of_done _ _ _ _ c.call-in-Delete.ensures c.of_done-in-Delete.ensures)

pub returns-in-Lookup : goal.returns-in-Lookup
unfolding responded
returns-in-Lookup c =
    rw (c.in-Some.is, c.in-Lookup.is)
    (replied of_done _ _ _ _ c.call-in-Lookup.ensures c.of_done-in-Lookup.ensures)

pub returns-in-Post : goal.returns-in-Post
unfolding responded
returns-in-Post c =
    let fits : SFits w64 c.in-Post.amount = search rules in
    let kept = to_z-of_z fits in
    rw (c.in-Some.is, c.in-Post.is) (replied of_done _ _ _ _ (c.call-in-Post.ensures ∙ ap (call_words _ _ kind_post _) kept)
    c.of_done-in-Post.ensures)

pub returns-in-Steps : goal.returns-in-Steps
unfolding responded
returns-in-Steps c =
    rw (c.in-Some.is, c.in-Steps.is)
    (replied of_ran _ _ _ _ c.run.ensures c.of_ran.ensures)

pub returns-in-List : goal.returns-in-List
unfolding responded
returns-in-List c = rw (c.in-Some.is, c.in-List.is)

pub returns-in_default : goal.returns-in_default
unfolding responded
returns-in_default c = rw c.in_default.is
