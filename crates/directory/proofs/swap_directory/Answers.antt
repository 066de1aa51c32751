-- `swap_directory` resolves the marked buckets, if the directory is still the one that was read.
-- Rests on the outcomes of the tests.
use native.Mathlib.Omega.{arith}
use mathlib.Core.Path.{◌≡◌, sym, ◌∙◌, ap}
use lib.ListN.{length}
use Rattle.machine.specs.Choice.{when◌then◌else◌}
use Rattle.layout.proofs.Positions.{long}
use Rattle.directory.proofs.DirectoryLaws.{whole_else, redirected_not, redirected_done}
use borrow.Author.Rules.{rules}
use Rattle.directory.proofs.swap_directory.Goals as goal
use Rattle.directory.proofs.swap_directory.Goals.{else-not-nothing, then-not-nothing}
use Rattle.directory.proofs.swap_directory.Goals.{Joined-not-nothing}

-- after the splits, if there are any, as many words as before
same :
    (c : Joined-not-nothing)
    → length c.if-not-nothing.words ≡ length
    c.args.words.now
same c = (elim c.if-not-nothing.branch [ then-not-nothing w ↦ ap length w.words-is ∙ search rules | else-not-nothing w ↦ ap length w.words-is ])

pub returns-then-worker_word-get : goal.returns-then-worker_word-get
returns-then-worker_word-get c = redirected_not _ _ _ _ _ c.worker_word.ensures c.get.ensures c.if-worker_word-get.true

pub resolve-requires : goal.resolve-requires
resolve-requires c =
    (whole_else _ _ _ c.requires.0 (sym c.nothing.ensures ∙ c.if-not-nothing.true), c.requires.1)

pub put-requires : goal.put-requires
put-requires c =
    let h = same (goal.at.put-requires c).Joined-not-nothing in
    omega (arith, long c.requires.0)

pub shape_of-words : goal.shape_of-words
shape_of-words c = let h = same (goal.at.shape_of-words c).Joined-not-nothing in search rules

pub returns : goal.returns
unfolding when◌then◌else◌
returns c =
    redirected_done _ _ _ _ _ c.worker_word.ensures c.get.ensures c.if-not-nothing.words _ _ c.nothing.result
    c.if-worker_word-get.false c.fresh_directory-x.ensures c.nothing.ensures c.put.ensures
    (elim c.if-not-nothing.branch [ then-not-nothing w ↦ rw (w.words-is, w.resolve.ensures, w.if-not-nothing.true) | else-not-nothing w ↦ rw (w.words-is, w.if-not-nothing.false) ])
