-- `sum_of` gives the word of a sum that is a total, and nothing for any other.
-- Rests on what a checked sum is.
use mathlib.Core.Path.{sym, ◌∙◌}
use mir.Facts.{to_z-of_z, sfits_to_z}
use Rattle.std.specs.Prelude.{◌≡◌, ℤ, Option, Some, None}
use Rattle.machine.specs.Choice.{when◌then◌else◌}
use Rattle.machine.specs.Sequential.{is_total}
use Rattle.sums.specs.Sums.{added, sum_of}
use Rattle.sums.proofs.Ranges.{checked, no_word, word}
use Rattle.sums.proofs.sum_of.Goals as goal
use Rattle.sums.proofs.sum_of.Goals.{After-checked_add}

-- the checked sum of what the words keep
checked_sum : (c : After-checked_add) → let z = added c.args.total c.args.amount in c.checked_add.result ≡ when is_total z then Some z else None
unfolding added
checked_sum c =
    checked _ _
    (rw (c.total_of.ensures, c.total_of-2.ensures, to_z-of_z (sfits_to_z c.ranges.total), to_z-of_z (sfits_to_z c.ranges.amount))
    at c.checked_add.ensures)

pub returns-in_err-sum : goal.returns-in_err-sum
unfolding sum_of added
returns-in_err-sum c =
    let e = checked_sum (goal.at.returns-in_err-sum c).After-checked_add in
    c.from_residual.ensures ∙ sym (no_word _ _ (sym e ∙ c.in_err-sum.was))

pub returns : goal.returns
unfolding sum_of added
returns c =
    let e = checked_sum (goal.at.returns c).After-checked_add in
    rw c.word_of.ensures (sym (word _ _ (sym e ∙ c.in_ok-sum.was)))
