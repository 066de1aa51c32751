-- `check_log` refuses by its checks in their order, or searches: a case for each `return`. Rests on Judgement.
use mathlib.Core.Bool.{true}
use mathlib.Core.Path.{◌≡◌, sym, ◌∙◌}
use borrow.Author.Rules.{rules}
use Rattle.std.proofs.lemmas.Result.{err_from_is_err_and}
use Rattle.interface.specs.Limits.{least_workers, in_range}
use Rattle.interface.specs.declared.Verdict.{Verdict}
use Rattle.machine.specs.Choice.{when◌then◌else◌}
use Rattle.logs.specs.Log.{are_log, count_of}
use Rattle.logs.specs.Judging.{check_log_words}
use Rattle.logs.proofs.Judgements.{few}
use Rattle.judging.proofs.Judgement.{settings_in, settings_out, settings_why, wrong_settings, bad_log, too_narrow, short, refused_as, answered}
use Rattle.judging.proofs.check_log.Goals as goal
use Rattle.judging.proofs.check_log.Goals.{After-is_log, After-search, Else-not-is_log}
use Rattle.std.specs.Prelude.{Ok}

pub returns-in_err-new : goal.returns-in_err-new
returns-in_err-new c =
    let p = err_from_is_err_and c.from_residual.result c.from_residual.ensures.1 in
    rw (p.1, p.2, ← settings_why _ _ _ (sym c.new.ensures ∙ c.in_err-new.was))
    (refused_as _ _ _ _ _ (wrong_settings _ _ _ _ (settings_out _ _ _ (sym c.new.ensures ∙ c.in_err-new.was))))

-- past the first check, and past the second
in-range : (c : After-is_log) → in_range least_workers c.args.capacity c.args.depth ≡ true
in-range c = settings_in _ _ _ (sym c.new.ensures ∙ c.in_ok-new.was)

good : (c : Else-not-is_log) → are_log c.args.log.now ≡ true
good c = sym c.is_log.ensures ∙ c.if-not-is_log.false

pub returns-then-not-is_log : goal.returns-then-not-is_log
returns-then-not-is_log c = refused_as _ _ _ _ _ (bad_log _ _ _ _ (in-range (goal.at.returns-then-not-is_log c).After-is_log) (sym c.is_log.ensures ∙ c.if-not-is_log.true))

pub returns-then-order-count : goal.returns-then-order-count
unfolding count_of
returns-then-order-count c = refused_as _ _ _ _ _ (too_narrow _ _ _ _ (in-range (goal.at.returns-then-order-count c).After-is_log) (good (goal.at.returns-then-order-count c).Else-not-is_log) c.if-order-count.true)

pub all_left-requires : goal.all_left-requires
unfolding count_of
all_left-requires c = few _ (good (goal.at.all_left-requires c).Else-not-is_log)

pub search-requires : goal.search-requires
search-requires c =
    (short _ (good (goal.at.search-requires c).Else-not-is_log), (search rules, c.if-order-count.false))

-- what the search found
found : (c : After-search) → (c.search.new.order, when c.search.result then Ok Verdict.Accepted else Ok Verdict.No)
    ≡ check_log_words c.args.log.now c.args.capacity c.args.depth c.args.order.now
unfolding count_of
found c =
    answered _ _ _ _ (in-range (goal.at.After-search c).After-is_log) (good (goal.at.After-search c).Else-not-is_log) c.if-order-count.false _ _ c.all_left.ensures
    c.search.ensures.written _ c.search.ensures.found

pub returns-then-search : goal.returns-then-search
unfolding count_of when◌then◌else◌
returns-then-search c = rw c.if-search.true at (found (goal.at.returns-then-search c).After-search)

pub returns : goal.returns
unfolding count_of when◌then◌else◌
returns c = rw c.if-search.false at (found (goal.at.returns c).After-search)
