-- `open` checks the settings and the length, and lays a fresh table, as `open_words` says: a case for each `return`.
-- Rests on the laws of opening.
use native.Mathlib.Omega.{arith}
use Rattle.std.proofs.lemmas.Result.{err_from_is_err_and}
use Rattle.opening.proofs.FreshWords.{ranged, opened_none, opened_short, opened_fresh}
use Rattle.opening.proofs.open.Goals as goal

pub needed-requires : goal.needed-requires
needed-requires c =
    let f = ranged _ _ _ _ _ c.new.ensures c.in_ok-s.was in (f.workers, (f.capacity, f.depth))

pub returns-then-words-needed : goal.returns-then-words-needed
returns-then-words-needed c =
    opened_short _ _ _ _ c.new.ensures _ _ _ c.in_ok-s.was c.needed.ensures c.if-words-needed.true

pub fresh-requires : goal.fresh-requires
fresh-requires c =
    let f = ranged _ _ _ _ _ c.new.ensures c.in_ok-s.was in
    (f.least, (f.workers, (f.least-capacity, (f.capacity, (f.depth, omega (arith, c.needed.ensures))))))

pub returns : goal.returns
returns c =
    opened_fresh _ _ _ _ c.new.ensures _ _ _ c.in_ok-s.was c.needed.ensures _ c.if-words-needed.false
    c.fresh.ensures

pub returns-in_err-s : goal.returns-in_err-s
returns-in_err-s c =
    let p = err_from_is_err_and c.from_residual.result c.from_residual.ensures.1 in
    rw (p.1, p.2) (opened_none _ _ _ _ c.new.ensures _ _ c.in_err-s.was)
