-- `words_needed` gives the words of settings in range, as `needed_for` says.
-- Rests on the laws of opening.
use Rattle.std.proofs.lemmas.Result.{err_from_is_err_and}
use Rattle.opening.proofs.FreshWords.{ranged, needed_words, needed_none}
use Rattle.opening.proofs.words_needed.Goals as goal

pub needed-requires : goal.needed-requires
needed-requires c =
    let f = ranged _ _ _ _ _ c.new.ensures c.in_ok-s.was in (f.workers, (f.capacity, f.depth))

pub returns : goal.returns
returns c =
    needed_words _ _ _ _ c.new.ensures _ _ c.in_ok-s.was c.needed.ensures

pub returns-in_err-s : goal.returns-in_err-s
returns-in_err-s c =
    let p = err_from_is_err_and c.from_residual.result c.from_residual.ensures.1 in
    rw (p.1, p.2) (needed_none _ _ _ _ c.new.ensures _ c.in_err-s.was)
