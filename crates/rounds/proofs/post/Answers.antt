-- `post` adds to the total at the position that was found, and settles what `post_of` says by the sum.
-- Rests on the laws of a post.
use Prim.Native.Nat.{ℕ}
use mathlib.Core.Path.{sym, ◌∙◌, ap}
use Rattle.sums.specs.Sums.{sum_of}
use Rattle.rounds.proofs.Laws.{post_within, post_outside}
use Rattle.rounds.proofs.post.Goals as goal

pub returns-in-Some : goal.returns-in-Some
returns-in-Some c =
    let s = c.args in
    c.settle.ensures
    ∙ post_within s.state s.j s.p s.u _ _
    (sym (c.sum_of.ensures ∙ ap (λ (k : ℕ). sum_of k s.u.total) c.total.ensures) ∙ c.in-Some.is)
    c.put.ensures

pub returns-in-None : goal.returns-in-None
returns-in-None c =
    let s = c.args in
    c.settle-in-None.ensures
    ∙ post_outside s.state s.j s.p s.u
    (sym (c.sum_of.ensures ∙ ap (λ (k : ℕ). sum_of k s.u.total) c.total.ensures) ∙ c.in-None.is)
