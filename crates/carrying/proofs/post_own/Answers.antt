-- `post_own` sets the account's total to its sum where that is a total, and else changes no account; it settles the ticket.
-- Rests on the laws of a post.
use Prim.Native.Nat.{ℕ}
use mathlib.Core.Path.{◌≡◌, refl, sym, ◌∙◌, ap}
use Rattle.sums.specs.Sums.{sum_of}
use Rattle.bucket.specs.State.{total_in}
use Rattle.record.specs.Bucket.{bucket_at}
use Rattle.rounds.proofs.Laws.{change_posted, change_overrun}
use Rattle.inplace.specs.InPlace.{record_as, put_at, changed_at}
use Rattle.carrying.proofs.post_own.Goals as goal
use Rattle.carrying.proofs.post_own.Goals.{After-sum_of}

pub total_own-requires : goal.total_own-requires
total_own-requires c = let known = c.requires.0 in (known.0, known.1.1)

pub put_own-requires : goal.put_own-requires
put_own-requires c = let known = c.requires in (known.0, known.1.0)

pub settle_own-requires : goal.settle_own-requires
settle_own-requires c = let known = c.requires.0 in (known.0, known.1.0)

-- the sum that was made is that of the total found and the amount
sum_is :
    (c : After-sum_of) → let s = c.args in
    sum_of (total_in (bucket_at s.words.now s.g s.q) s.p) s.u.total ≡ c.sum_of.result
sum_is c =
    let amount = c.args.u.total in
    ap (λ (v : ℕ). sum_of v amount) (sym c.total_own.ensures) ∙ sym c.sum_of.ensures

pub returns-in-Some : goal.returns-in-Some
unfolding put_at changed_at
returns-in-Some c =
    let s = c.args in
    c.put_own.ensures
    ∙ ap (record_as s.words.now s.g s.q s.toggle)
    (change_posted _ s.j s.p s.u c.requires.1.1 _ _ (sum_is (goal.at.returns-in-Some c).After-sum_of ∙ c.in-Some.is) refl)

pub returns-in-None : goal.returns-in-None
unfolding changed_at
returns-in-None c =
    let s = c.args in
    c.settle_own.ensures
    ∙ ap (record_as s.words.now s.g s.q s.toggle)
    (change_overrun _ s.j s.p s.u c.requires.1.1 (sum_is (goal.at.returns-in-None c).After-sum_of ∙ c.in-None.is))
