-- `store_state` stores two arrays at a time, then three.
use mathlib.Core.Path.{◌≡◌, sym, ◌∙◌, ap}
use native.Mathlib.Omega.{arith}
use lib.ListN.{length, length-set}
use Rattle.storing.specs.Stores.{stored_state}
use Rattle.memory.proofs.Runs.{stored_none}
use Rattle.bucket.proofs.Sizes.{Sized}
use Rattle.storing.proofs.States.{pair_stored, triple_stored, state_stored}
use Rattle.memory.proofs.Lesser.{count_bound}
use Rattle.storing.proofs.Trips.{length_state}
use borrow.Author.Rules.{rules}
use Rattle.storing.proofs.store_state.Goals as goal
use Rattle.storing.proofs.store_state.Goals.{After-loop-j, Start}

-- the arrays of the state passed have their items
sized : (c : Start) → Sized c.args.s
sized c =
    record {
      accounts = search rules;
      totals = search rules;
      settled = search rules;
      answers = search rules;
      posted = search rules;
    }

pub loop-i-init : goal.loop-i-init
loop-i-init c = (count_bound _ _ _ c.least-c.ensures, simp length-set (omega arith), sym (stored_none _ _ _ ∙ stored_none _ _ _))

pub loop-i-preserved : goal.loop-i-preserved
loop-i-preserved c =
    let known = c.loop-i.invariant in
    let long = sized (goal.at.loop-i-preserved c).Start in (
      known.0,
      simp length-set known.1,
      pair_stored _ _ _ _ _ _ _ known.2 (omega arith) (simp length-set (omega arith)) (rw long.accounts (omega arith)) (rw long.totals (omega arith)),
    )

pub loop-j-init : goal.loop-j-init
loop-j-init c = (c.loop-i.invariant.1, sym (stored_none _ _ _ ∙ stored_none _ _ _ ∙ stored_none _ _ _))

pub loop-j-preserved : goal.loop-j-preserved
loop-j-preserved c =
    let known = c.loop-j.invariant in
    let long = sized (goal.at.loop-j-preserved c).Start in (
      simp length-set known.0,
      triple_stored _ _ _ _ _ _ _ _ _ known.1 (omega arith) (omega arith) (omega arith) (rw long.settled (omega arith))
          (rw long.answers (omega arith)) (rw long.posted (omega arith)),
    )

whole :
    (c : After-loop-j) → let s = c.args in
    c.loop-j.words ≡ stored_state s.words.now s.q s.b s.n s.s
whole c =
    let few : c.loop-i.i ≡ c.least-c.result = omega arith in
    let all : c.loop-j.j ≡ c.args.n = omega arith in
    state_stored _ _ _ _ _ _ _ _ c.least-c.ensures (rw few at c.loop-i.invariant.2) (rw all at c.loop-j.invariant.1)

pub shape_of-words : goal.shape_of-words
shape_of-words c =
    ap length (whole c) ∙ length_state _ _ _ _ _ c.requires.0 c.requires.1.0 c.requires.1.1 (sized (goal.at.shape_of-words c).Start)

pub returns : goal.returns
returns c = whole c
