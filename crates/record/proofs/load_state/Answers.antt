-- `load_state` loads two arrays at a time, then three.
use mathlib.Core.Path.{◌≡◌, refl}
use native.Mathlib.Omega.{arith}
use Rattle.record.specs.Loads.{copied}
use Rattle.record.proofs.States.{account_loaded, worker_loaded, state_loaded}
use Rattle.memory.proofs.Lesser.{count_bound}
use Rattle.record.proofs.load_state.Goals as goal

pub loop-i-init : goal.loop-i-init
unfolding copied
loop-i-init c = (count_bound _ _ _ c.least-c.ensures, refl)

pub loop-i-preserved : goal.loop-i-preserved
loop-i-preserved c =
    let known = c.loop-i.invariant in
    (known.0, account_loaded _ _ _ _ _ _ _ _ _ _ _ known.1)

pub loop-j-preserved : goal.loop-j-preserved
loop-j-preserved c = worker_loaded _ _ _ _ _ _ _ _ _ _ _ c.loop-j.invariant

pub returns : goal.returns
returns c =
    let all : c.loop-j.j ≡ c.args.n = omega arith in
    state_loaded _ _ _ _ _ _ c.least-c.ensures (rw all at c.loop-j.invariant)
