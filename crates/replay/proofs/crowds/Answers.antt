-- `crowds` tests what `crowds_at` tests. Rests on nothing but the contracts of what it calls.
use Prim.Native.Nat.{ℕ}
use mathlib.Core.Path.{ap, ◌∙◌}
use lib.Dec.{leb}
use Rattle.machine.specs.Sequential.{first_bits}
use Rattle.logs.specs.Log.{count_of}
use Rattle.replay.specs.Balances.{account_logged, agreeing, crowds_at}
use Rattle.replay.proofs.crowds.Goals as goal

pub returns : goal.returns
unfolding crowds_at account_logged
returns c =
    let s = c.args in
    ap (leb s.capacity)
    (c.agreeing.ensures
    ∙ ap (λ (q : ℕ). agreeing s.log.now s.depth q s.balances (count_of s.log.now))
    (c.first_bits-bits.ensures ∙ ap (first_bits s.depth) c.word_at.ensures))
