-- `put_worker_word` writes a word of a worker's record.
-- Rests on the address of a worker's words.
use Prim.Native.Nat.{ℕ, ◌+◌}
use native.Mathlib.Omega.{arith}
use mathlib.Core.Path.{◌∙◌, ap}
use lib.ListN.{set}
use Rattle.layout.proofs.Positions.{placed}
use Rattle.layout.proofs.addresses.put_worker_word.Goals as goal

pub overflow_add-worker_at : goal.overflow_add-worker_at
overflow_add-worker_at c = let b = placed c.requires.0 _ c.requires.1.0 in omega arith

pub put-requires : goal.put-requires
put-requires c = let b = placed c.requires.0 _ c.requires.1.0 in omega arith

pub returns : goal.returns
returns c =
    let args = c.args in
    c.put.ensures ∙ ap (λ (p : ℕ). set args.words.now (p + args.k) args.v) c.worker_at.ensures
