-- `needed` counts the words that settings need.
-- Rests on the bounds of the pool and of a record's address.
use Prim.Native.Nat.{ℕ, ◌+◌, ◌≤◌}
use native.Mathlib.Omega.{arith}
use mathlib.Core.Path.{◌∙◌, ap}
use Rattle.fields.specs.Fields.{spare_words}
use Rattle.fields.specs.Regions.{record_start, pool_size, words_needed}
use Rattle.spares.proofs.PoolLaws.{record_start_bound}
use Rattle.spares.proofs.needed.Goals as goal

pub record_start-requires : goal.record_start-requires
record_start-requires c =
    let known = c.requires in
    (known.0, (known.1.0, (known.1.1, omega (arith, c.pool.ensures))))

pub overflow_add-result : goal.overflow_add-result
overflow_add-result c =
    let all : c.pool.result ≤ pool_size c.args.g = omega (arith, c.pool.ensures) in
    let bound = record_start_bound c.args.g _ c.requires.0 c.requires.1.0 c.requires.1.1 all in
    omega (arith, c.record_start.ensures, bound)

pub returns : goal.returns
unfolding words_needed
returns c =
    let g = c.args.g in
    ap (λ (x : ℕ). x + spare_words) (c.record_start.ensures ∙ ap (record_start g) c.pool.ensures)
