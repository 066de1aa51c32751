-- `record-of` gives the record that the directory names for an account.
-- Rests on the bounds of the directory's start and of a place.
use Prim.Native.Nat.{ℕ, ◌+◌}
use native.Mathlib.Omega.{arith}
use mathlib.Core.Path.{◌∙◌, ap}
use lib.ListN.{get_or}
use Rattle.fields.specs.Regions.{directory_start}
use Rattle.layout.specs.Addresses.{record_in, record_of}
use Rattle.layout.proofs.Positions.{start_bound, bits_small}
use Rattle.layout.proofs.addresses.record_of.Goals as goal

pub overflow_add-e : goal.overflow_add-e
overflow_add-e c =
    omega (arith, start_bound c.args.g.workers c.requires.workers, bits_small c.args.account c.args.g.depth c.requires.depth)

pub returns : goal.returns
unfolding record_of
returns c =
    let s = c.args in
    let l = s.words.now in
    c.record_in.ensures
    ∙ ap (record_in l) (c.get_or.ensures
    ∙ ap (λ (p : ℕ). get_or l (p + c.first_bits.result) 0) c.directory_start.ensures
    ∙ ap (λ (p : ℕ). get_or l (directory_start s.g.workers + p) 0) c.first_bits.ensures)
