-- `first-entry` gives the first entry of a bucket, and no product leaves the word.
-- Rests on the laws of entries.
use Prim.Native.Nat.{ℕ, ◌-◌, ◌*◌, ◌%◌, ◌^◌}
use native.Mathlib.Omega.{arith}
use mathlib.Core.Path.{◌≡◌, ◌∙◌, ap}
use Rattle.rules.proofs.Bits.{shift_one}
use Rattle.spares.proofs.PoolLaws.{entry_is}
use Rattle.spares.proofs.first_entry.Goals as goal

pub returns : goal.returns
returns c =
    let w = c.saturating_sub-width.result in
    let less : w ≡ c.args.g.depth - c.args.d = c.saturating_sub-width.ensures in
    let width : 1 * 2 ^ w % 2 ^ 64 ≡ 2 ^ (c.args.g.depth - c.args.d) =
    shift_one w (omega arith) ∙ ap (λ (k : ℕ). 2 ^ k) less in
    entry_is c.args.g c.args.d c.args.q _ _ (shift_one _ (omega arith)) width
