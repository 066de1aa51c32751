-- `size` is the count, cut off at the size of an array, as `size_of` says.
-- Rests on the two laws of the count.
use native.Mathlib.Decide.{dec_le}
use native.Mathlib.Omega.{arith}
use mathlib.Core.Path.{◌≡◌, sym, ◌∙◌}
use Rattle.bucket.specs.State.{array_size}
use Rattle.bucket.proofs.Laws.{size_is, size_large}
use Rattle.bucket.proofs.BucketState.size.Goals as goal

pub returns : goal.returns
returns c =
    let count = c.args.self.count in
    elim (dec_le count array_size) [
      | yes h ↦ let e : c.min.result ≡ count = omega arith in e ∙ sym (size_is _ h)
      | no h ↦ let e : c.min.result ≡ array_size = omega arith in e ∙ sym (size_large _ (omega arith))
    ]
