-- `memory::least` is the definition `least`, by the library's lesser of two.
-- Rests on its laws.
use native.Mathlib.Decide.{dec_lt}
use native.Mathlib.Omega.{arith}
use mathlib.Core.Path.{◌≡◌, sym, ◌∙◌}
use Rattle.memory.proofs.Lesser.{least_same, least_large}
use Rattle.memory.proofs.least.Goals as goal

pub returns : goal.returns
returns c = elim (dec_lt c.args.count c.args.capacity) [
  | yes h ↦ let e : c.min.result ≡ c.args.count = omega arith in e ∙ sym (least_same _ _ (omega arith))
  | no h ↦ let e : c.min.result ≡ c.args.capacity = omega arith in e ∙ least_large _ _ (omega arith)
]
