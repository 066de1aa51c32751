-- `put_row`: what the printer wrote of a row is emitted behind the used bytes.
-- Rests on the laws that it cites and on the contract of what is called.
use mathlib.Core.Path.{◌∙◌, ap}
use native.Mathlib.Omega.{arith}
use lib.IntN.{ℤ}
use mir.Facts.{to_z-of_z}
use Rattle.replies.specs.Printed.{printed_row}
use Rattle.outputs.specs.Outputs.{emitted}
use Rattle.outputs.proofs.Outputs.{wrote_put, wrote_within}
use Rattle.outputs.proofs.put_row.Goals as goal

pub overflow_add-result : goal.overflow_add-result
overflow_add-result c = omega (arith, wrote_within c.print_row.ensures 18446744073709551615 (omega arith) (omega arith))

pub returns : goal.returns
returns c =
    wrote_put c.print_row.ensures ∙ ap (λ (z : ℤ). emitted (record { bytes = c.args.out.now; used = c.args.used })
    (printed_row c.args.account z)) (to_z-of_z c.ranges.total)
