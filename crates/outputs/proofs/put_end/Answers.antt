-- `put_end`: what the printer wrote of the last line of a listing is put behind the used bytes.
-- Rests on the laws that it cites and on the contract of what is called.
use native.Mathlib.Omega.{arith}
use Rattle.outputs.proofs.Outputs.{wrote_put, wrote_within}
use Rattle.outputs.proofs.put_end.Goals as goal

pub overflow_add-result : goal.overflow_add-result
overflow_add-result c = omega (arith, wrote_within c.print_end.ensures 18446744073709551615 (omega arith) (omega arith))

pub returns : goal.returns
returns c = wrote_put c.print_end.ensures
