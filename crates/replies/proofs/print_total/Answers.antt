-- `print_total`: two numbers behind a word.
-- Rests on the laws that it cites and on the contracts of what is called.
use Prim.Native.Nat.{ℕ}
use mathlib.Core.Path.{◌∙◌, ap}
use mathlib.Core.List.{List, ◌++◌}
use mir.Facts.{to_z-of_z}
use Rattle.decimals.specs.declared.Decimal.{Decimal}
use Rattle.decimals.specs.Signs.{sign_of}
use Rattle.printers.specs.Written.{pair_text}
use Rattle.replies.proofs.PairLines.{total_text}
use Rattle.printers.proofs.Written.{retold}
use Rattle.replies.proofs.print_total.Goals as goal

pub returns : goal.returns
returns c =
    let first = c.signed.ensures ∙ ap sign_of (to_z-of_z c.ranges.total) in
    let numbers = ap (λ (d : Decimal). pair_text d c.unsigned.result) first
    ∙ ap (pair_text (sign_of c.args.total)) c.unsigned.ensures in
    let text = numbers ∙ total_text c.args.total c.args.steps in
    retold (ap (λ (l : List ℕ). c.args.word.now ++ l) text) c.print_pair.ensures
