-- `print_row`: two numbers, with no word before them.
-- Rests on the laws that it cites and on the contracts of what is called.
use mathlib.Core.Path.{◌∙◌, ap}
use lib.IntN.{pos}
use mir.Facts.{to_z-of_z}
use Rattle.decimals.specs.declared.Decimal.{Decimal}
use Rattle.decimals.specs.Signs.{sign_of}
use Rattle.printers.specs.Written.{pair_text}
use Rattle.replies.proofs.PairLines.{row_text}
use Rattle.printers.proofs.Written.{retold}
use Rattle.replies.proofs.print_row.Goals as goal

pub returns : goal.returns
returns c =
    let second = c.signed.ensures ∙ ap sign_of (to_z-of_z c.ranges.total) in
    let numbers = ap (λ (d : Decimal). pair_text d c.signed.result) c.unsigned.ensures
    ∙ ap (pair_text (sign_of (pos c.args.account))) second in
    retold (numbers ∙ row_text c.args.account c.args.total) c.print_pair.ensures
