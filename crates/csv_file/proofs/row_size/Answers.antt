-- `row_size`: the digits of the account and of the units, and the bytes between and behind them.
-- Rests on the laws that it cites and on the contracts of what is called.
use mathlib.Core.Path.{◌∙◌, ap}
use native.Mathlib.Omega.{arith}
use lib.ListN.{length}
use mir.Facts.{to_z-of_z}
use Rattle.decimals.specs.declared.Decimal.{Decimal}
use Rattle.decimals.specs.Signs.{sign_of, decimal_text}
use Rattle.csv_file.proofs.Sizes.{row_short}
use Rattle.csv_file.proofs.UnitLaws.{text_length, row-size}
use Rattle.csv_file.proofs.row_size.Goals as goal

pub returns : goal.returns
returns c =
    let cents = c.signed.ensures ∙ ap sign_of (to_z-of_z c.ranges.total) in
    let units = ap (λ (d : Decimal). length (decimal_text d)) c.units.ensures in
    let second = text_length c.signed.result in
    let row = row-size c.args.account c.args.total c.signed.result cents in
    let short = row_short c.args.account c.args.total c.ranges.account.fits c.ranges.total.sfits in
    let first = c.digit_count-first.ensures.0 in
    let third = c.width-second.ensures.0 in
    (omega arith, omega arith)
