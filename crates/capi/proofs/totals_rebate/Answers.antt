-- `totals_rebate` gives what `table::rebate` gives.
use mathlib.Core.Path.{◌∙◌, ap}
use mir.Facts.{to_z-of_z}
use Rattle.rebate.specs.Rebate.{rebate_on}
use Rattle.capi.proofs.totals_rebate.Goals as goal

pub returns : goal.returns
returns c = c.rebate.ensures ∙ ap rebate_on (to_z-of_z c.ranges.total)
