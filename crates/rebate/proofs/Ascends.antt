-- The yearly table ascends: the test of its starts, computed.
use mathlib.Core.Path.{◌≡◌, refl}
use mathlib.Core.Bool.{true}
use Rattle.rebate.specs.Bands.{ascending, yearly}

pub ascends : ascending yearly.bands ≡ true
ascends = refl
