-- `signed`: by the sign.
-- Rests on the laws that it cites and on the contracts of what is called.
use Rattle.decimals.proofs.Signs.{by_sign}
use Rattle.decimals.proofs.signed.Goals as goal

pub returns : goal.returns
returns c = by_sign c.args.x c.ranges.x c.unsigned_abs.ensures.value
