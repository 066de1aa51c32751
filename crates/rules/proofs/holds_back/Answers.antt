-- `holds_back` is `splittable`, as `holds_back_by` says.
-- Rests on nothing but that contract.
use Rattle.rules.specs.Rules.{holds_back_by}
use Rattle.rules.proofs.holds_back.Goals as goal

pub returns : goal.returns
unfolding holds_back_by
returns c = c.splittable.ensures
