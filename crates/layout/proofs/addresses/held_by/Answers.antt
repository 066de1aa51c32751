-- `held_by` gives the record that a worker holds.
-- Rests on nothing but the definition.
use mathlib.Core.Path.{◌∙◌, ap}
use Rattle.layout.specs.Addresses.{record_in, held_by}
use Rattle.layout.proofs.addresses.held_by.Goals as goal

pub returns : goal.returns
unfolding held_by
returns c = c.record_in.ensures ∙ ap (record_in c.args.words.now) c.worker_word.ensures
