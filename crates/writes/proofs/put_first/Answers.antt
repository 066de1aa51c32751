-- `put_first` writes two words.
-- Assumes nothing.
use Prim.Native.Nat.{ℕ, ◌+◌}
use mathlib.Core.Path.{◌∙◌, ap}
use mathlib.Core.List.{List}
use lib.ListN.{set}
use Rattle.fields.specs.Fields.{record_applied}
use Rattle.writes.proofs.put_first.Goals as goal

pub returns : goal.returns
returns c =
    let s = c.args in
    c.put-2.ensures ∙ ap (λ (u : List ℕ). set u (s.q + record_applied) s.applied) c.put.ensures
