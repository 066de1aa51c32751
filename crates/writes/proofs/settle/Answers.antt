-- `settle` writes three words.
-- Assumes nothing.
use Prim.Native.Nat.{ℕ, ◌+◌}
use mathlib.Core.Path.{◌∙◌, ap}
use mathlib.Core.List.{List}
use lib.ListN.{set}
use Rattle.fields.specs.Fields.{answers_from, posted_from}
use Rattle.writes.proofs.settle.Goals as goal

pub returns : goal.returns
returns c =
    let s = c.args in
    c.put-3.ensures ∙ ap (λ (u : List ℕ). set u (posted_from s.q s.g.capacity s.g.workers + s.j) s.total)
    (c.put-2.ensures
    ∙ ap (λ (u : List ℕ). set u (answers_from s.q s.g.capacity s.g.workers + s.j) s.answer) c.put.ensures)
