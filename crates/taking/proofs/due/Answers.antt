-- `due` tells whether an update belongs to a bucket and is unsettled there.
-- Rests on the outcomes of the three tests.
use mathlib.Core.Path.{◌≡◌, ◌∙◌}
use Rattle.fields.specs.Regions.{worker_at}
use Rattle.taking.proofs.TakingLaws.{belongs, belongs_none, belongs_here, due_apart, due_here}
use Rattle.taking.proofs.due.Goals as goal
use Rattle.taking.proofs.due.Goals.{Joined-slot_word-ne-KIND_NONE, then-slot_word-ne-KIND_NONE, else-slot_word-ne-KIND_NONE}

-- the first two tests
here :
    (c : Joined-slot_word-ne-KIND_NONE)
    → let args = c.args in
    c.if-slot_word-ne-KIND_NONE.value ≡ belongs args.words.now (worker_at args.g.workers args.w) args.q args.i
here c =
    let args = c.args in
    elim c.if-slot_word-ne-KIND_NONE.branch [
      | then-slot_word-ne-KIND_NONE w ↦
          w.value-is
          ∙ belongs_here _ (worker_at args.g.workers args.w) args.q args.i _ c.slot_word.ensures w.if-slot_word-ne-KIND_NONE.true _ _ _ _
          w.get.ensures w.slot_word-then-slot_word-ne-KIND_NONE.ensures w.first_bits.ensures w.get-then-slot_word-ne-KIND_NONE.ensures
      | else-slot_word-ne-KIND_NONE w ↦
          w.value-is ∙ belongs_none _ (worker_at args.g.workers args.w) args.q args.i _ c.slot_word.ensures w.if-slot_word-ne-KIND_NONE.false
    ]

pub returns-then-first_bits-get : goal.returns-then-first_bits-get
returns-then-first_bits-get c =
    let args = c.args in
    due_here _ args.g (worker_at args.g.workers args.w) args.q args.i _ (here (goal.at.returns-then-first_bits-get c).Joined-slot_word-ne-KIND_NONE)
    c.if-first_bits-get.true _ _ c.settled_ticket.ensures c.slot_word-then-first_bits-get.ensures

pub returns-else-first_bits-get : goal.returns-else-first_bits-get
returns-else-first_bits-get c =
    let args = c.args in
    due_apart _ args.g (worker_at args.g.workers args.w) args.q args.i _ (here (goal.at.returns-else-first_bits-get c).Joined-slot_word-ne-KIND_NONE)
    c.if-first_bits-get.false
