-- The steps of an update that announce, flip and read, on the words, for any words. Rests on the regions of the lent
-- words and on the rules. Worker w's record is at p; a bucket's record is at q.
use Rattle.std.specs.Prelude.{ℕ, ◌+◌, List, set}
use Rattle.fields.specs.Fields.{header_number, slot_size, worker_state, worker_toggle, worker_directory, worker_marks, record_toggle, record_number}
use Rattle.fields.specs.Regions.{slot_at, read_at}
use Rattle.lists.specs.Parts.{part, overlay}
use Rattle.layout.specs.Shape.{word}
use Rattle.rules.specs.Rules.{flip_bit}

-- kind, account, total and ticket stand first in a worker's record, as they do in a slot
unfoldable pub announced_at : List ℕ → ℕ → ℕ → List ℕ
announced_at l p w = overlay l (slot_at w) (part l p slot_size)

unfoldable pub slot_read_at : List ℕ → ℕ → ℕ → List ℕ
slot_read_at l p j = overlay l (read_at p j) (part l (slot_at j) slot_size)

unfoldable pub flipped_at : List ℕ → ℕ → ℕ → List ℕ
flipped_at l q w = set l (q + record_toggle) (flip_bit (word l (q + record_toggle)) w)

unfoldable pub state_read_at : List ℕ → ℕ → ℕ → List ℕ
state_read_at l p q = set l (p + worker_state) (word l (q + record_number))

unfoldable pub toggle_read_at : List ℕ → ℕ → ℕ → List ℕ
toggle_read_at l p q = set l (p + worker_toggle) (word l (q + record_toggle))

-- the directory read for a round of the directory pass
unfoldable pub directory_read_at : List ℕ → ℕ → List ℕ
directory_read_at l p = set (set l (p + worker_directory) (word l header_number)) (p + worker_marks) 0
