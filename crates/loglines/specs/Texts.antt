-- What `judge` prints for a log, as docs/USING.md has it: one line, `order` and the places, `no`, `refused` and the
-- number, or `unread` and the number. Rests on crate replies' lines.
use Rattle.std.specs.Prelude.{ℕ, List, [], ◌∷◌, map, Result, Ok, Err}
use Rattle.interface.specs.Numbers.{bytes, number_of}
use Rattle.interface.specs.declared.Verdict.{Verdict}
use Rattle.decimals.specs.Ascii.{space}
use Rattle.decimals.specs.Decimals.{decimal}
use Rattle.replies.specs.Printed.{printed_line}
use Rattle.interface.specs.declared.Refusal.{Refusal}

-- `order` and the places, counted from 0, one space apart
unfoldable pub order_text : List ℕ → List ℕ
order_text places = printed_line (bytes "order" ∷ map decimal places)

-- a place as it stands in that line
unfoldable pub place_text : ℕ → List ℕ
place_text place = space ∷ decimal place

-- of a line, counted from 1
unfoldable pub unread_text : ℕ → List ℕ
unread_text line = printed_line (bytes "unread" ∷ decimal line ∷ [])

unfoldable pub verdict_text : Result Verdict Refusal → List ℕ → List ℕ
verdict_text (Ok Verdict.Accepted) places = order_text places
verdict_text (Ok Verdict.No) places = printed_line (bytes "no" ∷ [])
verdict_text (Err r) places = printed_line (bytes "refused" ∷ decimal (number_of r) ∷ [])
