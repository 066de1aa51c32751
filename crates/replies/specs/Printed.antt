-- What `totals` prints for a reply. 01, The driver: "Each line is met with `ok`, `refused` and its number, `moved` and
-- the steps given, or `answered`, .." Rests on the decimals, interface's words and the script's replies.
use Rattle.std.specs.Prelude.{ℕ, List, [], ◌∷◌, ◌++◌, ℤ, length, Option, Some, None}
use Rattle.interface.specs.Numbers.{bytes, answer_word, answer_total}
use Rattle.interface.specs.declared.Answer.{Answer}
use Rattle.machine.specs.Sequential.{Table}
use Rattle.machine.specs.Script as Script
use Rattle.decimals.specs.Ascii.{line_feed, space}
use Rattle.decimals.specs.Decimals.{decimal, signed_decimal}
use Rattle.replies.specs.declared.Reply.{Reply}
use Rattle.replies.specs.declared.Reply.TheVariants.{Ok, Refused, Moved, Answered, Unread}

-- fields one space apart, and a line feed
unfoldable pub printed_line : List (List ℕ) → List ℕ
printed_line [] = line_feed ∷ []
printed_line (f ∷ []) = f ++ line_feed ∷ []
printed_line (f ∷ g ∷ fs) = f ++ space ∷ printed_line (g ∷ fs)

-- "its total if found"; 02, No. 1: "posted prints its total; overrun is printed as an answer without one"
unfoldable pub total_then : Option ℤ → List (List ℕ) → List (List ℕ)
total_then None fs = fs
total_then (Some t) fs = signed_decimal t ∷ fs

-- "`T` prints account and total"
unfoldable pub printed_row : ℕ → ℤ → List ℕ
printed_row a t = printed_line (decimal a ∷ signed_decimal t ∷ [])

-- "then `end` and the count"
unfoldable pub printed_end : ℕ → List ℕ
printed_end n = printed_line (bytes "end" ∷ decimal n ∷ [])

unfoldable pub printed_rows : Table → List ℕ
printed_rows [] = []
printed_rows (e ∷ t) = printed_row e.0 e.1 ++ printed_rows t

-- "`answered`, the answer, its total if found, and the steps the operation took in all"
unfoldable pub printed_answer : Answer → ℕ → List ℕ
printed_answer a k = printed_line (bytes "answered" ∷ answer_word a ∷ total_then (answer_total a) (decimal k ∷ []))

unfoldable pub printed : Script.Reply → List ℕ
printed Script.ok = printed_line (bytes "ok" ∷ [])
printed (Script.refused k) = printed_line (bytes "refused" ∷ decimal k ∷ [])
printed (Script.moved k) = printed_line (bytes "moved" ∷ decimal k ∷ [])
printed (Script.answered a k) = printed_answer a k
printed (Script.listed t) = printed_rows t ++ printed_end (length t)

unfoldable pub printed_unread : List ℕ
printed_unread = printed_line (bytes "unread" ∷ [])

-- the same for the replies of the source, which leave a listing to its rows and its end
unfoldable pub printed_reply : Reply → List ℕ
printed_reply Ok = printed Script.ok
printed_reply (Refused k) = printed (Script.refused k)
printed_reply (Moved k) = printed (Script.moved k)
printed_reply (Answered c) = printed (Script.answered c.answer c.steps)
printed_reply Unread = printed_unread
