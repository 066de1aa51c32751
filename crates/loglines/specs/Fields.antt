-- What a field of an operation's line says, in the format of `judge` that docs/USING.md has: worker, kind, account,
-- total, answer, answer-total, call, end; numbers as in `totals`, the answer by its word. Rests on crate commands, and
-- on document 01's words.
use Rattle.std.specs.Prelude.{ℕ, ◌+◌, List, [], ◌∷◌, eqb, ℤ, pos, Option, Some, None}
use Rattle.std.specs.Int.{w64}
use Rattle.std.proofs.Common.{of_z}
use Rattle.interface.specs.Numbers.{answer_word, answer_number}
use Rattle.interface.specs.declared.Answer.{Answer}
use Rattle.interface.specs.declared.Answer.TheVariants.{Added, Replaced, Removed, Absent, Found, Posted, Crowded, Overrun}
use Rattle.machine.specs.Choice.{when◌then◌else◌}
use Rattle.numerals.specs.Numerals.{numeral, up_to}
use Rattle.commands.specs.Commands.{account_of, total_of}
use Rattle.report.specs.Report.{answer_base}
use Rattle.logs.specs.Same.{same_numbers}
use Rattle.logs.specs.Log.{logged_account, logged_total, logged_answer, logged_answer_total, greatest_word}

-- worker, kind, call or end: of 64 bits
unfoldable pub number64 : List ℕ → Option ℕ
number64 f = up_to greatest_word (numeral f)

-- a total as a word of two's complement
unfoldable pub as_word : Option ℤ → Option ℕ
as_word None = None
as_word (Some t) = Some (of_z w64 t)

-- ---- answers

-- the number of the first of the answers whose word the field is
unfoldable pub number_among : List ℕ → List Answer → Option ℕ
number_among f [] = None
number_among f (a ∷ answers) =
    when same_numbers f (answer_word a) then Some (answer_base + answer_number a) else number_among f answers

-- each answer once; neither word nor number depends on a total
unfoldable pub all_answers : List Answer
all_answers =
    Added ∷ Replaced ∷ Removed ∷ Absent ∷ Found (pos 0) ∷ Answer.None ∷ Posted (pos 0) ∷ Crowded ∷ Overrun ∷ []

-- an answer by its word
unfoldable pub answer_named : List ℕ → Option ℕ
answer_named f = number_among f all_answers

-- ---- the eight fields

-- the word of the field at k, counted from 0
unfoldable pub field_word : ℕ → List ℕ → Option ℕ
field_word k f =
    when eqb k logged_account then account_of f
    else when eqb k logged_total then as_word (total_of f)
    else when eqb k logged_answer then answer_named f
    else when eqb k logged_answer_total then as_word (total_of f)
    else number64 f
