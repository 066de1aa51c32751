-- The theorem on an input that comes in parts: whatever they are, what is printed at its end is what the whole input
-- asks for. Rests on specs/Inputs and specs/Holding.
use Rattle.std.specs.Prelude.{ℕ, ◌^◌, ◌≤◌, ◌<◌, ◌≡◌, List, [], ◌∷◌, ◌++◌, ltb, length}
use Rattle.lists.specs.Parts.{overlay}
use Rattle.machine.specs.Choice.{when◌then◌else◌}
use Rattle.loglines.specs.declared.progress.Feeding.{Feeding}
use Rattle.loglines.specs.Inputs.{input_text, judge_text}
use Rattle.loglines.specs.Holding.{read_so_far, begin, fed, ended}

-- the bytes that any text has room in
abbrev pub text_room : ℕ
text_room = 258

-- the output with a text at its start and past it as it was, and how many bytes the text has
unfoldable pub printed : List ℕ → List ℕ → List ℕ × ℕ
printed out text = (overlay out 0 text, length text)

-- what the end of the input leaves of the output, and how many bytes are printed: none where any text might lack room
unfoldable pub concluded : Feeding → List ℕ → List ℕ × ℕ
concluded f out =
    when ltb (length out) text_room then (out, 0) else printed out (input_text (read_so_far (ended f)))

-- the parts one after the other
unfoldable pub joined : List (List ℕ) → List ℕ
joined [] = []
joined (xs ∷ parts) = xs ++ joined parts

unfoldable pub fed_all : Feeding → List (List ℕ) → Feeding
fed_all f [] = f
fed_all f (xs ∷ parts) = fed_all (fed f xs) parts

-- lines are counted in 64 bits, and so the input is shorter than 2 ^ 64 bytes
abbrev pub AllAnswered : Type 0
AllAnswered =
    (parts : List (List ℕ)) → length (joined parts) < 2 ^ 64 → (out : List ℕ) → text_room ≤ length out
    → concluded (fed_all begin parts) out ≡ printed out (judge_text (joined parts))
