-- What a line of a log means, in the format of `judge` that docs/USING.md has: `b M`, or an operation's eight fields,
-- one space apart. Rests on specs/Fields and on crate lines' fields.
use Rattle.std.specs.Prelude.{ℕ, suc, ◌+◌, List, [], ◌∷◌, ◌++◌, eqb, length, Option, Some, None}
use Rattle.std.specs.Option.{option_zip}
use Rattle.machine.specs.Choice.{when◌then◌else◌}
use Rattle.commands.specs.Commands.{small_of}
use Rattle.lines.specs.Grammar.{fields_of}
use Rattle.logs.specs.Log.{operation_words}
use Rattle.loglines.specs.Fields.{field_word}

-- ---- settings

unfoldable pub settings_of : List (List ℕ) → Option (ℕ × ℕ)
settings_of [] = None
settings_of (x ∷ []) = None
settings_of (x ∷ y ∷ []) = option_zip (small_of x) (small_of y)
settings_of (x ∷ y ∷ z ∷ fs) = None

-- `b M`
unfoldable pub settings_line : List ℕ → Option (ℕ × ℕ)
settings_line line = settings_of (fields_of line)

-- ---- operations

-- a word and others behind it, where all are read
unfoldable pub word_then : Option ℕ → Option (List ℕ) → Option (List ℕ)
word_then None ws = None
word_then (Some w) None = None
word_then (Some w) (Some ws) = Some (w ∷ ws)

-- the words of fields, of which the first is that at k
unfoldable pub each_word : ℕ → List (List ℕ) → Option (List ℕ)
each_word k [] = Some []
each_word k (f ∷ fs) = word_then (field_word k f) (each_word (suc k) fs)

unfoldable pub operation_in : List (List ℕ) → Option (List ℕ)
operation_in fs = when eqb (length fs) operation_words then each_word 0 fs else None

-- `worker kind account total answer answer-total call end`: the eight words
unfoldable pub operation_line : List ℕ → Option (List ℕ)
operation_line line = operation_in (fields_of line)

-- ---- the same as the source reads it

-- words behind others, where they are read
unfoldable pub behind : List ℕ → Option (List ℕ) → Option (List ℕ)
behind ws None = None
behind ws (Some xs) = Some (ws ++ xs)

-- an operation of the words of k fields and of the fields that are left
unfoldable pub operation_from : List ℕ → ℕ → List (List ℕ) → Option (List ℕ)
operation_from ws k fs = when eqb (k + length fs) operation_words then behind ws (each_word k fs) else None
