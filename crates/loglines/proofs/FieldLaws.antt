-- The answers' words, one after the other. Rests on the definitions of specs/Fields.
use Prim.Native.Nat.{ℕ, ◌+◌}
use mathlib.Core.Path.{◌≡◌, ◌∙◌}
use mathlib.Core.List.{List, ◌∷◌}
use Rattle.std.specs.Prelude.{Option, Some}
use Rattle.interface.specs.Numbers.{answer_word, answer_number}
use Rattle.interface.specs.declared.Answer.{Answer}
use Rattle.machine.specs.Choice.{when◌then◌else◌}
use Rattle.report.specs.Report.{answer_base}
use Rattle.logs.specs.Same.{same_numbers}
use Rattle.loglines.specs.Fields.{number_among}

-- an answer's word before those of others
pub answer_first : (f : List ℕ) (a : Answer) (answers : List Answer) {rest r : Option ℕ}
    → r ≡ when same_numbers f (answer_word a) then Some (answer_base + answer_number a) else rest → rest ≡ number_among f answers
    → r ≡ number_among f (a ∷ answers)
unfolding number_among
answer_first f a answers e g = e ∙ rw g
