-- Opening on the words, and how many words are needed, with their refusals in document 01's order, for any words.
-- Rests on the header and the regions of the lent words.
use Rattle.std.specs.Prelude.{ℕ, ◌+◌, ◌-◌, ◌^◌, List, ◌∷◌, ◌++◌, leb, length, replicate, Result, Ok, Err, ⊤}
use Rattle.interface.specs.Limits.{built}
use Rattle.interface.specs.declared.Settings.{Settings}
use Rattle.interface.specs.declared.Refusal.{Refusal}
use Rattle.machine.specs.Choice.{when◌then◌else◌}
use Rattle.fields.specs.Fields.{header_spare}
use Rattle.fields.specs.Regions.{directory_start, record_start, words_needed}
use Rattle.lists.specs.Parts.{overlay}
use Rattle.layout.specs.Shape.{first_word}

-- ---- opening

-- the words of a fresh table: the header, empty slots, idle workers, a directory whose entries all name the first
-- record, empty records
unfoldable pub fresh_words : Settings → List ℕ
fresh_words s =
    first_word s ∷ words_needed s ∷ 0 ∷ 0 ∷ 1 ∷ replicate (directory_start s.workers - (header_spare + 1)) 0
    ++ replicate (2 ^ s.depth) (record_start s 0)
    ++ replicate (words_needed s - (directory_start s.workers + 2 ^ s.depth)) 0

unfoldable pub opened_words : List ℕ → Result Settings Refusal → List ℕ × Result ⊤ Refusal
opened_words l (Err r) = (l, Err r)
opened_words l (Ok s) =
    when leb (words_needed s) (length l)
    then (overlay l 0 (fresh_words s), Ok tt)
    else (l, Err Refusal.Short)

-- "Opening checks 1, 2 and overwrites what the memory held."
unfoldable pub open_words : List ℕ → ℕ → ℕ → ℕ → List ℕ × Result ⊤ Refusal
open_words l n b M = opened_words l (built n b M)

-- the words needed, or refusal 1
unfoldable pub needed_for : Result Settings Refusal → Result ℕ Refusal
needed_for (Err r) = Err r
needed_for (Ok s) = Ok (words_needed s)
