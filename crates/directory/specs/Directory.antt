-- The directory swap on the words. Rests on the updates taken at a marked bucket, and on fresh numbers.
use Rattle.std.specs.Prelude.{ℕ, zero, suc, ◌+◌, Bool, ◌||◌, List, ltb, eqb, length, set}
use Rattle.interface.specs.declared.Settings.{Settings}
use Rattle.machine.specs.Choice.{when◌then◌else◌}
use Rattle.fields.specs.Fields.{header_number, worker_directory, worker_marks}
use Rattle.fields.specs.Regions.{words_needed}
use Rattle.layout.specs.Shape.{word}
use Rattle.layout.specs.Addresses.{marked_at, record_for}
use Rattle.renumbering.specs.Numbers.{fresh_directory}
use Rattle.taking.specs.Taking.{dues_at, taken_all}

-- the marked buckets, resolved in the order of their marks
unfoldable pub resolved_at : List ℕ → Settings → ℕ → ℕ → List ℕ
resolved_at l s p zero = l
resolved_at l s p (suc j) =
    let l' : List ℕ = resolved_at l s p j in
    when marked_at l' p j then taken_all l' s p (dues_at l' s p (record_for l' s p j) s.workers) s.workers else l'

-- nothing is marked, or the words are too short for the records of their settings, which no opened table's are
unfoldable pub nothing_to_split : List ℕ → Settings → ℕ → Bool
nothing_to_split l s p = eqb (word l (p + worker_marks)) 0 || ltb (length l) (words_needed s)

-- "only if the directory is still the one that was read"
unfoldable pub redirected_at : List ℕ → Settings → ℕ → List ℕ
redirected_at l s p =
    let l' : List ℕ = when nothing_to_split l s p then l else resolved_at l s p s.workers in
    when eqb (word l (p + worker_directory)) (word l header_number)
    then set l' header_number (fresh_directory l s.workers)
    else l
