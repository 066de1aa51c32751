-- The rows of one entry of the directory, for any words. Rests on the regions of the lent words.
use Rattle.std.specs.Prelude.{ℕ, zero, suc, ◌+◌, ◌%◌, ◌^◌, List, [], ◌∷◌, eqb, ℤ}
use Rattle.std.specs.Int.{w64}
use Rattle.std.proofs.Common.{to_z}
use Rattle.interface.specs.declared.Settings.{Settings}
use Rattle.fields.specs.Fields.{record_count, accounts_from, totals_from}
use Rattle.fields.specs.Regions.{directory_start}
use Rattle.machine.specs.Choice.{when◌then◌else◌}
use Rattle.machine.specs.Sequential.{first_bits}
use Rattle.memory.specs.Words.{least}
use Rattle.layout.specs.Shape.{word}
use Rattle.layout.specs.Addresses.{record_in}

-- the record that entry e names
unfoldable pub entry_record : List ℕ → Settings → ℕ → ℕ
entry_record l s e = record_in l (word l (directory_start s.workers + e))

-- an account with its total
unfoldable pub row_at : List ℕ → Settings → ℕ → ℕ → ℕ × ℤ
row_at l s q i = (word l (accounts_from q + i) % 2 ^ 32, to_z w64 (word l (totals_from q s.capacity + i)))

-- the rows of entry e among the c accounts from position i on of the record at q
unfoldable pub rows_in : List ℕ → Settings → ℕ → ℕ → ℕ → ℕ → List (ℕ × ℤ)
rows_in l s e q i zero = []
rows_in l s e q i (suc c) =
    when eqb (first_bits s.depth (word l (accounts_from q + i))) e
    then row_at l s q i ∷ rows_in l s e q (suc i) c
    else rows_in l s e q (suc i) c

-- the rows of entry e: at most b accounts are looked at
unfoldable pub rows_of : List ℕ → Settings → ℕ → List (ℕ × ℤ)
rows_of l s e = rows_in l s e (entry_record l s e) 0 (least (word l (entry_record l s e + record_count)) s.capacity)
