-- Which bucket record an account, a worker or a slot that was read has, and the read that keeps it, for any words.
-- Rests on the header and on the regions of the lent words.
use Rattle.std.specs.Prelude.{ℕ, ◌+◌, List, leb, eqb, length, set, Bool}
use Rattle.interface.specs.declared.Settings.{Settings}
use Rattle.fields.specs.Fields.{worker_held, widest_record, slot_account, worker_marks, worker_account}
use Rattle.fields.specs.Regions.{directory_start, read_at}
use Rattle.machine.specs.Choice.{when◌then◌else◌}
use Rattle.machine.specs.Sequential.{first_bits}
use Rattle.layout.specs.Shape.{word}
use Rattle.rules.specs.Rules.{bit}

-- a word that is to be a record's address, if a whole record fits there; else 0
unfoldable pub record_in : List ℕ → ℕ → ℕ
record_in l q = when leb (q + widest_record) (length l) then q else 0

-- the record of an account's bucket, by the directory
unfoldable pub record_of : List ℕ → Settings → ℕ → ℕ
record_of l s a = record_in l (word l (directory_start s.workers + first_bits s.depth a))

-- the record that the worker at p holds
unfoldable pub held_by : List ℕ → ℕ → ℕ
held_by l p = record_in l (word l (p + worker_held))

-- the worker at p has marked slot j in its round of the directory pass
abbrev pub marked_at : List ℕ → ℕ → ℕ → Bool
marked_at l p j = eqb (bit (word l (p + worker_marks)) j) 1

-- the record of the bucket that slot j, as the worker at p has read it, belongs to
abbrev pub record_for : List ℕ → Settings → ℕ → ℕ → ℕ
record_for l s p j = record_of l s (word l (read_at p j + slot_account))

-- the directory read for the account's bucket
unfoldable pub bucket_read_at : List ℕ → Settings → ℕ → List ℕ
bucket_read_at l s p = set l (p + worker_held) (record_of l s (word l (p + worker_account)))
