-- A lookup's two steps on the words, for any words. Rests on the search of a record and on the end of an operation.
use Rattle.std.specs.Prelude.{ℕ, zero, suc, ◌+◌, List}
use Rattle.std.specs.Int.{w64}
use Rattle.std.proofs.Common.{to_z}
use Rattle.interface.specs.declared.Settings.{Settings}
use Rattle.interface.specs.declared.Answer.{Answer}
use Rattle.interface.specs.declared.Stepped.{Stepped}
use Rattle.fields.specs.Fields.{worker_account, record_count, accounts_from, totals_from}
use Rattle.arrays.specs.declared.Position.{Position}
use Rattle.arrays.specs.declared.Position.TheVariants.{At, Before}
use Rattle.arrays.specs.Arrays.{scan}
use Rattle.lists.specs.Parts.{part}
use Rattle.memory.specs.Words.{least}
use Rattle.layout.specs.Shape.{word}
use Rattle.layout.specs.Addresses.{held_by, bucket_read_at}
use Rattle.calls.specs.Calls.{ended_at}

-- "answer found with the total, or none": the account's position in the record at q
unfoldable pub found_at : List ℕ → Settings → ℕ → Position → Answer
found_at l s q (At i) = Answer.Found (to_z w64 (word l (totals_from q s.capacity + i)))
found_at l s q (Before i) = Answer.None

-- at most b accounts are looked at
unfoldable pub looked_at : List ℕ → Settings → ℕ → ℕ → Answer
looked_at l s q a =
    found_at l s q (scan (part l (accounts_from q) (least (word l (q + record_count)) s.capacity)) a 0)

unfoldable pub lookup_at : List ℕ → Settings → ℕ → ℕ → List ℕ × Stepped
lookup_at l s p zero = (bucket_read_at l s p, Stepped.Moved)
lookup_at l s p (suc k) = ended_at l p (suc k) 0 (looked_at l s (held_by l p) (word l (p + worker_account)))
