-- The bucket swap on the words, for any words. Rests on a round on a bucket's record, and on fresh numbers. The
-- worker's record is at p; the bucket's record is at q.
use Rattle.std.specs.Prelude.{ℕ, ◌+◌, List, eqb, set}
use Rattle.interface.specs.declared.Settings.{Settings}
use Rattle.fields.specs.Fields.{worker_state, record_number}
use Rattle.machine.specs.Choice.{when◌then◌else◌}
use Rattle.layout.specs.Shape.{word}
use Rattle.renumbering.specs.Numbers.{fresh_number}
use Rattle.inplace.specs.InPlace.{round_at}

-- "only if the bucket's state is still the one that was read"
unfoldable pub swapped_at : List ℕ → Settings → ℕ → ℕ → List ℕ
swapped_at l s p q =
    when eqb (word l (p + worker_state)) (word l (q + record_number))
    then set (round_at l s p q) (q + record_number) (fresh_number l s.workers q)
    else l
