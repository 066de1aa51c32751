-- The updates that a directory swap takes, on the words. Rests on splits in place.
use Rattle.std.specs.Prelude.{ℕ, zero, suc, ◌+◌, ◌^◌, Bool, not, List, ltb, eqb}
use Rattle.interface.specs.Numbers.{kind_none}
use Rattle.interface.specs.declared.Settings.{Settings}
use Rattle.machine.specs.Choice.{when◌then◌else◌, ◌and◌}
use Rattle.fields.specs.Fields.{slot_kind, slot_account, slot_ticket, record_depth, record_prefix}
use Rattle.fields.specs.Regions.{read_at}
use Rattle.machine.specs.Sequential.{first_bits}
use Rattle.rules.specs.Rules.{bit, descriptor_in}
use Rattle.rounds.specs.Rounds.{carry_of}
use Rattle.layout.specs.Shape.{word}
use Rattle.layout.specs.Addresses.{record_of}
use Rattle.record.specs.Bucket.{bucket_at, holds_back_at, settled_ticket}
use Rattle.storing.specs.Stores.{with_bucket_at}
use Rattle.splits.specs.Splits.{split_while_at}

-- worker i's update, by the slot that the worker at p has read, carried out in the record at q
unfoldable pub carried_at : List ℕ → Settings → ℕ → ℕ → ℕ → List ℕ
carried_at l s p i q = with_bucket_at l s q (carry_of (bucket_at l s q) s i (descriptor_in l (read_at p i)))

unfoldable pub taken_at : List ℕ → Settings → ℕ → ℕ → List ℕ
taken_at l s p i =
    let l' : List ℕ = split_while_at l s (word l (read_at p i + slot_account)) s.depth in
    let q : ℕ = record_of l' s (word l' (read_at p i + slot_account)) in
    when holds_back_at l' s q then l' else carried_at l' s p i q

-- "every unsettled announced update that belongs to that bucket's prefix"
unfoldable pub due_at : List ℕ → Settings → ℕ → ℕ → ℕ → Bool
due_at l s p q i =
    not (eqb (word l (read_at p i + slot_kind)) kind_none)
    and eqb (first_bits (word l (q + record_depth)) (word l (read_at p i + slot_account))) (word l (q + record_prefix))
    and ltb (settled_ticket l s q i) (word l (read_at p i + slot_ticket))

-- the workers below n whose update is due at record q, as bits
unfoldable pub dues_at : List ℕ → Settings → ℕ → ℕ → ℕ → ℕ
dues_at l s p q zero = 0
dues_at l s p q (suc i) = when due_at l s p q i then dues_at l s p q i + 2 ^ i else dues_at l s p q i

unfoldable pub taken_all : List ℕ → Settings → ℕ → ℕ → ℕ → List ℕ
taken_all l s p dues zero = l
taken_all l s p dues (suc i) =
    let l' : List ℕ = taken_all l s p dues i in
    when eqb (bit dues i) 1 then taken_at l' s p i else l'
