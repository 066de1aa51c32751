-- The rules that a bucket's words are read by, for any values: when a bucket is full and what follows from it, the
-- update in a slot, single bits, when an update is pending, and the numbers of answers. Rests on the settings, on the
-- names of numbers and words, and on a search's result.
use Rattle.std.specs.Prelude.{ℕ, ◌+◌, ◌-◌, ◌/◌, ◌%◌, ◌^◌, Bool, false, not, ◌||◌, List, ltb, leb, eqb, get_or, pos}
use Rattle.std.specs.Int.{w64}
use Rattle.std.proofs.Common.{to_z}
use Rattle.interface.specs.Numbers.{kind_insert, kind_post, answer_number}
use Rattle.interface.specs.declared.Settings.{Settings}
use Rattle.interface.specs.declared.Answer.TheVariants.{Added, Replaced, Removed, Absent, Posted, Crowded, Overrun}
use Rattle.interface.specs.declared.Answer.TheVariants as Answer
use Rattle.fields.specs.Fields.{slot_kind, slot_account, slot_total, slot_ticket}
use Rattle.machine.specs.Choice.{◌and◌, when◌then◌else◌}
use Rattle.rules.specs.declared.Descriptor.{Descriptor}
use Rattle.arrays.specs.declared.Position.{Position}
use Rattle.arrays.specs.declared.Position.TheVariants.{At, Before}
use Rattle.interface.specs.declared.Answer.{Answer}

-- ---- full buckets: the settings, the bucket's depth and how many accounts it has

-- "Full means b accounts."
unfoldable pub full_by : Settings → ℕ → Bool
full_by s count = leb s.capacity count

-- full below depth M: to be split
unfoldable pub splittable_by : Settings → ℕ → ℕ → Bool
splittable_by s depth count = full_by s count and ltb depth s.depth

-- "only a bucket that is full below depth M holds an update back" (02, No. 2)
unfoldable pub holds_back_by : Settings → ℕ → ℕ → Bool
holds_back_by s depth count = splittable_by s depth count

-- ---- one update

-- the update in the slot whose words stand from i on
unfoldable pub descriptor_in : List ℕ → ℕ → Descriptor
descriptor_in l i =
    record {
      kind = get_or l (i + slot_kind) 0;
      account = get_or l (i + slot_account) 0;
      total = get_or l (i + slot_total) 0;
      ticket = get_or l (i + slot_ticket) 0;
    }

-- "a new account" (02, No. 2): an insert or a post, whose account a search has not found
unfoldable pub creates_by : ℕ → Position → Bool
creates_by kind (At i) = false
creates_by kind (Before i) = eqb kind kind_insert || eqb kind kind_post

-- "Crowded is left for a new account": in a full bucket, by how many accounts it has
unfoldable pub crowded_by : Settings → ℕ → ℕ → Position → Bool
crowded_by s count kind p = full_by s count and creates_by kind p

-- one number where the account stands there, the other where it is missing
unfoldable pub answer_by : Position → ℕ → ℕ → ℕ
answer_by (At i) there missing = there
answer_by (Before i) there missing = missing

-- the number of an insert's answer, and of a delete's
unfoldable pub insert_answer : Position → ℕ
insert_answer p = answer_by p (answer_number Replaced) (answer_number Added)

unfoldable pub delete_answer : Position → ℕ
delete_answer p = answer_by p (answer_number Removed) (answer_number Absent)

-- the number of a post's answer where it is posted; its total stands elsewhere
abbrev pub posted_number : ℕ
posted_number = answer_number (Posted (pos 0))

-- The answer to an update that a number and the word of a total stand for: the total counts for posted alone. None has
-- been given for any other number.
unfoldable pub answer_of : ℕ → ℕ → Answer
answer_of k total =
    when eqb k (answer_number Added) then Added else when eqb k (answer_number Replaced) then Replaced
    else when eqb k (answer_number Removed) then Removed else when eqb k (answer_number Absent) then Absent
    else when eqb k posted_number then Posted (to_z w64 total) else when eqb k (answer_number Crowded) then Crowded
    else when eqb k (answer_number Overrun) then Overrun else Answer.None

-- ---- single bits

-- bit j of a word
unfoldable pub bit : ℕ → ℕ → ℕ
bit w j = w / 2 ^ j % 2

-- bit w of a word changed
unfoldable pub flip_bit : ℕ → ℕ → ℕ
flip_bit x w = when eqb (bit x w) 0 then x + 2 ^ w else x - 2 ^ w

-- bit j of a word set
unfoldable pub with_bit : ℕ → ℕ → ℕ
with_bit x j = when eqb (bit x j) 0 then x + 2 ^ j else x

-- ---- whether an update is pending

-- worker j's "toggle bit differs from its applied bit" and its "slot's ticket is above its settled one"
unfoldable pub pending_by : ℕ → ℕ → ℕ → ℕ → ℕ → Bool
pending_by toggle applied j settled ticket = not (eqb (bit toggle j) (bit applied j)) and ltb settled ticket
