-- What a bucket's state means: the machine's table, settled tickets and applied bits; and what a slot's words mean.
-- Rests on the definitions on states and on the machine's records.
use Rattle.std.specs.Prelude.{ℕ, ◌+◌, ◌*◌, ◌^◌, ◌≤◌, ◌<◌, ◌≡◌, Bool, List, [], ◌∷◌, eqb, length, get_or, take, ℤ, Option, Some, None}
use Rattle.std.specs.Int.{w64}
use Rattle.std.proofs.Common.{to_z}
use Rattle.interface.specs.Numbers.{kind_none, kind_insert, kind_post}
use Rattle.fields.specs.Fields.{slot_kind, slot_account, slot_total, slot_ticket, slot_size}
use Rattle.machine.specs.Choice.{when◌then◌else◌}
use Rattle.machine.specs.Sequential.{Table, Update, insert, delete, post, Ascending}
use Rattle.machine.specs.Records.{Settled, State, Slot, empty, announced}
use Rattle.bucket.specs.declared.BucketState.{BucketState}
use Rattle.rules.specs.declared.Descriptor.{Descriptor}
use Rattle.arrays.specs.declared.Position.{Position}
use Rattle.arrays.specs.declared.Position.TheVariants.{At, Before}
use Rattle.bucket.specs.State.{array_size, size_of}
use Rattle.rules.specs.Rules.{bit, descriptor_in, answer_of}

-- ---- a state

-- a total's word, read as a signed number
unfoldable pub signed : ℕ → ℤ
signed w = to_z w64 w

-- accounts with their totals, as far as both lists go
unfoldable pub pairs : List ℕ → List ℕ → Table
pairs [] vs = []
pairs (a ∷ l) [] = []
pairs (a ∷ l) (v ∷ vs) = (a, signed v) ∷ pairs l vs

unfoldable pub items_of : BucketState → Table
items_of x = pairs (take (size_of x) x.accounts) (take (size_of x) x.totals)

-- the total at a position where an account stands
unfoldable pub total_at : BucketState → Position → Option ℤ
total_at x (At i) = Some (signed (get_or x.totals i 0))
total_at x (Before i) = None

unfoldable pub settled_of : BucketState → ℕ → Settled
settled_of x j =
    record { ticket = get_or x.settled j 0; answer = answer_of (get_or x.answers j 0) (get_or x.posted j 0) }

-- the bits of a word, one to a worker
unfoldable pub bits_of : ℕ → ℕ → Bool
bits_of w j = eqb (bit w j) 1

-- ---- a slot

-- any kind but an insert's and a post's is a delete
unfoldable pub update_from : Descriptor → Update
update_from u =
    when eqb u.kind kind_insert then insert u.account (signed u.total)
    else when eqb u.kind kind_post then post u.account (signed u.total)
    else delete u.account

-- a slot without a kind is empty
unfoldable pub slot_from : Descriptor → Slot
slot_from u = when eqb u.kind kind_none then empty else announced (update_from u) u.ticket

-- worker j's, of the slots that were read
unfoldable pub slot_of : List ℕ → ℕ → Slot
slot_of l j = slot_from (descriptor_in l (slot_size * j))

-- ---- what is required of the words

-- every item is below k
abbrev pub Below : ℕ → List ℕ → Type 0
Below k [] = Unit {0}
Below k (x ∷ l) = (x < k) × Below k l

-- no more accounts than an array has items, of 32 bits, ascending, with totals of 64 bits
pub record Sound (x : BucketState) : Type 0 where
  pub count : x.count ≤ array_size
  pub accounts : length x.accounts ≡ array_size
  pub totals : length x.totals ≡ array_size
  pub settled : length x.settled ≡ array_size
  pub answers : length x.answers ≡ array_size
  pub posted : length x.posted ≡ array_size
  pub ascending : Ascending (items_of x)
  pub narrow : Below (2 ^ 32) (take x.count x.accounts)
  pub fits : Below (2 ^ 64) (take x.count x.totals)

-- the slots of the workers below n: accounts of 32 bits, totals of 64 bits, and the ticket of an empty slot is 0
pub record SoundSlots (l : List ℕ) (n : ℕ) : Type 0 where
  pub narrow : (j : ℕ) → j < n → get_or l (slot_size * j + slot_account) 0 < 2 ^ 32
  pub fits : (j : ℕ) → j < n → get_or l (slot_size * j + slot_total) 0 < 2 ^ 64
  pub quiet : (j : ℕ) → j < n → get_or l (slot_size * j + slot_kind) 0 ≡ kind_none → get_or l (slot_size * j + slot_ticket) 0 ≡ 0

-- ---- a state and what it means

-- the sound state x means y, as far as the workers below n go
pub record Means (x : BucketState) (y : State) (n : ℕ) : Type 0 where
  pub sound : Sound x
  pub items : items_of x ≡ y.body.items
  pub settled : (j : ℕ) → j < n → settled_of x j ≡ y.body.settled j
  pub applied : (j : ℕ) → j < n → bits_of x.applied j ≡ y.applied j
