-- What a round of the bucket pass makes of the state, toggle and slots that it has read, and what a check answers.
-- Rests on the records.
use Rattle.std.specs.Prelude.{ℕ, zero, suc, Bool, true, false, not, leb, ltb, length, Option, Some, None}
use Rattle.std.specs.Bool.{xor}
use Rattle.interface.specs.declared.Settings.{Settings}
use Rattle.interface.specs.declared.Answer.{Answer}
use Rattle.machine.specs.Choice.{when◌then◌else◌, ◌and◌, assign}
use Rattle.machine.specs.Sequential.{Update, tried}
use Rattle.machine.specs.Records.{Settled, Body, State, Slot, empty, announced}

-- ---- a bucket's body

-- "Full means b accounts."
unfoldable pub full : Settings → Body → Bool
full s x = leb s.capacity (length x.items)

-- full below depth M: to be split. The number is the bucket's depth.
unfoldable pub splittable : Settings → ℕ → Body → Bool
splittable s d x = full s x and ltb d s.depth

-- "only a bucket that is full below depth M holds an update back" (02, No. 2)
unfoldable pub holds_back : Settings → ℕ → Body → Bool
holds_back s d x = splittable s d x

-- "A ticket is settled in a bucket when that number is not below it."
unfoldable pub settled_at : Body → ℕ → ℕ → Bool
settled_at x j t = leb t (x.settled j).ticket

-- Worker j's update with ticket t carried out: its ticket is settled with its answer. "At depth M a full bucket now
-- takes deletes, replacements and posts to accounts it holds"; for a new account crowded "is settled with its ticket
-- like any other answer".
unfoldable pub carry_out : Settings → ℕ → Update → ℕ → Body → Body
carry_out s j u t x =
    record {
      items = (tried (full s x) u x.items).1;
      settled = assign x.settled j (record { ticket = t; answer = (tried (full s x) u x.items).0 });
    }

-- ---- a round

-- "each worker whose toggle bit differs from its applied bit and whose slot's ticket is above its settled one"
unfoldable pub pending : State → (ℕ → Bool) → ℕ → ℕ → Bool
pending x toggle j t = xor (toggle j) (x.applied j) and not (settled_at x.body j t)

-- "the update is carried out on a private copy", unless the copy, of a bucket of depth d, holds it back
unfoldable pub help : Settings → ℕ → State → (ℕ → Bool) → ℕ → Slot → Body → Body
help s d x toggle j empty copy = copy
help s d x toggle j (announced u t) copy =
    when pending x toggle j t and not (holds_back s d copy) then carry_out s j u t copy else copy

-- the private copy once the workers below n have been helped, in worker order
unfoldable pub helped : Settings → ℕ → State → (ℕ → Bool) → (ℕ → Slot) → ℕ → Body
helped s d x toggle slots zero = x.body
helped s d x toggle slots (suc j) = help s d x toggle j (slots j) (helped s d x toggle slots j)

-- "Then the applied bits become the toggle."
unfoldable pub next_state : Settings → ℕ → State → (ℕ → Bool) → (ℕ → Slot) → State
next_state s d x toggle slots = record { body = helped s d x toggle slots s.workers; applied = toggle }

-- ---- a check

-- "The checks then answer only from settled tickets": worker j, its ticket t.
unfoldable pub checked : ℕ → ℕ → Body → Option Answer
checked j t x = when settled_at x j t then Some (x.settled j).answer else None
