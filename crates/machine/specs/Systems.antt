-- What demand 3's lists are made of and given to: an entry, a system with its opening, call, step and listing, and what
-- an entry leaves and is replied there. The machine is such a system. Rests on the machine's opening, calls and steps.
use Rattle.std.specs.Prelude.{ℕ, ◌≡◌, Bool, true, false, eqb, ℤ, Option, Some, None, Result, Ok, Err, ⊤}
use Rattle.interface.specs.declared.Settings.{Settings}
use Rattle.interface.specs.declared.Refusal.{Refusal}
use Rattle.interface.specs.declared.Stepped.{Stepped}
use Rattle.machine.specs.Choice.{◌and◌}
use Rattle.machine.specs.Sequential.{Operation, update, lookup}
use Rattle.machine.specs.Records.{Machine}
use Rattle.machine.specs.Steps.{step}
use Rattle.machine.specs.Calls.{Opening, opens, refuses, opening, operation_of, call, Listing, listing}

-- "A list holds calls to workers, steps, listings and refused openings, in any order, the refused ones included." A
-- call has worker, kind, account and total; a step its worker; a listing the lengths of its two lists; an opening n, b
-- and M.
pub data Entry : Type 0 where
  calling : ℕ → ℕ → ℕ → ℤ → Entry
  stepping : ℕ → Entry
  showing : ℕ → ℕ → Entry
  reopening : ℕ → ℕ → ℕ → Entry

-- What a list is given to: its states, and what an opening, a call, a step and a listing do in them.
pub record System : Type 1 where
  pub State : Type 0
  pub opening : State → ℕ → ℕ → ℕ → State × Result ⊤ Refusal
  pub call : State → ℕ → ℕ → ℕ → ℤ → State × Result ⊤ Refusal
  pub step : State → ℕ → State × Stepped
  pub listing : State → ℕ → ℕ → Listing

-- what an opening makes of machine m
unfoldable pub opened_by : Machine → Opening → Machine × Result ⊤ Refusal
opened_by m (opens s fresh) = (fresh, Ok tt)
opened_by m (refuses r) = (m, Err r)

-- the machine, where so many words are lent; the lent words with the library's calls are another system
abbrev pub machines : Settings → ℕ → System
machines s lent = record {
  State = Machine;
  opening = λ m n b M. opened_by m (opening n b M lent);
  call = call s;
  step = step s;
  listing = listing;
}

-- the state after an entry: what the call, the step or the opening left
unfoldable pub next : (x : System) → x.State → Entry → x.State
next x m (calling j kind a v) = (x.call m j kind a v).0
next x m (stepping j) = (x.step m j).0
next x m (showing p q) = m
next x m (reopening n b M) = (x.opening m n b M).0

-- what an entry is met with
pub data Replied : Type 0 where
  to_call : Result ⊤ Refusal → Replied
  to_step : Stepped → Replied
  to_listing : Listing → Replied
  to_opening : Result ⊤ Refusal → Replied

unfoldable pub reply : (x : System) → x.State → Entry → Replied
reply x m (calling j kind a v) = to_call (x.call m j kind a v).1
reply x m (stepping j) = to_step (x.step m j).1
reply x m (showing p q) = to_listing (x.listing m p q)
reply x m (reopening n b M) = to_opening (x.opening m n b M).1

-- "refused openings": an entry that is an opening is refused in this state
abbrev pub OpensNothing : (x : System) → x.State → Entry → Type 0
OpensNothing x m (calling j kind a v) = Unit {0}
OpensNothing x m (stepping j) = Unit {0}
OpensNothing x m (showing p q) = Unit {0}
OpensNothing x m (reopening n b M) = (r : Refusal) × ((x.opening m n b M).1 ≡ Err r)

-- the operation that an entry asks for
unfoldable pub asked : Entry → Option Operation
asked (calling j kind a v) = operation_of kind a v
asked (stepping j) = None
asked (showing x y) = None
asked (reopening n b M) = None

abbrev pub is_update : Option Operation → Bool
is_update None = false
is_update (Some (update u)) = true
is_update (Some (lookup a)) = false

abbrev pub accepts : Result ⊤ Refusal → Bool
accepts (Ok _) = true
accepts (Err r) = false

abbrev pub moves : Stepped → Bool
moves Stepped.Moved = true
moves (Stepped.Answered c) = true
moves (Stepped.Refused r) = false

abbrev pub is_answer : Stepped → Bool
is_answer Stepped.Moved = false
is_answer (Stepped.Answered c) = true
is_answer (Stepped.Refused r) = false

-- "An operation is an accepted call to a worker": is this one to worker j?
unfoldable pub calls_to : (x : System) → x.State → Entry → ℕ → Bool
calls_to x m (calling i kind a v) j = eqb i j and accepts (x.call m i kind a v).1
calls_to x m (stepping i) j = false
calls_to x m (showing p q) j = false
calls_to x m (reopening n b M) j = false

-- is this an accepted step of worker j?
unfoldable pub steps_by : (x : System) → x.State → Entry → ℕ → Bool
steps_by x m (stepping i) j = eqb i j and moves (x.step m i).1
steps_by x m (calling i kind a v) j = false
steps_by x m (showing p q) j = false
steps_by x m (reopening n b M) j = false

-- is this a step of worker j that is answered?
unfoldable pub ends_by : (x : System) → x.State → Entry → ℕ → Bool
ends_by x m (stepping i) j = eqb i j and is_answer (x.step m i).1
ends_by x m (calling i kind a v) j = false
ends_by x m (showing p q) j = false
ends_by x m (reopening n b M) j = false
