-- A call on the words, with its refusals in document 01's order, and the end of an operation, for any words. Rests on
-- the header and on a worker's words.
use Rattle.std.specs.Prelude.{ℕ, ◌+◌, not, ◌||◌, List, ltb, leb, eqb, set, ℤ, Result, Ok, Err, ⊤}
use Rattle.std.specs.Int.{w64}
use Rattle.std.proofs.Common.{of_z}
use Rattle.interface.specs.Limits.{greatest_ticket}
use Rattle.interface.specs.Numbers.{kind_none, kind_insert, kind_delete, kind_lookup, greatest_kind}
use Rattle.interface.specs.declared.Refusal.{Refusal}
use Rattle.machine.specs.Choice.{when◌then◌else◌}
use Rattle.fields.specs.Fields.{worker_kind, worker_account, worker_total, worker_ticket, worker_steps}
use Rattle.fields.specs.Regions.{worker_at}
use Rattle.rules.specs.declared.Descriptor.{Descriptor}
use Rattle.layout.specs.Shape.{word, strange, shape_of}
use Rattle.interface.specs.declared.Answer.{Answer}
use Rattle.interface.specs.declared.Stepped.{Stepped}

-- ---- a call

-- an operation of the worker at p begins: no steps yet
unfoldable pub begun_at : List ℕ → ℕ → Descriptor → List ℕ
begun_at l p u =
    let l₂ : List ℕ = set (set l (p + worker_kind) u.kind) (p + worker_account) u.account in
    set (set (set l₂ (p + worker_total) u.total) (p + worker_ticket) u.ticket) (p + worker_steps) 0

-- "The ticket number .. is the worker's last plus 1, taken at the call"; an insert has a total, a post an
-- amount
abbrev pub update_called : ℕ → ℕ → ℤ → ℕ → Descriptor
update_called kind a v last =
    record { kind = kind; account = a; total = when eqb kind kind_delete then 0 else of_z w64 v; ticket = last + 1 }

-- a lookup takes no ticket
abbrev pub lookup_called : ℕ → ℕ → Descriptor
lookup_called a last = record { kind = kind_lookup; account = a; total = 0; ticket = last }

unfoldable pub call_in : List ℕ → ℕ → ℕ → ℕ → ℤ → List ℕ × Result ⊤ Refusal
call_in l p kind a v =
    let last : ℕ = word l (p + worker_ticket) in
    when not (eqb (word l (p + worker_kind)) kind_none) then (l, Err Refusal.Busy)
    else when ltb kind kind_insert || ltb greatest_kind kind then (l, Err Refusal.Kind)
    else when eqb kind kind_lookup then (begun_at l p (lookup_called a last), Ok tt)
    else when leb greatest_ticket last then (l, Err Refusal.Spent)
    else (begun_at l p (update_called kind a v last), Ok tt)

-- "A call checks 8, 3, 4, 6, 7."
unfoldable pub call_words : List ℕ → ℕ → ℕ → ℕ → ℤ → List ℕ × Result ⊤ Refusal
call_words l w kind a v =
    when strange l then (l, Err Refusal.Strange)
    else when leb (shape_of l).workers w then (l, Err Refusal.Stranger)
    else call_in l (worker_at (shape_of l).workers w) kind a v

-- ---- the end of an operation

-- the operation of the worker at p ended, after k own steps before this one, at check c, 0 where it is no update
unfoldable pub ended_at : List ℕ → ℕ → ℕ → ℕ → Answer → List ℕ × Stepped
ended_at l p k c a = (
  set (set l (p + worker_kind) kind_none) (p + worker_steps) 0,
  Stepped.Answered (record { answer = a; steps = k + 1; check = c }),
)
