-- A logged operation on these balances, by the sequential specification on its own account: the balances afterwards,
-- where the answer is the one logged. Rests on specs/Balances and on what an answer logged is, specs/Orders of crate
-- logs.
use Rattle.std.specs.Prelude.{ℕ, ◌+◌, Bool, true, false, List, [], ◌∷◌, eqb, ℤ, pos, Option, Some, None}
use Rattle.std.specs.Int.{w64}
use Rattle.std.specs.Option.{option_map}
use Rattle.std.proofs.Common.{of_z}
use Rattle.interface.specs.Numbers.{answer_number}
use Rattle.interface.specs.declared.Answer.{Answer}
use Rattle.interface.specs.declared.Answer.TheVariants.{Absent, Found, Crowded, Overrun}
use Rattle.machine.specs.Choice.{when◌then◌else◌}
use Rattle.machine.specs.Sequential.{Table, Operation, update, lookup, account, find, looked, tried}
use Rattle.machine.specs.Calls.{operation_of}
use Rattle.report.specs.Report.{answer_base}
use Rattle.logs.specs.Log.{Logged, logged_at, word_at, logged_answer}
use Rattle.logs.specs.Orders.{gives}
use Rattle.replay.specs.declared.Effect.{Effect}
use Rattle.replay.specs.declared.Effect.TheVariants.{Unchanged, Balance}
use Rattle.replay.specs.Balances.{first_place, balance_at, put_balance, crowds_at}

-- the table that holds one account, if it is there
unfoldable pub alone : ℕ → Option ℤ → Table
alone a None = []
alone a (Some v) = (a, v) ∷ []

-- the answer, and the balance afterwards
unfoldable pub served_alone : Bool → Operation → Option ℤ → Answer × Option ℤ
served_alone crowded (lookup a) s = (looked s, s)
served_alone crowded (update u) s =
    let r : Answer × Table = tried crowded u (alone (account u) s) in (r.0, find r.1 (account u))

-- the balance afterwards, where the answer is the one logged
unfoldable pub given_alone : Logged → Answer × Option ℤ → Option (Option ℤ)
given_alone x r = when gives x r.0 then Some r.1 else None

unfoldable pub outcome_if : Logged → Bool → Option ℤ → Option Operation → Option (Option ℤ)
outcome_if x crowded s None = None
outcome_if x crowded s (Some o) = given_alone x (served_alone crowded o s)

-- a logged operation on its account's balance
unfoldable pub outcome_of : Logged → Bool → Option ℤ → Option (Option ℤ)
outcome_of x crowded s = outcome_if x crowded s (operation_of x.kind x.account x.total)

-- the answers that say that the table stayed as it was: found, none, absent, crowded, overrun
unfoldable pub is_still : ℕ → Bool
is_still r =
    when eqb r (answer_base + answer_number (Found (pos 0))) then true
    else when eqb r (answer_base + answer_number Answer.None) then true
    else when eqb r (answer_base + answer_number Absent) then true
    else when eqb r (answer_base + answer_number Crowded) then true
    else eqb r (answer_base + answer_number Overrun)

-- the balance afterwards in the source's enum, by an answer that says that the table stayed as it was, or not
unfoldable pub as_effect : Bool → Option ℤ → Effect
as_effect true s = Unchanged
as_effect false None = Balance 0 0
as_effect false (Some v) = Balance 1 (of_z w64 v)

-- the same, where there is one
unfoldable pub as_outcome : Bool → Option (Option ℤ) → Option Effect
as_outcome still o = option_map (as_effect still) o

unfoldable pub put_if : List ℕ → ℕ → Bool → Option (Option ℤ) → Option (List ℕ)
put_if x j still None = None
put_if x j true (Some s) = Some x
put_if x j false (Some s) = Some (put_balance x j s)

unfoldable pub still_at : List ℕ → ℕ → Bool
still_at l i = is_still (word_at l i logged_answer)

-- the balances after the operation at place i, where it gives the answer logged
unfoldable pub replayed : List ℕ → ℕ → ℕ → List ℕ → ℕ → Option (List ℕ)
replayed l b M x i =
    put_if x (first_place l i) (still_at l i)
    (outcome_of (logged_at l i) (crowds_at l b M x i) (balance_at x (first_place l i)))
