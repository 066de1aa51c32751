-- When an order explains a log. 02, No. 9: "exactly if some order of a plain table with the crowding rule gives all the
-- answers and never puts an operation before one that was answered before its call": the field's linearization of a
-- history. Rests on the sequential specification and on specs/Log.
use Rattle.std.specs.Prelude.{ℕ, ◌+◌, ◌<◌, ◌≡◌, Bool, true, false, List, [], ◌∷◌, eqb, ℤ, pos, negsuc, Option, Some, None}
use Rattle.interface.specs.Numbers.{answer_number, answer_total}
use Rattle.interface.specs.declared.Answer.{Answer}
use Rattle.machine.specs.Choice.{when◌then◌else◌, ◌and◌}
use Rattle.machine.specs.Sequential.{Table, Operation, serve}
use Rattle.machine.specs.Calls.{operation_of}
use Rattle.machine.specs.History.{Member, Distinct}
use Rattle.report.specs.Report.{answer_base}
use Rattle.logs.specs.Log.{Logged, Log, precedes}

-- ---- answers

unfoldable pub equal_z : ℤ → ℤ → Bool
equal_z (pos m) (pos n) = eqb m n
equal_z (pos m) (negsuc n) = false
equal_z (negsuc m) (pos n) = false
equal_z (negsuc m) (negsuc n) = eqb m n

-- the answer's total, if it has one, is the one logged: "The answer's total counts for found and posted only."
unfoldable pub same_total : Option ℤ → ℤ → Bool
same_total None v = true
same_total (Some w) v = equal_z w v

-- the answer is the one logged
unfoldable pub gives : Logged → Answer → Bool
gives x r = eqb x.answer (answer_base + answer_number r) and same_total (answer_total r) x.answer_total

-- the table afterwards, where the answer is the one logged
unfoldable pub after_giving : Logged → Answer × Table → Option Table
after_giving x r = when gives x r.0 then Some r.1 else None

-- the plain table, with b and M, fed a logged operation: the table afterwards, where it gives the answer logged
unfoldable pub served_if : ℕ → ℕ → Logged → Table → Option Operation → Option Table
served_if b M x t None = None
served_if b M x t (Some o) = after_giving x (serve b M o t)

unfoldable pub served_at : ℕ → ℕ → Log → Table → ℕ → Option Table
served_at b M log t i =
    served_if b M (log.at i) t (operation_of (log.at i).kind (log.at i).account (log.at i).total)

-- ---- orders

-- each place of the log, once
pub record EachOnce (n : ℕ) (o : List ℕ) : Type 0 where
  pub distinct : Distinct o
  pub places : (i : ℕ) → Member i o → i < n
  pub all_places : (i : ℕ) → i < n → Member i o

-- of any two, the later one was not answered before the earlier one's call
abbrev pub InTime : Log → List ℕ → Type 0
InTime log [] = Unit {0}
InTime log (i ∷ o) = ((j : ℕ) → Member j o → precedes (log.at j) (log.at i) ≡ false) × InTime log o

-- the plain table, fed in this order, gives each answer
abbrev pub GivesAll : ℕ → ℕ → Log → Table → List ℕ → Type 0
GivesAll b M log t [] = Unit {0}
GivesAll b M log t (i ∷ o) = (t' : Table) × ((served_at b M log t i ≡ Some t') × GivesAll b M log t' o)

-- "The plain table starts empty."
pub record Explains (b M : ℕ) (log : Log) (o : List ℕ) : Type 0 where
  pub once : EachOnce log.count o
  pub in_time : InTime log o
  pub answers : GivesAll b M log [] o
