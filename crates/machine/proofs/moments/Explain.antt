-- Linearization points, chosen forwards: which operations take effect in a step can be read off the machine before and after it, and
-- so can the answer that an operation under way has had from the plain table. Rests on the invariant and the laws of tables.
use Prim.Native.Nat.{ℕ, ◌<◌}
use mathlib.Core.Path.{◌≡◌}
use mathlib.Core.List.{List, [], ◌∷◌}
use Rattle.std.specs.Prelude.{Option, Some, None}
use lib.Dec.{eqb}
use Rattle.interface.specs.declared.Settings.{Settings}
use Rattle.interface.specs.declared.Answer.{Answer}
use Rattle.machine.specs.Choice.{when◌then◌else◌, assign}
use Rattle.machine.specs.Sequential.{Table, first_bits, find, having, looked, Operation, Ascending}
use Rattle.machine.specs.Records.{same, Cells}
use Rattle.machine.specs.BucketPass.{settled_at}
use Rattle.machine.specs.History.{Member, Distinct, serve_if}
use Rattle.machine.specs.Counter.{PC}
use Rattle.machine.proofs.invariant.Counter.{by_counter}
use Rattle.machine.specs.Tasks.{Task, target, leaf, held}
use Rattle.machine.proofs.invariant.Inv.{body, leaf_body}

-- ---- the plain table and the machine

-- each current bucket holds its part of the plain table
pub record Parts (c : Cells) (t : Table) : Type 0 where
  pub ascending : Ascending t
  pub part : (a : ℕ) → (leaf_body c a).items ≡ having (leaf c a).depth (first_bits (leaf c a).depth a) t

-- ---- what an operation has had

-- an announced update's answer stands in its bucket once it has had its moment
abbrev pub settled_status : Cells → ℕ → Task → Option Answer
settled_status c j k = when settled_at (leaf_body c (target k)) j k.ticket then Some ((leaf_body c (target k)).settled j).answer else None

-- a lookup has had its moment once the bucket it holds is no longer its account's
abbrev pub lookup_status : Cells → Task → Option Answer
lookup_status c k = when same (held k) (leaf c (target k)) then None else Some (looked (find (body c (held k)).items (target k)))

-- the answer that worker j's operation has had from the plain table, if it has had its moment: only an update in a pass, or a lookup that
-- has read the directory, can have had it
abbrev pub status_at : PC → Cells → ℕ → Task → Option Answer
status_at pc c j k = by_counter (λ x. Option Answer) None None None (lookup_status c k) None (λ x u. settled_status c j k) pc

abbrev pub status : Cells → ℕ → Task → Option Answer
status c j k = status_at k.pc c j k

-- the answer that a step gave worker j, or else its status
abbrev pub outcome : Option Answer → Cells → ℕ → Task → Option Answer
outcome (Some r) c j k = Some r
outcome None c j k = status c j k

-- ---- the plain table after the operations of workers

unfoldable pub serve_all : Settings → (ℕ → Task) → Table → List ℕ → Table
serve_all s tasks t [] = t
serve_all s tasks t (j ∷ js) = serve_all s tasks (serve_if s (tasks j).operation t).1 js

unfoldable pub answers_of : Settings → (ℕ → Task) → Table → List ℕ → List (ℕ × Answer)
answers_of s tasks t [] = []
answers_of s tasks t (j ∷ js) = (j, (serve_if s (tasks j).operation t).0) ∷ answers_of s tasks (serve_if s (tasks j).operation t).1 js

-- ---- what happens, explained

-- worker j has an operation under way, which has not had its moment
abbrev pub Unserved : Settings → Cells → (ℕ → Task) → ℕ → Type 0
Unserved s c tasks j = (j < s.workers) × (status c j (tasks j) ≡ None) × ((o : Operation) × ((tasks j).operation ≡ Some o))

-- From cells c and tasks to c' and tasks', with the answers that the workers got in between; t: the plain table before.
pub record Explained (s : Settings) (c c' : Cells) (tasks tasks' : ℕ → Task) (reply : ℕ → Option Answer) (t : Table) : Type 0 where
  -- the workers whose operations take effect, in their order
  pub effects : List ℕ
  pub distinct : Distinct effects
  pub waiting : (j : ℕ) → Member j effects → Unserved s c tasks j
  -- the machine then holds the plain table after them
  pub parts : Parts c' (serve_all s tasks t effects)
  -- each has now had the plain table's answer, and the others have had what they had
  pub gained : (j : ℕ) (r : Answer) → Member (j, r) (answers_of s tasks t effects) → outcome (reply j) c' j (tasks' j) ≡ Some r
  pub others : (j : ℕ) → j < s.workers → (Member j effects → ⊥) → outcome (reply j) c' j (tasks' j) ≡ status c j (tasks j)

-- the answer a, for worker w
abbrev pub reply_to : ℕ → Option Answer → ℕ → Option Answer
reply_to w a j = when eqb j w then a else None

-- worker w's step from cells c to c', by which its task becomes k, with the answer a
abbrev pub ExplainedStep : Settings → ℕ → Cells → (ℕ → Task) → Table → Cells → Task → Option Answer → Type 0
ExplainedStep s w c tasks t c' k a = Explained s c c' tasks (assign tasks w k) (reply_to w a) t
