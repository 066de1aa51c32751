-- The steps and the check of every answer in some rows of the table of cases, by computing: each of the four checks, a lookup, and one
-- worker's two. `totals` prints no check, so that the rows themselves do not show it. Rests on the table of cases.
use Prim.Native.Nat.{ℕ, zero, suc}
use mathlib.Core.Path.{◌≡◌, refl}
use mathlib.Core.List.{List, [], ◌∷◌, ◌++◌}
use Rattle.interface.specs.declared.Settings.{Settings}
use Rattle.interface.specs.declared.Stepped.{Stepped}
use Rattle.machine.specs.Computing.{computing}
use Rattle.machine.specs.Records.{Machine}
use Rattle.machine.specs.Steps.{step}
use Rattle.machine.specs.Script.{Line, O, I, D, L, P, S, T, Lent, Memory, zeros, holding, response_to}
use Rattle.machine.proofs.Cases.{Case, lookup_after_delete, crowded_straight_after, second_pass, fourth-check}

-- the steps and the check that the answer comes with, among up to k steps of worker j, if there is one
unfoldable pub ended : Settings → ℕ → ℕ → Machine → List (ℕ × ℕ)
ended s j zero m = []
ended s j (suc k) m =
    let r : Machine × Stepped = step s m j in
    elim r.1 [
      | Stepped.Moved ↦ ended s j k r.0
      | Stepped.Answered c ↦ (c.steps, c.check) ∷ []
      | Stepped.Refused x ↦ []
    ]

unfoldable pub ended_by : Memory → Line → List (ℕ × ℕ)
ended_by zeros l = []
ended_by (holding s m) (O n b M) = []
ended_by (holding s m) (I j a v) = []
ended_by (holding s m) (D j a) = []
ended_by (holding s m) (L j a) = []
ended_by (holding s m) (P j a v) = []
ended_by (holding s m) (S j k) = ended s j k m
ended_by (holding s m) T = []

-- from memory x, with these words and lists lent
unfoldable pub ended_from : Lent → Memory → List Line → List (ℕ × ℕ)
ended_from lent x [] = []
ended_from lent x (l ∷ ls) = ended_by x l ++ ended_from lent (response_to lent x l).memory ls

-- the answers of a case
unfoldable pub endings : Case → List (ℕ × ℕ)
endings c = ended_from c.row.lent zeros c.row.script

-- "With one worker only 13 and 23 occur."
pub one_worker_checks : endings crowded_straight_after ≡ (13, 1) ∷ (13, 1) ∷ (23, 2) ∷ (13, 1) ∷ []
unfolding computing ended ended_by ended_from endings crowded_straight_after
one_worker_checks = refl

-- "0 with any other operation's answer"; a delete, the second answer, has its check
pub lookup_checks : endings lookup_after_delete ≡ (15, 1) ∷ (15, 1) ∷ (2, 0) ∷ []
unfolding computing ended ended_by ended_from endings lookup_after_delete
lookup_checks = refl

-- the last case marked P: the second check of worker 0's insert, the third of worker 1's
pub second_pass_checks : endings second_pass ≡ (15, 1) ∷ (15, 1) ∷ (29, 2) ∷ (43, 3) ∷ []
unfolding computing ended ended_by ended_from endings second_pass
second_pass_checks = refl

pub fourth_check_checks : endings fourth-check ≡ (17, 1) ∷ (17, 1) ∷ (35, 2) ∷ (17, 1) ∷ (69, 4) ∷ []
unfolding computing ended ended_by ended_from endings fourth-check
fourth_check_checks = refl
