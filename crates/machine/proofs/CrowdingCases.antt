-- Rows of the rule of crowding (document 02, No. 2), each proved by computing it: what a full bucket at depth M takes, and orders that
-- tell a wrong rule apart. Rests on the table of cases.
use mathlib.Core.Path.{refl}
use mathlib.Core.List.{List, [], ◌∷◌, ◌++◌}
use lib.IntN.{pos}
use Rattle.interface.specs.declared.Answer.TheVariants.{Added, Replaced, Removed, Absent, Posted, Crowded}
use Rattle.machine.specs.Computing.{computing}
use Rattle.machine.specs.Script.{O, I, D, P, S, T, ok, moved, answered, listed}
use Rattle.machine.proofs.Cases.{Case, Row, Right, Exchange, ⟨◌⟩, ◌⟶◌, driver_case, ◌gets◌at◌, case_rows, AllRows, all_right}

-- "At depth M a full bucket now takes deletes, replacements and posts to accounts it holds. Crowded is left for a new account"; a delete
-- of an account that is not there is absent
unfoldable pub full_takes_changes : Case
unfolding computing
full_takes_changes =
    driver_case (
    O 1 2 0 ⟶ ok ∷ [] ++ I 0 ⟨ 5 ⟩ (pos 50) gets Added at 13 ++ I 0 ⟨ 6 ⟩ (pos 60) gets Added at 13
    ++ I 0 ⟨ 7 ⟩ (pos 70) gets Crowded at 13 ++ P 0 ⟨ 7 ⟩ (pos 0) gets Crowded at 13 ++ D 0 ⟨ 7 ⟩ gets Absent at 13
    ++ I 0 ⟨ 5 ⟩ (pos 51) gets Replaced at 13 ++ P 0 ⟨ 6 ⟩ (pos 5) gets Posted (pos 65) at 13
    ++ T ⟶ listed ((⟨ 5 ⟩, pos 51) ∷ (⟨ 6 ⟩, pos 65) ∷ []) ∷ [] ++ D 0 ⟨ 5 ⟩ gets Removed at 13
    ++ P 0 ⟨ 7 ⟩ (pos 71) gets Posted (pos 71) at 13
    ++ T ⟶ listed ((⟨ 6 ⟩, pos 65) ∷ (⟨ 7 ⟩, pos 71) ∷ []) ∷ [])
    refl

-- the same at depth M below the root: a split first, then the full half takes them
unfoldable pub full_half_takes_changes : Case
unfolding computing
full_half_takes_changes =
    driver_case (
    O 1 2 1 ⟶ ok ∷ [] ++ I 0 ⟨ 5 ⟩ (pos 50) gets Added at 13 ++ I 0 ⟨ 6 ⟩ (pos 60) gets Added at 13 ++ D 0 ⟨ 5 ⟩ gets Removed at 23
    ++ I 0 ⟨ 5 ⟩ (pos 51) gets Added at 13 ++ I 0 ⟨ 6 ⟩ (pos 61) gets Replaced at 13 ++ P 0 ⟨ 7 ⟩ (pos 1) gets Crowded at 13
    ++ P 0 ⟨ 5 ⟩ (pos 1) gets Posted (pos 52) at 13 ++ D 0 ⟨ 4 ⟩ gets Absent at 13
    ++ T ⟶ listed ((⟨ 5 ⟩, pos 52) ∷ (⟨ 6 ⟩, pos 61) ∷ []) ∷ [])
    refl

-- Two workers with accounts 5 and 6 in a full bucket at depth M.
abbrev two_neighbours : List Exchange
two_neighbours = O 2 2 0 ⟶ ok ∷ [] ++ I 0 ⟨ 5 ⟩ (pos 50) gets Added at 15 ++ I 0 ⟨ 6 ⟩ (pos 60) gets Added at 15

-- Crowded "is settled with its ticket like any other answer": room made before its worker reads the answer changes nothing.
unfoldable pub crowded_is_settled : Case
unfolding computing
crowded_is_settled =
    driver_case (
    two_neighbours ++ I 1 ⟨ 7 ⟩ (pos 70) ⟶ ok ∷ S 1 8 ⟶ moved 8 ∷ [] ++ D 0 ⟨ 5 ⟩ gets Removed at 15
    ++ S 1 99 ⟶ answered Crowded 15 ∷ T ⟶ listed ((⟨ 6 ⟩, pos 60) ∷ []) ∷ [])
    refl

-- In one swap, in worker order: worker 0's delete makes room for worker 1's insert; worker 0's insert is crowded though worker 1 deletes.
unfoldable pub delete_then_insert : Case
unfolding computing
delete_then_insert =
    driver_case (
    two_neighbours ++ D 0 ⟨ 5 ⟩ ⟶ ok ∷ S 0 3 ⟶ moved 3 ∷ I 1 ⟨ 7 ⟩ (pos 70) ⟶ ok ∷ S 1 99 ⟶ answered Added 15 ∷ S 0 99 ⟶ answered Removed 15
    ∷ I 0 ⟨ 8 ⟩ (pos 80) ⟶ ok ∷ S 0 3 ⟶ moved 3 ∷ D 1 ⟨ 7 ⟩ ⟶ ok ∷ S 1 99 ⟶ answered Removed 15 ∷ S 0 99 ⟶ answered Crowded 15
    ∷ T ⟶ listed ((⟨ 6 ⟩, pos 60) ∷ []) ∷ [])
    refl

-- A round that helps replaces and posts to accounts of a full bucket, and settles the third worker's new account as crowded.
unfoldable pub helped_among_neighbours : Case
unfolding computing
helped_among_neighbours =
    driver_case (
    O 3 2 0 ⟶ ok ∷ [] ++ I 0 ⟨ 5 ⟩ (pos 50) gets Added at 17 ++ I 0 ⟨ 6 ⟩ (pos 60) gets Added at 17
    ++ I 0 ⟨ 5 ⟩ (pos 51) ⟶ ok ∷ S 0 3 ⟶ moved 3 ∷ P 1 ⟨ 7 ⟩ (pos 7) ⟶ ok ∷ S 1 3 ⟶ moved 3 ∷ P 2 ⟨ 6 ⟩ (pos 5) ⟶ ok
    ∷ S 2 99 ⟶ answered (Posted (pos 65)) 17 ∷ T ⟶ listed ((⟨ 5 ⟩, pos 51) ∷ (⟨ 6 ⟩, pos 65) ∷ []) ∷ S 0 99 ⟶ answered Replaced 17
    ∷ S 1 99 ⟶ answered Crowded 17 ∷ [])
    refl

-- What holds back is tested on the copy: worker 0's insert fills it, and worker 1's waits for the split.
unfoldable pub held_back_on_the_copy : Case
unfolding computing
held_back_on_the_copy =
    driver_case (
    O 2 2 1 ⟶ ok ∷ [] ++ I 0 ⟨ 5 ⟩ (pos 50) gets Added at 15 ++ I 0 ⟨ 6 ⟩ (pos 60) ⟶ ok ∷ S 0 3 ⟶ moved 3
    ∷ I 1 ⟨ 2_147_483_648 ⟩ (pos 1) ⟶ ok ∷ S 1 99 ⟶ answered Added 29 ∷ [])
    refl

-- a directory swap settles crowded too, and it is settled in both halves
unfoldable pub crowded_by_a_split : Case
unfolding computing
crowded_by_a_split =
    driver_case (
    O 2 2 1 ⟶ ok ∷ [] ++ I 0 ⟨ 5 ⟩ (pos 50) gets Added at 15 ++ I 0 ⟨ 6 ⟩ (pos 60) gets Added at 15
    ++ I 1 ⟨ 7 ⟩ (pos 70) ⟶ ok ∷ S 1 1 ⟶ moved 1 ∷ I 0 ⟨ 2_147_483_648 ⟩ (pos 1) ⟶ ok ∷ S 0 99 ⟶ answered Added 29 ∷ []
    ++ D 0 ⟨ 5 ⟩ gets Removed at 15
    ++ S 1 99 ⟶ answered Crowded 15 ∷ T ⟶ listed ((⟨ 6 ⟩, pos 60) ∷ (⟨ 2_147_483_648 ⟩, pos 1) ∷ []) ∷ [])
    refl

-- ---- the table

abbrev pub crowding_cases : List Case
crowding_cases =
    full_takes_changes ∷ full_half_takes_changes ∷ crowded_is_settled ∷ delete_then_insert ∷ helped_among_neighbours
    ∷ held_back_on_the_copy ∷ crowded_by_a_split ∷ []

abbrev pub crowding_table : List Row
crowding_table = case_rows crowding_cases

-- Every row of the table is right.
pub crowding_table_right : AllRows Right crowding_table
crowding_table_right = all_right crowding_cases
