-- Rows of the places of accounts (document 02, No. 8), each proved by computing it: accounts numbered from 1000 up, and rows that a
-- machine which places an account by its number fails. 01's own cases do not tell the two apart. Rests on the table of cases.
use mathlib.Core.Path.{◌≡◌, refl}
use mathlib.Core.List.{List, [], ◌∷◌, ◌++◌, map}
use lib.IntN.{pos}
use Rattle.interface.specs.declared.Answer.TheVariants.{Added, Removed, Posted, Crowded}
use Rattle.machine.specs.Sequential.{place, account_at}
use Rattle.machine.specs.Computing.{computing}
use Rattle.machine.specs.Script.{O, I, D, P, S, T, ok, moved, answered, listed}
use Rattle.machine.proofs.Cases.{Case, Row, Right, ⟨◌⟩, ◌⟶◌, driver_case, ◌gets◌at◌, case_rows, AllRows, all_right}

-- ---- the accounts of 01's cases

-- "the accounts whose places are the numbers given there"
pub accounts_of_the_cases :
    map account_at (5 ∷ 6 ∷ 7 ∷ 9 ∷ 2_147_483_648 ∷ 2_147_483_649 ∷ [])
    ≡ 1_220_013_205 ∷ 1_464_015_846 ∷ 1_708_018_487 ∷ 2_196_023_769 ∷ 2_147_483_648 ∷ 2_391_486_289 ∷ []
unfolding account_at
accounts_of_the_cases = refl

pub places_of_the_cases :
    map place (1_220_013_205 ∷ 1_464_015_846 ∷ 1_708_018_487 ∷ 2_196_023_769 ∷ 2_147_483_648 ∷ 2_391_486_289 ∷ [])
    ≡ 5 ∷ 6 ∷ 7 ∷ 9 ∷ 2_147_483_648 ∷ 2_147_483_649 ∷ []
unfolding place
places_of_the_cases = refl

-- the places of 1000 to 1004: their first bits are 0, 1, 0, 1 and 1
pub places_from_1000 :
    map place (1_000 ∷ 1_001 ∷ 1_002 ∷ 1_003 ∷ 1_004 ∷ [])
    ≡ 145_972_072 ∷ 2_800_407_833 ∷ 1_159_876_298 ∷ 3_814_312_059 ∷ 2_173_780_524 ∷ []
unfolding place
places_from_1000 = refl

-- ---- rows

-- "Wholesalers number accounts from 1000 up, so all of them share their first bits": by number 1002 would be crowded. "Listing and image
-- keep real numbers": by place 1002 would stand before 1001.
unfoldable pub numbered_from_1000 : Case
unfolding computing
numbered_from_1000 =
    driver_case (
    O 1 2 1 ⟶ ok ∷ [] ++ I 0 1_000 (pos 10) gets Added at 13 ++ I 0 1_001 (pos 11) gets Added at 13 ++ I 0 1_002 (pos 12) gets Added at 23
    ++ P 0 1_003 (pos 13) gets Posted (pos 13) at 13
    ++ T ⟶ listed ((1_000, pos 10) ∷ (1_001, pos 11) ∷ (1_002, pos 12) ∷ (1_003, pos 13) ∷ []) ∷ [] ++ I 0 1_004 (pos 14) gets Crowded at 13
    ++ D 0 1_001 gets Removed at 13 ++ I 0 1_004 (pos 14) gets Added at 13
    ++ T ⟶ listed ((1_000, pos 10) ∷ (1_002, pos 12) ∷ (1_003, pos 13) ∷ (1_004, pos 14) ∷ []) ∷ [])
    refl

-- "Crowding now compares places": by number ⟨ 9 ⟩ has another first bit, and ⟨ 7 ⟩ would be added
unfoldable pub crowded_by_places : Case
unfolding computing
crowded_by_places =
    driver_case (
    O 1 2 1 ⟶ ok ∷ [] ++ I 0 ⟨ 5 ⟩ (pos 50) gets Added at 13 ++ I 0 ⟨ 9 ⟩ (pos 90) gets Added at 13 ++ I 0 ⟨ 7 ⟩ (pos 70) gets Crowded at 23
    ++ T ⟶ listed ((⟨ 5 ⟩, pos 50) ∷ (⟨ 9 ⟩, pos 90) ∷ []) ∷ [])
    refl

-- Two workers, accounts from 1000 up: worker 1's bucket is split by worker 0's directory swap, and its third check answers. By number
-- both updates would be crowded.
unfoldable pub third_check_from_1000 : Case
unfolding computing
third_check_from_1000 =
    driver_case (
    O 2 2 1 ⟶ ok ∷ [] ++ I 0 1_000 (pos 10) gets Added at 15 ++ I 0 1_005 (pos 15) gets Added at 15
    ++ I 0 1_001 (pos 11) ⟶ ok ∷ S 0 20 ⟶ moved 20 ∷ I 1 1_003 (pos 13) ⟶ ok ∷ S 1 13 ⟶ moved 13 ∷ S 0 99 ⟶ answered Added 29
    ∷ S 1 99 ⟶ answered Added 43 ∷ T ⟶ listed ((1_000, pos 10) ∷ (1_001, pos 11) ∷ (1_003, pos 13) ∷ (1_005, pos 15) ∷ []) ∷ [])
    refl

-- ---- the table

abbrev pub placing_cases : List Case
placing_cases = numbered_from_1000 ∷ crowded_by_places ∷ third_check_from_1000 ∷ []

abbrev pub placing_table : List Row
placing_table = case_rows placing_cases

-- Every row of the table is right.
pub placing_table_right : AllRows Right placing_table
placing_table_right = all_right placing_cases
