-- Rows with posts (document 02, No. 1), each proved by computing it: what a post answers and leaves, and orders that tell a wrong post
-- apart. Rests on the table of cases.
use mathlib.Core.Path.{refl}
use mathlib.Core.List.{List, [], ◌∷◌}
use lib.IntN.{pos, neg_ℤ}
use Rattle.interface.specs.declared.Answer.TheVariants.{Added, Replaced, Removed, Absent, Found, Posted, Crowded, Overrun}
use Rattle.machine.specs.Computing.{computing}
use Rattle.machine.specs.Script.{O, I, D, L, P, S, T, ok, moved, answered, listed}
use Rattle.machine.proofs.Cases.{Case, Row, Right, ⟨◌⟩, ◌⟶◌, driver_case, case_rows, AllRows, all_right}

-- "the amount is added to the account's total, an account not there starts from 0 and is made, also by an amount of 0, and the answer
-- is posted with the new total"
unfoldable pub posts_answered : Case
unfolding computing
posts_answered =
    driver_case (
    O 1 2 1 ⟶ ok ∷ P 0 5 (pos 700) ⟶ ok ∷ S 0 99 ⟶ answered (Posted (pos 700)) 13 ∷ P 0 5 (neg_ℤ (pos 50)) ⟶ ok
    ∷ S 0 99 ⟶ answered (Posted (pos 650)) 13 ∷ P 0 6 (pos 0) ⟶ ok ∷ T ⟶ listed ((5, pos 650) ∷ [])
    ∷ S 0 99 ⟶ answered (Posted (pos 0)) 13 ∷ T ⟶ listed ((5, pos 650) ∷ (6, pos 0) ∷ []) ∷ [])
    refl

-- after a delete a post starts from 0, after an insert from its total
unfoldable pub posts_between_others : Case
unfolding computing
posts_between_others =
    driver_case (
    O 1 3 1 ⟶ ok ∷ P 0 5 (pos 700) ⟶ ok ∷ S 0 99 ⟶ answered (Posted (pos 700)) 13 ∷ D 0 5 ⟶ ok ∷ S 0 99 ⟶ answered Removed 13
    ∷ P 0 5 (pos 3) ⟶ ok ∷ S 0 99 ⟶ answered (Posted (pos 3)) 13 ∷ I 0 5 (pos 40) ⟶ ok ∷ S 0 99 ⟶ answered Replaced 13
    ∷ P 0 5 (pos 2) ⟶ ok ∷ S 0 99 ⟶ answered (Posted (pos 42)) 13 ∷ L 0 5 ⟶ ok ∷ S 0 99 ⟶ answered (Found (pos 42)) 2 ∷ [])
    refl

-- "A sum outside the 64-bit signed range is turned down and the table stays as before"; an overrun is settled, also where another worker
-- carries it out
unfoldable pub overrun_at_both_ends : Case
unfolding computing
overrun_at_both_ends =
    driver_case (
    O 2 3 1 ⟶ ok ∷ P 0 5 (pos 9_223_372_036_854_775_807) ⟶ ok ∷ S 0 3 ⟶ moved 3 ∷ P 1 6 (neg_ℤ (pos 9_223_372_036_854_775_808)) ⟶ ok
    ∷ S 1 15 ⟶ answered (Posted (neg_ℤ (pos 9_223_372_036_854_775_808))) 15 ∷ P 1 5 (pos 1) ⟶ ok ∷ S 1 3 ⟶ moved 3
    ∷ S 0 12 ⟶ answered (Posted (pos 9_223_372_036_854_775_807)) 15 ∷ P 0 6 (neg_ℤ (pos 1)) ⟶ ok ∷ S 0 15 ⟶ answered Overrun 15
    ∷ S 1 12 ⟶ answered Overrun 15 ∷ P 0 5 (neg_ℤ (pos 9_223_372_036_854_775_808)) ⟶ ok ∷ S 0 15 ⟶ answered (Posted (neg_ℤ (pos 1))) 15
    ∷ P 1 6 (pos 9_223_372_036_854_775_807) ⟶ ok ∷ S 1 15 ⟶ answered (Posted (neg_ℤ (pos 1))) 15
    ∷ P 0 5 (neg_ℤ (pos 9_223_372_036_854_775_807)) ⟶ ok ∷ S 0 15 ⟶ answered (Posted (neg_ℤ (pos 9_223_372_036_854_775_808))) 15
    ∷ P 0 6 (neg_ℤ (pos 9_223_372_036_854_775_807)) ⟶ ok ∷ S 0 15 ⟶ answered (Posted (neg_ℤ (pos 9_223_372_036_854_775_808))) 15
    ∷ P 1 5 (neg_ℤ (pos 1)) ⟶ ok ∷ S 1 15 ⟶ answered Overrun 15
    ∷ T ⟶ listed ((5, neg_ℤ (pos 9_223_372_036_854_775_808)) ∷ (6, neg_ℤ (pos 9_223_372_036_854_775_808)) ∷ []) ∷ [])
    refl

-- A post that overruns on an account that is there is overrun, also among b neighbours. Overrun is "decided after crowded": of a new
-- account this shows for amounts outside the range alone, which no call has.
unfoldable pub crowded_before_overrun : Case
unfolding computing
crowded_before_overrun =
    driver_case (
    O 1 2 0 ⟶ ok ∷ I 0 ⟨ 5 ⟩ (pos 9_223_372_036_854_775_807) ⟶ ok ∷ S 0 13 ⟶ answered Added 13 ∷ I 0 ⟨ 6 ⟩ (pos 60) ⟶ ok
    ∷ S 0 13 ⟶ answered Added 13 ∷ P 0 ⟨ 5 ⟩ (pos 1) ⟶ ok ∷ S 0 13 ⟶ answered Overrun 13
    ∷ P 0 ⟨ 7 ⟩ (pos 9_223_372_036_854_775_808) ⟶ ok ∷ S 0 13 ⟶ answered Crowded 13 ∷ [])
    refl

-- Three workers post to one account at once, and one carries out all three: none is lost, and each is told the total of its own moment.
-- Then one is carried out by another's split. Tells apart: the helper's total told to the helped.
unfoldable pub posts_at_once : Case
unfolding computing
posts_at_once =
    driver_case (
    O 3 3 1 ⟶ ok ∷ P 0 ⟨ 5 ⟩ (pos 1) ⟶ ok ∷ S 0 3 ⟶ moved 3 ∷ P 1 ⟨ 5 ⟩ (pos 20) ⟶ ok ∷ S 1 3 ⟶ moved 3 ∷ P 2 ⟨ 5 ⟩ (pos 300) ⟶ ok
    ∷ S 2 3 ⟶ moved 3
    ∷ S 1 6 ⟶ moved 6 ∷ T ⟶ listed ((⟨ 5 ⟩, pos 321) ∷ []) ∷ S 0 99 ⟶ answered (Posted (pos 1)) 17 ∷ S 2 99 ⟶ answered (Posted (pos 321)) 17
    ∷ S 1 99 ⟶ answered (Posted (pos 21)) 17 ∷ I 0 ⟨ 6 ⟩ (pos 60) ⟶ ok ∷ S 0 99 ⟶ answered Added 17 ∷ I 0 ⟨ 7 ⟩ (pos 70) ⟶ ok
    ∷ S 0 99 ⟶ answered Added 17 ∷ P 2 ⟨ 2_147_483_648 ⟩ (pos 4_000) ⟶ ok ∷ S 2 1 ⟶ moved 1 ∷ P 0 ⟨ 2_147_483_648 ⟩ (pos 50_000) ⟶ ok
    ∷ S 0 99 ⟶ answered (Posted (pos 50_000)) 35
    ∷ T ⟶ listed ((⟨ 5 ⟩, pos 321) ∷ (⟨ 6 ⟩, pos 60) ∷ (⟨ 7 ⟩, pos 70) ∷ (⟨ 2_147_483_648 ⟩, pos 54_000) ∷ [])
    ∷ S 2 99 ⟶ answered (Posted (pos 54_000)) 17
    ∷ T ⟶ listed ((⟨ 5 ⟩, pos 321) ∷ (⟨ 6 ⟩, pos 60) ∷ (⟨ 7 ⟩, pos 70) ∷ (⟨ 2_147_483_648 ⟩, pos 54_000) ∷ []) ∷ [])
    refl

-- A post that another worker's split has carried out is not carried out again by its own worker.
unfoldable pub posted_not_twice : Case
unfolding computing
posted_not_twice =
    driver_case (
    O 2 2 1 ⟶ ok ∷ I 0 ⟨ 5 ⟩ (pos 50) ⟶ ok ∷ S 0 15 ⟶ answered Added 15 ∷ I 0 ⟨ 6 ⟩ (pos 60) ⟶ ok ∷ S 0 15 ⟶ answered Added 15
    ∷ P 1 ⟨ 2_147_483_648 ⟩ (pos 7) ⟶ ok ∷ S 1 1 ⟶ moved 1 ∷ D 0 ⟨ 2_147_483_649 ⟩ ⟶ ok ∷ S 0 29 ⟶ answered Absent 29
    ∷ S 1 14 ⟶ answered (Posted (pos 7)) 15 ∷ T ⟶ listed ((⟨ 5 ⟩, pos 50) ∷ (⟨ 6 ⟩, pos 60) ∷ (⟨ 2_147_483_648 ⟩, pos 7) ∷ []) ∷ [])
    refl

-- "The settled answer in a bucket state gets a total, copied wherever the answer is": to both halves of a split
unfoldable pub posted_total_in_both_halves : Case
unfolding computing
posted_total_in_both_halves =
    driver_case (
    O 2 2 1 ⟶ ok ∷ P 1 ⟨ 2_147_483_648 ⟩ (pos 80) ⟶ ok ∷ S 1 8 ⟶ moved 8 ∷ I 0 ⟨ 5 ⟩ (pos 50) ⟶ ok ∷ S 0 15 ⟶ answered Added 15
    ∷ I 0 ⟨ 6 ⟩ (pos 60) ⟶ ok ∷ S 0 29 ⟶ answered Added 29 ∷ S 1 7 ⟶ answered (Posted (pos 80)) 15 ∷ [])
    refl

-- "settled with its ticket": an overrun that was answered is not tried again when the sum would fit
unfoldable pub overrun_settled : Case
unfolding computing
overrun_settled =
    driver_case (
    O 2 2 1 ⟶ ok ∷ I 0 ⟨ 5 ⟩ (pos 9_223_372_036_854_775_807) ⟶ ok ∷ S 0 15 ⟶ answered Added 15 ∷ P 1 ⟨ 5 ⟩ (pos 1) ⟶ ok
    ∷ S 1 15 ⟶ answered Overrun 15 ∷ I 0 ⟨ 5 ⟩ (pos 0) ⟶ ok ∷ S 0 15 ⟶ answered Replaced 15 ∷ I 0 ⟨ 2_147_483_648 ⟩ (pos 80) ⟶ ok
    ∷ S 0 15 ⟶ answered Added 15 ∷ D 0 ⟨ 2_147_483_649 ⟩ ⟶ ok ∷ S 0 29 ⟶ answered Absent 29
    ∷ T ⟶ listed ((⟨ 5 ⟩, pos 0) ∷ (⟨ 2_147_483_648 ⟩, pos 80) ∷ []) ∷ [])
    refl

-- ---- the table

abbrev pub post_cases : List Case
post_cases =
    posts_answered ∷ posts_between_others ∷ overrun_at_both_ends ∷ crowded_before_overrun ∷ posts_at_once ∷ posted_not_twice
    ∷ posted_total_in_both_halves ∷ overrun_settled ∷ []

abbrev pub post_table : List Row
post_table = case_rows post_cases

-- Every row of the table is right.
pub post_table_right : AllRows Right post_table
post_table_right = all_right post_cases
