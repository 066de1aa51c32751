-- The table of cases: scripts of `totals` lines with the replies that the machine gives, each proved by computing it. A row cites
-- the sentence of document 01 that it shows, or says which wrong machine it tells apart. Rests on the script language.
use Prim.Native.Nat.{ℕ}
use mathlib.Core.Path.{◌≡◌, refl}
use mathlib.Core.List.{List, [], ◌∷◌, ◌++◌}
use Rattle.std.specs.Prelude.{Option, Some, None}
use lib.IntN.{pos, neg_ℤ}
use Rattle.interface.specs.declared.Answer.{Answer}
use Rattle.interface.specs.declared.Answer.TheVariants.{Added, Replaced, Removed, Absent, Found, Crowded}
use Rattle.interface.specs.declared.Answer.TheVariants as Answer
use Rattle.machine.specs.Sequential.{account_at}
use Rattle.machine.specs.Computing.{computing}
use Rattle.machine.specs.Script.{Line, O, I, D, L, P, S, T, Reply, ok, refused, moved, answered, listed}
use Rattle.machine.specs.Script.{Memory, zeros, holding, Lent, driver, run, memory_after}

-- ---- rows

pub record Row : Type 0 where
  pub lent : Lent
  pub script : List Line
  pub replies : List Reply

abbrev pub Right : Row → Type 0
Right r = run r.lent r.script ≡ r.replies

-- A row with its proof: it cannot be written down unless it is right.
pub record Case : Type 0 where
  pub row : Row
  pub right : Right row

-- "Left the input, right the output": a line and its reply
abbrev pub Exchange : Type 0
Exchange = Line × Reply

infix 70 ◌⟶◌
abbrev pub ◌⟶◌ : Line → Reply → Exchange
l ⟶ r = (l, r)

abbrev pub lines : List Exchange → List Line
lines [] = []
lines (e ∷ es) = e.0 ∷ lines es

abbrev pub replies_of : List Exchange → List Reply
replies_of [] = []
replies_of (e ∷ es) = e.1 ∷ replies_of es

abbrev pub lent_case : (l : Lent) (es : List Exchange) → run l (lines es) ≡ replies_of es → Case
lent_case l es e = record { row = record { lent = l; script = lines es; replies = replies_of es }; right = e }

-- what the program lends
abbrev pub driver_case : (es : List Exchange) → run driver (lines es) ≡ replies_of es → Case
driver_case es e = lent_case driver es e

abbrev pub worker_of : Line → ℕ
worker_of (O n b M) = 0
worker_of (I w a v) = w
worker_of (D w a) = w
worker_of (L w a) = w
worker_of (P w a v) = w
worker_of (S w k) = w
worker_of T = 0

-- a call that is accepted, and as many steps of its worker as its answer takes
infix 66 ◌gets◌at◌
abbrev pub ◌gets◌at◌ : Line → Answer → ℕ → List Exchange
l gets a at k = l ⟶ ok ∷ S (worker_of l) 99 ⟶ answered a k ∷ []

-- "the splitting cases of 01 are run with the accounts whose places are the numbers given there" (02, No. 8): ⟨ 5 ⟩ is the account
-- whose place is 5
infix 80 ⟨◌⟩
abbrev pub ⟨◌⟩ : ℕ → ℕ
⟨ p ⟩ = account_at p

-- "What a case holds at its start was inserted by worker 0, each insert answered." One worker, or two; b 2, M 1.
abbrev pub one_holding_5_6 : List Exchange
one_holding_5_6 = O 1 2 1 ⟶ ok ∷ [] ++ I 0 ⟨ 5 ⟩ (pos 50) gets Added at 13 ++ I 0 ⟨ 6 ⟩ (pos 60) gets Added at 13

abbrev pub two_holding_5_6 : List Exchange
two_holding_5_6 = O 2 2 1 ⟶ ok ∷ [] ++ I 0 ⟨ 5 ⟩ (pos 50) gets Added at 15 ++ I 0 ⟨ 6 ⟩ (pos 60) gets Added at 15

-- ---- "Tried by hand; P is to be proved": the cases marked P, in their order

-- "P: n 0, n 9, b 1, b 17, M 9: 1."
unfoldable pub settings_out_of_range : Case
unfolding computing
settings_out_of_range =
    driver_case (O 0 2 1 ⟶ refused 1 ∷ O 9 2 1 ⟶ refused 1 ∷ O 1 1 1 ⟶ refused 1 ∷ O 1 17 1 ⟶ refused 1 ∷ O 1 2 9 ⟶ refused 1 ∷ O 1 2 0 ⟶ ok
    ∷ []) refl

-- "n 8, b 16, M 8 over the words needed: opened."
unfoldable pub greatest_settings : Case
unfolding computing
greatest_settings = lent_case (record { words = 17_305; accounts = 0; totals = 0 }) (O 8 16 8 ⟶ ok ∷ T ⟶ listed [] ∷ []) refl

-- "2 short: fewer words lent than needed"; 1 is checked before 2
unfoldable pub one_word_short : Case
unfolding computing
one_word_short =
    lent_case (record { words = 17_304; accounts = 0; totals = 0 }) (O 8 16 8 ⟶ refused 2 ∷ O 8 16 9 ⟶ refused 1 ∷ T ⟶ refused 8 ∷ []) refl

-- "P: a fresh table lists nothing, count 0."
unfoldable pub fresh_table : Case
unfolding computing
fresh_table = driver_case (O 2 2 1 ⟶ ok ∷ T ⟶ listed [] ∷ []) refl

-- "P: the session above."
unfoldable pub session_lines : Case
unfolding computing
session_lines =
    driver_case (
    O 1 2 1 ⟶ ok ∷ I 0 5 (pos 700) ⟶ ok ∷ S 0 12 ⟶ moved 12 ∷ S 0 9 ⟶ answered Added 13
    ∷ L 0 5 ⟶ ok ∷ S 0 2 ⟶ answered (Found (pos 700)) 2 ∷ T ⟶ listed ((5, pos 700) ∷ []) ∷ [])
    refl

-- "P: n 1, b 2, M 1, holding 5 and 6: insert 2147483648 is added in 23 steps. Then insert 7 is crowded in 13"; 02, No. 2: "delete 5 is
-- then removed, 13 steps."
unfoldable pub split_then_crowded : Case
unfolding computing
split_then_crowded =
    driver_case (
    one_holding_5_6 ++ I 0 ⟨ 2_147_483_648 ⟩ (pos 1) gets Added at 23 ++ I 0 ⟨ 7 ⟩ (pos 70) gets Crowded at 13
    ++ D 0 ⟨ 5 ⟩ gets Removed at 13
    ++ T ⟶ listed ((⟨ 6 ⟩, pos 60) ∷ (⟨ 2_147_483_648 ⟩, pos 1) ∷ []) ∷ [])
    refl

-- "P: same, but insert 7 straight after 5 and 6: crowded in 23, and the split stays": the next insert into the other half takes 13
-- steps. "9 ends the operation: the worker is idle again and the accounts are as before."
abbrev pub straight_after : List Exchange
straight_after = one_holding_5_6 ++ I 0 ⟨ 7 ⟩ (pos 70) gets Crowded at 23

unfoldable pub crowded_straight_after : Case
unfolding computing
crowded_straight_after =
    driver_case (
    straight_after ++ S 0 1 ⟶ refused 5 ∷ T ⟶ listed ((⟨ 5 ⟩, pos 50) ∷ (⟨ 6 ⟩, pos 60) ∷ []) ∷ []
    ++ I 0 ⟨ 2_147_483_648 ⟩ (pos 1) gets Added at 13
    ++ T ⟶ listed ((⟨ 5 ⟩, pos 50) ∷ (⟨ 6 ⟩, pos 60) ∷ (⟨ 2_147_483_648 ⟩, pos 1) ∷ []) ∷ [])
    refl

-- "P: call to a busy worker 4; step of an idle one 5; worker n 3." What is refused changes nothing: the update goes on.
unfoldable pub busy_idle_stranger : Case
unfolding computing
busy_idle_stranger =
    driver_case (
    O 2 2 1 ⟶ ok ∷ S 0 1 ⟶ refused 5 ∷ I 0 5 (pos 7) ⟶ ok ∷ S 0 3 ⟶ moved 3
    ∷ I 0 6 (pos 8) ⟶ refused 4 ∷ D 0 5 ⟶ refused 4 ∷ L 0 5 ⟶ refused 4
    ∷ I 2 5 (pos 7) ⟶ refused 3 ∷ D 2 5 ⟶ refused 3 ∷ L 2 5 ⟶ refused 3 ∷ S 2 1 ⟶ refused 3 ∷ S 1 1 ⟶ refused 5
    ∷ S 0 99 ⟶ answered Added 15 ∷ S 0 1 ⟶ refused 5 ∷ T ⟶ listed ((5, pos 7) ∷ []) ∷ [])
    refl

-- "P: n 2, b 2, M 1, holding 5. Worker 1 looks up 5, one step. Worker 0 deletes 5, 15 steps. Worker 1's second step: none."
unfoldable pub lookup_after_delete : Case
unfolding computing
lookup_after_delete =
    driver_case (
    O 2 2 1 ⟶ ok ∷ [] ++ I 0 5 (pos 50) gets Added at 15
    ++ L 1 5 ⟶ ok ∷ S 1 1 ⟶ moved 1 ∷ [] ++ D 0 5 gets Removed at 15 ++ S 1 1 ⟶ answered Answer.None 2 ∷ [])
    refl

-- "P: n 2, b 2, M 1, empty. Worker 1 calls insert 9, 3 steps. Worker 0 inserts 5, 15 steps. The listing has 5 and 9; worker 1
-- later gets added at 15."
unfoldable pub helped_update : Case
unfolding computing
helped_update =
    driver_case (
    O 2 2 1 ⟶ ok ∷ I 1 9 (pos 90) ⟶ ok ∷ S 1 3 ⟶ moved 3 ∷ [] ++ I 0 5 (pos 50) gets Added at 15
    ++ T ⟶ listed ((5, pos 50) ∷ (9, pos 90) ∷ []) ∷ S 1 99 ⟶ answered Added 15 ∷ [])
    refl

-- "P: n 2, b 2, M 1, holding 5 and 6. Worker 0 calls insert 2147483648, 20 steps. Worker 1 calls insert 2147483649, 13 steps.
-- Worker 0 ends: added, 29. Worker 1 ends: added, 43." Tells apart: stopping after one pass.
unfoldable pub second_pass : Case
unfolding computing
second_pass =
    driver_case (
    two_holding_5_6 ++ I 0 ⟨ 2_147_483_648 ⟩ (pos 1) ⟶ ok ∷ S 0 20 ⟶ moved 20 ∷ I 1 ⟨ 2_147_483_649 ⟩ (pos 2) ⟶ ok ∷ S 1 13 ⟶ moved 13
    ∷ S 0 99 ⟶ answered Added 29 ∷ S 1 99 ⟶ answered Added 43
    ∷ T ⟶ listed ((⟨ 5 ⟩, pos 50) ∷ (⟨ 6 ⟩, pos 60) ∷ (⟨ 2_147_483_648 ⟩, pos 1) ∷ (⟨ 2_147_483_649 ⟩, pos 2) ∷ []) ∷ [])
    refl

-- ---- numbers and lists. 6, kind, cannot come up in a script: its lines have no other kinds.

-- "8 .. always on memory of zeros", whatever is asked but an opening; a refused opening leaves the zeros
unfoldable pub memory_of_zeros : Case
unfolding computing
memory_of_zeros =
    driver_case (
    I 0 5 (pos 7) ⟶ refused 8 ∷ D 0 5 ⟶ refused 8 ∷ L 0 5 ⟶ refused 8 ∷ P 0 5 (pos 7) ⟶ refused 8 ∷ S 0 1 ⟶ refused 8
    ∷ T ⟶ refused 8 ∷ O 9 2 1 ⟶ refused 1 ∷ O 8 16 8 ⟶ refused 2 ∷ O 5 4 8 ⟶ refused 2 ∷ T ⟶ refused 8 ∷ O 8 12 7 ⟶ ok ∷ T ⟶ listed [] ∷ [])
    refl

-- "All but 9 change no memory": a refused opening leaves the table and the operation under way as they were. An accepted one
-- "overwrites what the memory held".
unfoldable pub refused_opening : Case
unfolding computing
refused_opening =
    driver_case (
    O 1 2 1 ⟶ ok ∷ [] ++ I 0 5 (pos 7) gets Added at 13
    ++ I 0 6 (pos 8) ⟶ ok ∷ S 0 5 ⟶ moved 5 ∷ O 0 2 1 ⟶ refused 1 ∷ O 8 16 8 ⟶ refused 2 ∷ T ⟶ listed ((5, pos 7) ∷ [])
    ∷ S 0 99 ⟶ answered Added 13
    ∷ O 2 3 2 ⟶ ok ∷ T ⟶ listed [] ∷ S 0 1 ⟶ refused 5 ∷ S 1 1 ⟶ refused 5 ∷ [])
    refl

-- "10 narrow: accounts or totals list shorter than the count": no place, one place or two for one account and then two
abbrev pub two_accounts : Reply → Reply → List Exchange
two_accounts first second =
    O 1 2 1 ⟶ ok ∷ T ⟶ listed [] ∷ [] ++ I 0 9 (pos 90) gets Added at 13 ++ T ⟶ first ∷ [] ++ I 0 5 (pos 50) gets Added at 13
    ++ T ⟶ second ∷ []

abbrev pub lists_of : ℕ → ℕ → Lent
lists_of x y = record { words = 8_192; accounts = x; totals = y }

unfoldable pub no_accounts : Case
unfolding computing
no_accounts = lent_case (lists_of 0 4_096) (two_accounts (refused 10) (refused 10)) refl

unfoldable pub no_totals : Case
unfolding computing
no_totals = lent_case (lists_of 4_096 0) (two_accounts (refused 10) (refused 10)) refl

unfoldable pub one_account : Case
unfolding computing
one_account = lent_case (lists_of 1 2) (two_accounts (listed ((9, pos 90) ∷ [])) (refused 10)) refl

unfoldable pub one_total : Case
unfolding computing
one_total = lent_case (lists_of 2 1) (two_accounts (listed ((9, pos 90) ∷ [])) (refused 10)) refl

unfoldable pub just_enough : Case
unfolding computing
just_enough = lent_case (lists_of 2 2) (two_accounts (listed ((9, pos 90) ∷ [])) (listed ((5, pos 50) ∷ (9, pos 90) ∷ []))) refl

-- "Insert answers added, or replaced where the account was there; delete answers removed or absent"; "answer found with the total, or none"
unfoldable pub every_answer : Case
unfolding computing
every_answer =
    driver_case (
    O 1 3 1 ⟶ ok ∷ [] ++ D 0 5 gets Absent at 13 ++ L 0 5 gets Answer.None at 2 ++ I 0 5 (pos 1) gets Added at 13 ++ I 0 4 (pos 3) gets Added at 13
    ++ I 0 5 (pos 2) gets Replaced at 13 ++ L 0 5 gets Found (pos 2) at 2 ++ D 0 6 gets Absent at 13
    ++ T ⟶ listed ((4, pos 3) ∷ (5, pos 2) ∷ []) ∷ []
    ++ D 0 5 gets Removed at 13 ++ L 0 5 gets Answer.None at 2 ++ T ⟶ listed ((4, pos 3) ∷ []) ∷ [])
    refl

-- "An account is a 32-bit unsigned number, a total a 64-bit signed number": both ends of both
unfoldable pub both_ends : Case
unfolding computing
both_ends =
    driver_case (
    O 1 2 1 ⟶ ok ∷ [] ++ I 0 4_294_967_295 (neg_ℤ (pos 9_223_372_036_854_775_808)) gets Added at 13
    ++ I 0 0 (pos 9_223_372_036_854_775_807) gets Added at 13
    ++ L 0 4_294_967_295 gets Found (neg_ℤ (pos 9_223_372_036_854_775_808)) at 2 ++ L 0 0 gets Found (pos 9_223_372_036_854_775_807) at 2
    ++ I 0 0 (neg_ℤ (pos 1)) gets Replaced at 23
    ++ T ⟶ listed ((0, neg_ℤ (pos 1)) ∷ (4_294_967_295, neg_ℤ (pos 9_223_372_036_854_775_808)) ∷ []) ∷ [])
    refl

-- ---- where an operation takes effect

-- An insert and a delete at the first swap, n 1: step 7. Tells apart: announcing that already applies the update.
unfoldable pub effect_at_swap : Case
unfolding computing
effect_at_swap =
    driver_case (
    O 1 2 1 ⟶ ok ∷ I 0 5 (pos 7) ⟶ ok ∷ S 0 6 ⟶ moved 6 ∷ T ⟶ listed [] ∷ S 0 1 ⟶ moved 1 ∷ T ⟶ listed ((5, pos 7) ∷ [])
    ∷ S 0 99 ⟶ answered Added 13
    ∷ D 0 5 ⟶ ok ∷ S 0 6 ⟶ moved 6 ∷ T ⟶ listed ((5, pos 7) ∷ []) ∷ S 0 1 ⟶ moved 1 ∷ T ⟶ listed [] ∷ S 0 99 ⟶ answered Removed 13 ∷ [])
    refl

-- An insert that splits, at the swap of the directory, n 1: step 17.
unfoldable pub effect_at_directory_swap : Case
unfolding computing
effect_at_directory_swap =
    driver_case (
    one_holding_5_6 ++ I 0 ⟨ 2_147_483_648 ⟩ (pos 1) ⟶ ok ∷ S 0 16 ⟶ moved 16 ∷ T ⟶ listed ((⟨ 5 ⟩, pos 50) ∷ (⟨ 6 ⟩, pos 60) ∷ [])
    ∷ S 0 1 ⟶ moved 1 ∷ T ⟶ listed ((⟨ 5 ⟩, pos 50) ∷ (⟨ 6 ⟩, pos 60) ∷ (⟨ 2_147_483_648 ⟩, pos 1) ∷ []) ∷ S 0 99 ⟶ answered Added 23 ∷ [])
    refl

-- A lookup answers from the bucket that stood in the directory it read, also if that was split and the account deleted since.
-- Tells apart: a second step that reads the directory again.
unfoldable pub superseded_lookup : Case
unfolding computing
superseded_lookup =
    driver_case (
    O 2 2 1 ⟶ ok ∷ [] ++ I 0 ⟨ 5 ⟩ (pos 50) gets Added at 15 ++ I 0 ⟨ 2_147_483_648 ⟩ (pos 1) gets Added at 15
    ++ L 1 ⟨ 2_147_483_648 ⟩ ⟶ ok ∷ S 1 1 ⟶ moved 1 ∷ [] ++ I 0 ⟨ 6 ⟩ (pos 60) gets Added at 29 ++ D 0 ⟨ 2_147_483_648 ⟩ gets Removed at 15
    ++ S 1 1 ⟶ answered (Found (pos 1)) 2 ∷ [] ++ L 1 ⟨ 2_147_483_648 ⟩ gets Answer.None at 2)
    refl

-- ---- wrong machines: each row says what one would do instead

-- Full tested on the state that was read: 9 would be a third account in a bucket of two.
unfoldable pub full_on_the_copy : Case
unfolding computing
full_on_the_copy =
    driver_case (
    O 2 2 0 ⟶ ok ∷ [] ++ I 0 ⟨ 5 ⟩ (pos 50) gets Added at 15 ++ I 1 ⟨ 9 ⟩ (pos 90) ⟶ ok ∷ S 1 3 ⟶ moved 3 ∷ []
    ++ I 0 ⟨ 6 ⟩ (pos 60) gets Added at 15
    ++ T ⟶ listed ((⟨ 5 ⟩, pos 50) ∷ (⟨ 6 ⟩, pos 60) ∷ []) ∷ S 1 99 ⟶ answered Crowded 15 ∷ [])
    refl

-- Updates helped in another order than that of the workers: 5 would end with the total 1.
unfoldable pub worker_order : Case
unfolding computing
worker_order =
    driver_case (
    O 2 2 1 ⟶ ok ∷ I 0 5 (pos 1) ⟶ ok ∷ S 0 3 ⟶ moved 3 ∷ [] ++ I 1 5 (pos 2) gets Replaced at 15
    ++ S 0 99 ⟶ answered Added 15 ∷ T ⟶ listed ((5, pos 2) ∷ []) ∷ [])
    refl

-- An update carried out though its toggle bit equals its applied bit, or applied bits that a split does not reset: worker 0's insert 7,
-- announced only, would go into the other half's bucket and fill it, and worker 1 would be crowded.
unfoldable pub not_flipped : Case
unfolding computing
not_flipped =
    driver_case (
    two_holding_5_6 ++ I 0 ⟨ 2_147_483_648 ⟩ (pos 1) gets Added at 29 ++ I 0 ⟨ 7 ⟩ (pos 70) ⟶ ok ∷ S 0 1 ⟶ moved 1 ∷ []
    ++ I 1 ⟨ 2_147_483_649 ⟩ (pos 2) gets Added at 15
    ++ T ⟶ listed ((⟨ 5 ⟩, pos 50) ∷ (⟨ 6 ⟩, pos 60) ∷ (⟨ 2_147_483_648 ⟩, pos 1) ∷ (⟨ 2_147_483_649 ⟩, pos 2) ∷ [])
    ∷ S 0 99 ⟶ answered Crowded 15 ∷ [])
    refl

-- A bucket swap that succeeds late: worker 0 would take worker 1's 9 out again.
unfoldable pub late_bucket_swap : Case
unfolding computing
late_bucket_swap =
    driver_case (
    O 2 2 1 ⟶ ok ∷ I 0 5 (pos 50) ⟶ ok ∷ S 0 7 ⟶ moved 7 ∷ [] ++ I 1 9 (pos 90) gets Added at 15
    ++ S 0 1 ⟶ moved 1 ∷ T ⟶ listed ((5, pos 50) ∷ (9, pos 90) ∷ []) ∷ S 0 99 ⟶ answered Added 15 ∷ [])
    refl

-- One round in the bucket pass: worker 0's first swap fails against worker 1's, which read the toggle too early to help worker 0;
-- without the second, worker 0 would never be answered.
unfoldable pub second_bucket_round : Case
unfolding computing
second_bucket_round =
    driver_case (
    O 2 2 0 ⟶ ok ∷ I 1 5 (pos 50) ⟶ ok ∷ S 1 5 ⟶ moved 5 ∷ I 0 6 (pos 60) ⟶ ok ∷ S 0 7 ⟶ moved 7 ∷ S 1 3 ⟶ moved 3
    ∷ S 0 99 ⟶ answered Added 15 ∷ S 1 99 ⟶ answered Added 15 ∷ T ⟶ listed ((5, pos 50) ∷ (6, pos 60) ∷ []) ∷ [])
    refl

-- The toggle read before the state: worker 1's swap would set worker 0's applied bit back, and worker 0's next insert take 43 steps.
unfoldable pub state_before_toggle : Case
unfolding computing
state_before_toggle =
    driver_case (
    O 2 3 1 ⟶ ok ∷ I 1 9 (pos 90) ⟶ ok ∷ S 1 4 ⟶ moved 4 ∷ [] ++ I 0 5 (pos 50) gets Added at 15 ++ S 1 4 ⟶ moved 4 ∷ []
    ++ I 0 6 (pos 60) gets Added at 15 ++ S 1 99 ⟶ answered Added 15 ∷ T ⟶ listed ((5, pos 50) ∷ (6, pos 60) ∷ (9, pos 90) ∷ []) ∷ [])
    refl

-- A check that reads another worker's ticket: worker 1 would get added.
unfoldable pub own_answer : Case
unfolding computing
own_answer =
    driver_case (
    O 2 2 1 ⟶ ok ∷ [] ++ I 0 5 (pos 50) gets Added at 15 ++ D 1 5 gets Removed at 15 ++ I 1 5 (pos 51) gets Added at 15
    ++ I 0 5 (pos 52) gets Replaced at 15)
    refl

-- A delete let into a full bucket below depth M: "a split in progress brings the account back".
unfoldable pub delete_held_back : Case
unfolding computing
delete_held_back =
    driver_case (
    O 2 2 1 ⟶ ok ∷ [] ++ I 0 ⟨ 5 ⟩ (pos 50) gets Added at 15 ++ I 0 ⟨ 2_147_483_648 ⟩ (pos 1) gets Added at 15
    ++ I 1 ⟨ 6 ⟩ (pos 60) ⟶ ok ∷ S 1 20 ⟶ moved 20 ∷ [] ++ D 0 ⟨ 2_147_483_648 ⟩ gets Removed at 29
    ++ S 1 1 ⟶ moved 1 ∷ T ⟶ listed ((⟨ 5 ⟩, pos 50) ∷ (⟨ 6 ⟩, pos 60) ∷ []) ∷ S 1 99 ⟶ answered Added 29 ∷ [])
    refl

-- A directory swap that succeeds late: worker 0 would take worker 1's 2147483649 out again.
unfoldable pub late_directory_swap : Case
unfolding computing
late_directory_swap =
    driver_case (
    two_holding_5_6 ++ I 0 ⟨ 2_147_483_648 ⟩ (pos 1) ⟶ ok ∷ S 0 20 ⟶ moved 20 ∷ [] ++ I 1 ⟨ 7 ⟩ (pos 70) gets Crowded at 29
    ++ I 1 ⟨ 2_147_483_649 ⟩ (pos 2) gets Added at 15 ++ S 0 1 ⟶ moved 1
    ∷ T ⟶ listed ((⟨ 5 ⟩, pos 50) ∷ (⟨ 6 ⟩, pos 60) ∷ (⟨ 2_147_483_648 ⟩, pos 1) ∷ (⟨ 2_147_483_649 ⟩, pos 2) ∷ [])
    ∷ S 0 99 ⟶ answered Added 29 ∷ [])
    refl

-- "changed or not": worker 0's second swap changes nothing, and yet worker 1's, which would split, fails after it.
unfoldable pub unchanged_swap : Case
unfolding computing
unchanged_swap =
    driver_case (
    O 2 2 2 ⟶ ok ∷ [] ++ I 0 ⟨ 5 ⟩ (pos 50) gets Added at 15 ++ I 0 ⟨ 2_147_483_648 ⟩ (pos 1) gets Added at 15
    ++ I 0 ⟨ 6 ⟩ (pos 60) ⟶ ok ∷ S 0 26 ⟶ moved 26 ∷ I 1 ⟨ 1_073_741_824 ⟩ (pos 2) ⟶ ok ∷ S 1 20 ⟶ moved 20 ∷ S 0 1 ⟶ moved 1
    ∷ S 1 1 ⟶ moved 1
    ∷ T ⟶ listed ((⟨ 5 ⟩, pos 50) ∷ (⟨ 6 ⟩, pos 60) ∷ (⟨ 2_147_483_648 ⟩, pos 1) ∷ []) ∷ S 0 99 ⟶ answered Added 29
    ∷ S 1 99 ⟶ answered Added 29
    ∷ T ⟶ listed ((⟨ 1_073_741_824 ⟩, pos 2) ∷ (⟨ 5 ⟩, pos 50) ∷ (⟨ 6 ⟩, pos 60) ∷ (⟨ 2_147_483_648 ⟩, pos 1) ∷ []) ∷ [])
    refl

-- A state step of the directory pass that takes only its own worker's update, or takes them in another order: worker 1's
-- would be missing, or come first.
unfoldable pub every_update_of_the_bucket : Case
unfolding computing
every_update_of_the_bucket =
    driver_case (
    two_holding_5_6 ++ I 1 ⟨ 2_147_483_648 ⟩ (pos 2) ⟶ ok ∷ S 1 1 ⟶ moved 1 ∷ [] ++ I 0 ⟨ 2_147_483_648 ⟩ (pos 1) gets Added at 29
    ++ T ⟶ listed ((⟨ 5 ⟩, pos 50) ∷ (⟨ 6 ⟩, pos 60) ∷ (⟨ 2_147_483_648 ⟩, pos 2) ∷ []) ∷ S 1 99 ⟶ answered Replaced 15 ∷ [])
    refl

-- A directory pass that works from the slots of the bucket pass: worker 1's insert, announced in between, would be missing.
unfoldable pub slots_read_again : Case
unfolding computing
slots_read_again =
    driver_case (
    two_holding_5_6 ++ I 0 ⟨ 2_147_483_648 ⟩ (pos 1) ⟶ ok ∷ S 0 15 ⟶ moved 15 ∷ I 1 ⟨ 2_147_483_649 ⟩ (pos 2) ⟶ ok ∷ S 1 1 ⟶ moved 1
    ∷ S 0 99 ⟶ answered Added 29 ∷ T ⟶ listed ((⟨ 5 ⟩, pos 50) ∷ (⟨ 6 ⟩, pos 60) ∷ (⟨ 2_147_483_648 ⟩, pos 1)
    ∷ (⟨ 2_147_483_649 ⟩, pos 2) ∷ [])
    ∷ S 1 99 ⟶ answered Added 15 ∷ [])
    refl

-- The n slots of a directory round read in another order: worker 1's insert, announced between worker 0's reads of slot 0 and of
-- slot 1, would be missing. (In a bucket round no reply shows the order: a worker whose bit is seen flipped has announced, and
-- announces nothing else before a swap there has made this round's swap fail.)
unfoldable pub slots_in_worker_order : Case
unfolding computing
slots_in_worker_order =
    driver_case (
    two_holding_5_6 ++ I 0 ⟨ 2_147_483_648 ⟩ (pos 1) ⟶ ok ∷ S 0 17 ⟶ moved 17 ∷ I 1 ⟨ 2_147_483_649 ⟩ (pos 2) ⟶ ok ∷ S 1 1 ⟶ moved 1
    ∷ S 0 4 ⟶ moved 4 ∷ T ⟶ listed ((⟨ 5 ⟩, pos 50) ∷ (⟨ 6 ⟩, pos 60) ∷ (⟨ 2_147_483_648 ⟩, pos 1) ∷ (⟨ 2_147_483_649 ⟩, pos 2) ∷ []) ∷ [])
    refl

-- A directory pass that has a state step for its own worker only: worker 1's bucket would not be split.
abbrev pub two_splits : List Exchange
two_splits =
    O 2 2 2 ⟶ ok ∷ [] ++ I 0 ⟨ 5 ⟩ (pos 50) gets Added at 15 ++ I 0 ⟨ 2_147_483_648 ⟩ (pos 1) gets Added at 15
    ++ I 0 ⟨ 6 ⟩ (pos 60) gets Added at 29
    ++ I 0 ⟨ 2_147_483_649 ⟩ (pos 2) gets Added at 15 ++ I 1 ⟨ 3_221_225_472 ⟩ (pos 3) ⟶ ok ∷ S 1 1 ⟶ moved 1 ∷ []
    ++ I 0 ⟨ 1_073_741_824 ⟩ (pos 4) gets Added at 29

unfoldable pub a_step_per_worker : Case
unfolding computing
a_step_per_worker =
    driver_case (
    two_splits
    ++ T ⟶ listed ((⟨ 1_073_741_824 ⟩, pos 4) ∷ (⟨ 5 ⟩, pos 50) ∷ (⟨ 6 ⟩, pos 60) ∷ (⟨ 2_147_483_648 ⟩, pos 1)
    ∷ (⟨ 2_147_483_649 ⟩, pos 2) ∷ (⟨ 3_221_225_472 ⟩, pos 3) ∷ [])
    ∷ S 1 99 ⟶ answered Added 15 ∷ [])
    refl

-- A bucket made in this round that does not stand at all its entries: the upper half has depth 1 in a directory of depth 2.
unfoldable pub shallow_half : Case
unfolding computing
shallow_half =
    driver_case (
    O 2 2 2 ⟶ ok ∷ [] ++ I 0 ⟨ 5 ⟩ (pos 50) gets Added at 15 ++ I 0 ⟨ 6 ⟩ (pos 60) gets Added at 15
    ++ I 1 ⟨ 2_147_483_648 ⟩ (pos 2) ⟶ ok ∷ S 1 1 ⟶ moved 1 ∷ []
    ++ I 0 ⟨ 1_073_741_824 ⟩ (pos 1) gets Added at 29
    ++ T ⟶ listed ((⟨ 1_073_741_824 ⟩, pos 1) ∷ (⟨ 5 ⟩, pos 50) ∷ (⟨ 6 ⟩, pos 60) ∷ (⟨ 2_147_483_648 ⟩, pos 2) ∷ [])
    ∷ [] ++ I 0 ⟨ 3_221_225_472 ⟩ (pos 3) gets Added at 15 ++ L 0 ⟨ 2_147_483_648 ⟩ gets Found (pos 2) at 2 ++ S 1 99 ⟶ answered Added 15
    ∷ [])
    refl

-- Settled tickets not copied to one half: worker 1 would insert 2147483648 again, or worker 2 be crowded.
unfoldable pub settled_in_both_halves : Case
unfolding computing
settled_in_both_halves =
    driver_case (
    O 3 2 1 ⟶ ok ∷ I 1 ⟨ 2_147_483_648 ⟩ (pos 1) ⟶ ok ∷ S 1 3 ⟶ moved 3 ∷ I 2 ⟨ 5 ⟩ (pos 50) ⟶ ok ∷ S 2 3 ⟶ moved 3 ∷ []
    ++ D 0 ⟨ 9 ⟩ gets Absent at 17 ++ I 0 ⟨ 6 ⟩ (pos 60) gets Added at 35 ++ D 0 ⟨ 2_147_483_648 ⟩ gets Removed at 17
    ++ S 1 99 ⟶ answered Added 17 ∷ S 2 99 ⟶ answered Added 17 ∷ T ⟶ listed ((⟨ 5 ⟩, pos 50) ∷ (⟨ 6 ⟩, pos 60) ∷ []) ∷ [])
    refl

-- A state step that does not ask whether the ticket is settled: it would make the upper bucket anew, though nothing is to be carried
-- out there, and worker 1's late swap would take 3221225472 out again.
unfoldable pub settled_makes_nothing : Case
unfolding computing
settled_makes_nothing =
    driver_case (
    O 3 3 2 ⟶ ok ∷ [] ++ I 0 ⟨ 5 ⟩ (pos 50) gets Added at 17 ++ I 0 ⟨ 6 ⟩ (pos 60) gets Added at 17
    ++ I 0 ⟨ 2_147_483_648 ⟩ (pos 1) gets Added at 17
    ++ I 0 ⟨ 7 ⟩ (pos 70) gets Added at 35 ++ I 1 ⟨ 2_147_483_649 ⟩ (pos 2) ⟶ ok ∷ S 1 8 ⟶ moved 8 ∷ []
    ++ I 2 ⟨ 3_221_225_472 ⟩ (pos 3) gets Added at 17
    ++ I 0 ⟨ 1_073_741_824 ⟩ (pos 4) gets Added at 35 ++ S 1 1 ⟶ moved 1 ∷ L 0 ⟨ 3_221_225_472 ⟩ ⟶ ok ∷ S 0 99 ⟶ answered (Found (pos 3)) 2
    ∷ S 1 99 ⟶ answered Added 17 ∷ [])
    refl

-- "settled .. when that number is not below it", and a machine that wants it equal: worker 0 has read worker 1's first insert from its
-- slot, and would carry it out again after worker 1's third, setting 2147483648 back to 2.
unfoldable pub settled_by_a_later_ticket : Case
unfolding computing
settled_by_a_later_ticket =
    driver_case (
    O 2 2 2 ⟶ ok ∷ [] ++ I 0 ⟨ 5 ⟩ (pos 50) gets Added at 15 ++ I 0 ⟨ 6 ⟩ (pos 60) gets Added at 15
    ++ I 0 ⟨ 2_147_483_648 ⟩ (pos 1) gets Added at 29
    ++ I 1 ⟨ 2_147_483_648 ⟩ (pos 2) ⟶ ok ∷ S 1 1 ⟶ moved 1 ∷ I 0 ⟨ 1_073_741_824 ⟩ (pos 5) ⟶ ok ∷ S 0 18 ⟶ moved 18
    ∷ S 1 99 ⟶ answered Replaced 15
    ∷ []
    ++ I 1 ⟨ 2_147_483_648 ⟩ (pos 3) gets Replaced at 15 ++ I 1 ⟨ 3_221_225_472 ⟩ (pos 4) gets Added at 15 ++ S 0 99 ⟶ answered Added 29
    ∷ T ⟶ listed ((⟨ 1_073_741_824 ⟩, pos 5) ∷ (⟨ 5 ⟩, pos 50) ∷ (⟨ 6 ⟩, pos 60) ∷ (⟨ 2_147_483_648 ⟩, pos 3)
    ∷ (⟨ 3_221_225_472 ⟩, pos 4) ∷ []) ∷ [])
    refl

-- "its bucket is split while full and below depth M": one split would not do
unfoldable pub split_while_full : Case
unfolding computing
split_while_full =
    driver_case (
    O 1 2 3 ⟶ ok ∷ [] ++ I 0 ⟨ 5 ⟩ (pos 50) gets Added at 13 ++ I 0 ⟨ 6 ⟩ (pos 60) gets Added at 13
    ++ I 0 ⟨ 536_870_912 ⟩ (pos 1) gets Added at 23
    ++ I 0 ⟨ 7 ⟩ (pos 70) gets Crowded at 13 ++ L 0 ⟨ 5 ⟩ gets Found (pos 50) at 2
    ++ T ⟶ listed ((⟨ 536_870_912 ⟩, pos 1) ∷ (⟨ 5 ⟩, pos 50) ∷ (⟨ 6 ⟩, pos 60) ∷ []) ∷ [])
    refl

-- A directory of depth 1 doubled without moving its entries: the other half would be lost.
unfoldable pub doubled_directory : Case
unfolding computing
doubled_directory =
    driver_case (
    O 1 2 2 ⟶ ok ∷ [] ++ I 0 ⟨ 5 ⟩ (pos 50) gets Added at 13 ++ I 0 ⟨ 2_147_483_648 ⟩ (pos 1) gets Added at 13
    ++ I 0 ⟨ 6 ⟩ (pos 60) gets Added at 23
    ++ I 0 ⟨ 2_147_483_648 ⟩ (pos 3) gets Replaced at 13 ++ I 0 ⟨ 1_073_741_824 ⟩ (pos 2) gets Added at 23
    ++ L 0 ⟨ 2_147_483_648 ⟩ gets Found (pos 3) at 2
    ++ T ⟶ listed ((⟨ 1_073_741_824 ⟩, pos 2) ∷ (⟨ 5 ⟩, pos 50) ∷ (⟨ 6 ⟩, pos 60) ∷ (⟨ 2_147_483_648 ⟩, pos 3) ∷ []) ∷ [])
    refl

-- One round in the directory pass: worker 0 is answered at the fourth check, and there only because of the second round. On a machine
-- that places by number it would be added at its third.
unfoldable pub fourth-check : Case
unfolding computing
fourth-check =
    driver_case (
    O 3 2 2 ⟶ ok ∷ [] ++ I 2 ⟨ 0 ⟩ (pos 7) gets Added at 17 ++ I 2 ⟨ 2_147_483_648 ⟩ (pos 7) gets Added at 17
    ++ I 2 ⟨ 2_214_592_512 ⟩ (pos 7) ⟶ ok ∷ S 2 24 ⟶ moved 24 ∷ I 0 ⟨ 67_108_864 ⟩ (pos 7) ⟶ ok ∷ S 0 2 ⟶ moved 2
    ∷ I 1 ⟨ 3_355_443_200 ⟩ (pos 7) ⟶ ok ∷ S 1 2 ⟶ moved 2 ∷ S 2 1 ⟶ moved 1 ∷ S 1 15 ⟶ moved 15 ∷ S 0 33 ⟶ moved 33 ∷ S 1 7 ⟶ moved 7
    ∷ S 2 99 ⟶ answered Added 35 ∷ [] ++ I 2 ⟨ 134_217_728 ⟩ (pos 7) gets Added at 17
    ++ S 0 17 ⟶ moved 17 ∷ S 1 1 ⟶ moved 1 ∷ S 0 99 ⟶ answered Crowded 69 ∷ [])
    refl

-- ---- the table

abbrev pub case_rows : List Case → List Row
case_rows [] = []
case_rows (c ∷ cs) = c.row ∷ case_rows cs

abbrev pub AllRows : (Row → Type 0) → List Row → Type 0
AllRows Q [] = Unit {0}
AllRows Q (r ∷ rs) = Q r × AllRows Q rs

pub all_right : (cs : List Case) → AllRows Right (case_rows cs)
all_right [] = tt
all_right (c ∷ cs) = (c.right, all_right cs)

abbrev pub cases : List Case
cases =
    settings_out_of_range ∷ greatest_settings ∷ one_word_short ∷ fresh_table ∷ session_lines ∷ split_then_crowded ∷ crowded_straight_after
    ∷ busy_idle_stranger ∷ lookup_after_delete ∷ helped_update ∷ second_pass
    ∷ memory_of_zeros ∷ refused_opening ∷ no_accounts ∷ no_totals ∷ one_account ∷ one_total ∷ just_enough ∷ every_answer ∷ both_ends
    ∷ effect_at_swap ∷ effect_at_directory_swap ∷ superseded_lookup
    ∷ full_on_the_copy ∷ worker_order ∷ not_flipped ∷ late_bucket_swap ∷ second_bucket_round ∷ state_before_toggle ∷ own_answer
    ∷ delete_held_back
    ∷ late_directory_swap ∷ unchanged_swap ∷ every_update_of_the_bucket ∷ slots_read_again ∷ slots_in_worker_order ∷ a_step_per_worker
    ∷ shallow_half ∷ settled_in_both_halves ∷ settled_makes_nothing ∷ settled_by_a_later_ticket ∷ split_while_full ∷ doubled_directory
    ∷ fourth-check ∷ []

abbrev pub table : List Row
table = case_rows cases

-- Every row of the table is right.
pub table_right : AllRows Right table
table_right = all_right cases

-- ---- the depth of the directory that a script leaves

abbrev pub depth_of : Memory → Option ℕ
depth_of zeros = None
depth_of (holding s m) = Some m.cells.directory.value.depth

pub not_split_before : depth_of (memory_after driver zeros (lines one_holding_5_6)) ≡ Some 0
unfolding computing
not_split_before = refl

-- "crowded in 23, and the split stays"
pub split_stays : depth_of (memory_after driver zeros (lines straight_after)) ≡ Some 1
unfolding computing
split_stays = refl

-- "The directory doubles when d+1 exceeds its depth": once for two buckets of depth 1 that are split
pub doubled_once : depth_of (memory_after driver zeros (lines two_splits)) ≡ Some 2
unfolding computing
doubled_once = refl
