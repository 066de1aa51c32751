-- Rows that start from an opened table whose workers have used ticket numbers up: near the greatest one, and two workers in one bucket
-- whose numbers are far apart. Each is proved by computing it. Rests on the table of cases.
use Prim.Native.Nat.{ℕ, zero, suc}
use mathlib.Core.Path.{◌≡◌, refl}
use mathlib.Core.List.{List, [], ◌∷◌, ◌++◌}
use Rattle.std.specs.Prelude.{None}
use lib.IntN.{pos}
use Rattle.interface.specs.declared.Answer.TheVariants.{Added, Found}
use Rattle.machine.specs.Computing.{computing}
use Rattle.machine.specs.Records.{bucket_of, opened}
use Rattle.machine.specs.Calls.{settings}
use Rattle.machine.specs.Script.{I, D, L, S, T, ok, refused, moved, answered, listed}
use Rattle.machine.specs.Script.{Memory, zeros, holding, driver, run_from, memory_after}
use Rattle.machine.proofs.Cases.{Exchange, ⟨◌⟩, ◌⟶◌, ◌gets◌at◌, lines, replies_of}

-- n 2, b 2, M 1, just opened, but that the last tickets of workers 0 and 1 are these
abbrev pub last_ticket : ℕ → ℕ → ℕ → ℕ
last_ticket x y zero = x
last_ticket x y (suc j) = y

unfoldable pub numbers_used : ℕ → ℕ → Memory
numbers_used x y =
    holding (settings 2 2 1) (record {
      cells = opened.cells;
      workers =
          λ j. record { last = last_ticket x y j; operation = None; steps = 0; reads = (opened.workers j).reads };
    })

-- the tickets of workers 0 and 1 that are settled in an account's bucket
unfoldable pub settled_for : ℕ → Memory → List ℕ
settled_for a zeros = []
settled_for a (holding s m) =
    let body = (m.cells.buckets (bucket_of m.cells.directory.value a)).state.value.body in
    (body.settled 0).ticket ∷ (body.settled 1).ticket ∷ []

-- 02, No. 6: the greatest number is used, then 7; a lookup takes none, and another worker has its own
abbrev pub at_the_end : List Exchange
at_the_end =
    I 0 5 (pos 50) gets Added at 15 ++ I 0 5 (pos 51) ⟶ refused 7 ∷ D 0 5 ⟶ refused 7 ∷ S 0 1 ⟶ refused 5 ∷ []
    ++ L 0 5 gets Found (pos 50) at 2 ++ I 1 6 (pos 60) gets Added at 15 ++ T ⟶ listed ((5, pos 50) ∷ (6, pos 60) ∷ []) ∷ []

abbrev pub one_number_left : Memory
one_number_left = numbers_used 18_446_744_073_709_551_614 0

pub last_number_used : run_from driver one_number_left (lines at_the_end) ≡ replies_of at_the_end
unfolding computing numbers_used
last_number_used = refl

pub last_number_settled : settled_for 5 (memory_after driver one_number_left (lines at_the_end)) ≡ 18_446_744_073_709_551_615 ∷ 1 ∷ []
unfolding computing numbers_used settled_for
last_number_settled = refl

-- Tickets 1 and 2^63 in one bucket, worker 1's update carried out by worker 0. Tells apart: tickets kept in 32 bits, or compared as
-- signed numbers.
abbrev pub far_apart : List Exchange
far_apart =
    I 1 ⟨ 9 ⟩ (pos 90) ⟶ ok ∷ S 1 3 ⟶ moved 3 ∷ [] ++ I 0 ⟨ 5 ⟩ (pos 50) gets Added at 15
    ++ T ⟶ listed ((⟨ 5 ⟩, pos 50) ∷ (⟨ 9 ⟩, pos 90) ∷ []) ∷ S 1 99 ⟶ answered Added 15 ∷ []

-- then 2^63+1 by a split, which copies both settled tickets to both halves, and 2 in the half that it fills
abbrev pub far_apart_split : List Exchange
far_apart_split =
    far_apart ++ I 1 ⟨ 2_147_483_648 ⟩ (pos 1) gets Added at 29 ++ I 0 ⟨ 2_147_483_649 ⟩ (pos 2) gets Added at 15
    ++ T ⟶ listed ((⟨ 5 ⟩, pos 50) ∷ (⟨ 2_147_483_648 ⟩, pos 1) ∷ (⟨ 9 ⟩, pos 90) ∷ (⟨ 2_147_483_649 ⟩, pos 2) ∷ []) ∷ []

abbrev pub from_2_to_63 : Memory
from_2_to_63 = numbers_used 0 9_223_372_036_854_775_807

pub tickets_far_apart : run_from driver from_2_to_63 (lines far_apart_split) ≡ replies_of far_apart_split
unfolding computing numbers_used
tickets_far_apart = refl

pub settled_far_apart : settled_for 5 (memory_after driver from_2_to_63 (lines far_apart)) ≡ 1 ∷ 9_223_372_036_854_775_808 ∷ []
unfolding computing numbers_used settled_for
settled_far_apart = refl

pub settled_in_the_lower_half :
    settled_for 5 (memory_after driver from_2_to_63 (lines far_apart_split)) ≡ 1 ∷ 9_223_372_036_854_775_808 ∷ []
unfolding computing numbers_used settled_for
settled_in_the_lower_half = refl

pub settled_in_the_upper_half :
    settled_for 2_147_483_648 (memory_after driver from_2_to_63 (lines far_apart_split)) ≡ 2 ∷ 9_223_372_036_854_775_809 ∷ []
unfolding computing numbers_used settled_for
settled_in_the_upper_half = refl
