-- The step to come of an operation, as a program counter: the steps of specs/Plan, each with its pass and its round.
-- Rests on the plan.
use Rattle.std.specs.Prelude.{ℕ, zero, suc, List, [], ◌∷◌, ◌++◌, get_or}

pub data Two : Type 0 where
  one two : Two

-- a step of a round of the bucket pass
pub data BStep : Type 0 where
  read_s read_t swap : BStep
  slot_b : ℕ → BStep

-- a step of a round of the directory pass; `state i` is the one for worker i
pub data DStep : Type 0 where
  copy_d swap_d : DStep
  slot_d state : ℕ → DStep

-- The step to come. The first Two is the pass; the second the round, or which of the pass's two checks. `over` is past
-- the plan.
pub data PC : Type 0 where
  idle announce look₁ look₂ over : PC
  read_d flip : Two → PC
  check_d check_s : Two → Two → PC
  in_b : Two → Two → BStep → PC
  in_d : Two → Two → DStep → PC

-- ---- what is said of a step by its counter

-- o outside the passes; in a pass f where the directory is read or the bit flipped, g at a check, b and d in the rounds
abbrev pub in_pass :
    Type 0 → (Two → Type 0) → (Two → Two → Type 0) → (Two → Two → BStep → Type 0) → (Two → Two → DStep → Type 0)
    → PC → Type 0
in_pass o f g b d idle = o
in_pass o f g b d announce = o
in_pass o f g b d look₁ = o
in_pass o f g b d look₂ = o
in_pass o f g b d over = o
in_pass o f g b d (read_d p) = f p
in_pass o f g b d (flip p) = f p
in_pass o f g b d (check_d p c) = g p c
in_pass o f g b d (check_s p c) = g p c
in_pass o f g b d (in_b p r x) = b p r x
in_pass o f g b d (in_d p r x) = d p r x

-- ---- the plan, line by line as in specs/Plan

-- f's counters for the workers below n
unfoldable pub each_counter : (ℕ → PC) → ℕ → List PC
each_counter f zero = []
each_counter f (suc n) = each_counter f n ++ f n ∷ []

unfoldable pub bucket_counters : ℕ → Two → Two → List PC
bucket_counters n p r = in_b p r read_s ∷ in_b p r read_t ∷ each_counter (λ i. in_b p r (slot_b i)) n ++ in_b p r swap ∷ []

unfoldable pub check_counters : Two → Two → List PC
check_counters p c = check_d p c ∷ check_s p c ∷ []

unfoldable pub directory_counters : ℕ → Two → Two → List PC
directory_counters n p r =
    in_d p r copy_d ∷ each_counter (λ i. in_d p r (slot_d i)) n ++ each_counter (λ i. in_d p r (state i)) n
    ++ in_d p r swap_d ∷ []

unfoldable pub pass_counters : ℕ → Two → List PC
pass_counters n p =
    read_d p ∷ flip p ∷ bucket_counters n p one ++ bucket_counters n p two ++ check_counters p one
    ++ (directory_counters n p one ++ directory_counters n p two) ++ check_counters p two

unfoldable pub counters : ℕ → List PC
counters n = announce ∷ pass_counters n one ++ pass_counters n two

-- the step to come after k own steps of an update
unfoldable pub counter : ℕ → ℕ → PC
counter n k = get_or (counters n) k over
