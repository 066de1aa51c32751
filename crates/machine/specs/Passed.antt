-- What a worker has done, by the step to come: which round it is in, what it has read there, whether it holds a
-- bucket. Rests on the program counter.
use Rattle.std.specs.Prelude.{ℕ, ◌<◌}
use Rattle.machine.specs.Counter.{Two, BStep, read_s, read_t, swap, slot_b, DStep, copy_d, swap_d, slot_d, state, PC, idle, announce, look₁, look₂, over, read_d, flip, check_d, check_s, in_b, in_d, in_pass}

-- ---- in the rounds

-- only in the rounds of the bucket pass
abbrev pub in_buckets : (Two → BStep → Type 0) → PC → Type 0
in_buckets b = in_pass ⊥ (λ p. ⊥) (λ p c. ⊥) (λ p r x. b r x) (λ p r x. ⊥)

-- only in the rounds of the directory pass
abbrev pub in_directory : (Two → Two → DStep → Type 0) → PC → Type 0
in_directory d = in_pass ⊥ (λ p. ⊥) (λ p c. ⊥) (λ p r x. ⊥) d

-- in a round: x until the bucket's state is read, or the directory, and y from then on
abbrev pub since_state : Type 0 → Type 0 → BStep → Type 0
since_state x y read_s = x
since_state x y read_t = y
since_state x y swap = y
since_state x y (slot_b i) = y

abbrev pub since_copy : Type 0 → Type 0 → DStep → Type 0
since_copy x y copy_d = x
since_copy x y swap_d = y
since_copy x y (slot_d i) = y
since_copy x y (state i) = y

-- ---- what a worker has done

abbrev pub StateReadD : ℕ → ℕ → DStep → Type 0
StateReadD n j copy_d = ⊥
StateReadD n j swap_d = j < n
StateReadD n j (slot_d i) = ⊥
StateReadD n j (state i) = j < i

-- it is past its state step for worker j there
abbrev pub PastState : ℕ → ℕ → PC → Type 0
PastState n j = in_directory (λ p r. StateReadD n j)

-- it holds a bucket that it will still use
abbrev pub HoldsBucket : PC → Type 0
HoldsBucket idle = ⊥
HoldsBucket announce = ⊥
HoldsBucket look₁ = ⊥
HoldsBucket look₂ = Unit {0}
HoldsBucket over = ⊥
HoldsBucket (read_d p) = ⊥
HoldsBucket (flip p) = Unit {0}
HoldsBucket (check_d p c) = ⊥
HoldsBucket (check_s p c) = Unit {0}
HoldsBucket (in_b p r x) = Unit {0}
HoldsBucket (in_d p r x) = ⊥
