-- Every worker that a step of the plan names is below n. Rests on the plan's parts.
use Prim.Native.Nat.{ℕ, zero, suc, ◌<◌}
use mathlib.Core.List.{List}
use lib.ListN.{get_or}
use Rattle.machine.specs.Plan.{Phase, announce, read_directory, flip_toggle, read_state, read_toggle, swap_state, check_state, copy_directory, swap_directory, read_slot, resize_for, check, pass, plan, phase}
use Rattle.machine.proofs.laws.PlanParts.{All, nil, cons, all_append, all_buckets, all_directories}

-- the workers that a phase names
abbrev pub Below : ℕ → Phase → Type 0
Below n (read_slot j) = j < n
Below n (resize_for j) = j < n
Below n announce = Unit {0}
Below n read_directory = Unit {0}
Below n flip_toggle = Unit {0}
Below n read_state = Unit {0}
Below n read_toggle = Unit {0}
Below n swap_state = Unit {0}
Below n check_state = Unit {0}
Below n copy_directory = Unit {0}
Below n swap_directory = Unit {0}

all_at : (P : Phase → Type 0) → P check_state → {l : List Phase} (i : ℕ) → All P l → P (get_or l i check_state)
all_at P e i nil = e
all_at P e zero (cons h a) = h
all_at P e (suc i) (cons h a) = all_at P e i a

all_plan : (n : ℕ) → All (Below n) (plan n)
unfolding plan pass check
all_plan n =
    let buckets = all_buckets (Below n) n (λ j h. h) tt tt tt tt in
    let directories = all_directories (Below n) n (λ j h. h) (λ j h. h) tt tt in
    let twice : All (Below n) check = cons tt (cons tt nil) in
    let one : All (Below n) (pass n) =
    cons tt (all_append (Below n) (all_append (Below n) (all_append (Below n) buckets twice) directories) twice) in
    cons tt (all_append (Below n) one one)

pub phase_below : (n k : ℕ) → Below n (phase n k)
unfolding phase
phase_below n k = all_at (Below n) tt k (all_plan n)
