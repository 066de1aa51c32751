-- The invariant, in this order: the program counter, the invariant itself, steps as transitions, what keeps it, that every
-- reachable machine has it (Tasks), and what more a machine with one worker has (Alone).
pub mod Counter
pub mod CounterFacts
pub mod Inv
pub mod Preservation
pub mod Transitions
pub mod StepTransitions
pub mod Change
pub mod Tasks
pub mod Alone
