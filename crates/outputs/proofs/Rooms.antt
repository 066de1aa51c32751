-- Zeros hold the longest text where they are as many as its bytes; that it holds for any number spares computing the zeros.
-- Rests on the definitions of specs/Room.
use Prim.Native.Nat.{ℕ, ◌≤◌}
use lib.ListN.{length, replicate, length-replicate}
use Rattle.outputs.specs.Room.{longest}

pub zeros_hold : (n : ℕ) → longest ≤ n → longest ≤ length {A = ℕ} (replicate n 0)
zeros_hold n h = rw (length-replicate {A = ℕ} n 0) h
