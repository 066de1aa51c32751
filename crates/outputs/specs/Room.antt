-- Room for the longest text behind the used bytes of a buffer. Rests on nothing.
use Rattle.std.specs.Prelude.{ℕ, ◌+◌, Bool, leb}

-- no line is met with a longer text: 4,096 rows of at most 10 + 1 + 20 + 1 bytes, and `end` with a count of at most 20
-- digits
unfoldable pub longest : ℕ
longest = 131_097

-- so many bytes have room in a buffer of that length behind the used ones
unfoldable pub room_for : ℕ → ℕ → ℕ → Bool
room_for size len used = leb (used + size) len
