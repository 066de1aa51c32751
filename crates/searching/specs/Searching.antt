-- The search over a log in words, as the source makes it: with both cuts, on balances. Rests on the search of any
-- table, specs/Search of crate logs, and on an operation replayed.
use Rattle.std.specs.Prelude.{ℕ, zero, suc, Bool, true, false, List, eqb, get_or, Option, Some, None}
use Rattle.lists.specs.Parts.{overlay}
use Rattle.machine.specs.Choice.{when◌then◌else◌}
use Rattle.memory.specs.Words.{least}
use Rattle.logs.specs.Log.{word_at, logged_end, log_of, greatest_operations, greatest_word}
use Rattle.logs.specs.Same.{same_numbers}
use Rattle.logs.specs.Search.{exchanged, unless_exchanged, candidate, cut_search}
use Rattle.logs.specs.Judging.{earlier_in}
use Rattle.replay.specs.Replay.{replayed, still_at}

-- 1 at each place that is left
unfoldable pub is_left : List ℕ → ℕ → Bool
is_left left i = eqb (get_or left i 0) 1

-- the least end of what is left of the first n: an operation is ready where its call is no later
unfoldable pub least_end : List ℕ → List ℕ → ℕ → ℕ
least_end l left zero = greatest_word
least_end l left (suc i) =
    when is_left left i then least (least_end l left i) (word_at l i logged_end) else least_end l left i

-- the search of specs/Search over the log l with b and M, what could be exchanged in it, an operation that could not,
-- and that where it is left and ready
abbrev pub exchanged_in : List ℕ → ℕ → ℕ → List ℕ → ℕ → List ℕ → ℕ → Bool
exchanged_in l b M =
    exchanged (List ℕ) greatest_operations (replayed l b M) (earlier_in (log_of l)) (still_at l) same_numbers

abbrev pub attempt_in : List ℕ → ℕ → ℕ → List ℕ → ℕ → List ℕ → ℕ → Option (List ℕ)
attempt_in l b M before last x i =
    unless_exchanged (List ℕ) greatest_operations (replayed l b M) (earlier_in (log_of l)) (still_at l) same_numbers before
    last i (replayed l b M x i)

abbrev pub candidate_in : List ℕ → ℕ → ℕ → List ℕ → ℕ → (ℕ → Bool) → List ℕ → ℕ → Option (List ℕ)
candidate_in l b M =
    candidate (List ℕ) greatest_operations (replayed l b M) (earlier_in (log_of l)) (still_at l) same_numbers

abbrev pub search_in : List ℕ → ℕ → ℕ → ℕ → List ℕ → ℕ → (ℕ → Bool) → List ℕ → Option (List ℕ)
search_in l b M =
    cut_search (List ℕ) greatest_operations (replayed l b M) (earlier_in (log_of l)) (still_at l) same_numbers

-- the list for the order, with the order found at its start
unfoldable pub written_in : List ℕ → Option (List ℕ) → List ℕ
written_in places None = places
written_in places (Some o) = overlay places 0 o

unfoldable pub is_found : Option (List ℕ) → Bool
is_found None = false
is_found (Some o) = true
