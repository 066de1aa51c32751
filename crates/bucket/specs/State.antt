-- A bucket's state for any field values: its size, a search, a total, an account put in or taken out, a ticket settled.
-- Rests on the types that src declares and on arrays.
use Rattle.std.specs.Prelude.{ℕ, ◌+◌, ◌-◌, ltb, get_or, set, take}
use Rattle.interface.specs.Limits.{greatest_capacity}
use Rattle.machine.specs.Choice.{when◌then◌else◌}
use Rattle.bucket.specs.declared.BucketState.{BucketState}
use Rattle.arrays.specs.declared.Position.{Position}
use Rattle.arrays.specs.declared.Position.TheVariants.{At, Before}
use Rattle.arrays.specs.Arrays.{inserted_in, removed_from, scan}

-- ---- arrays

-- the items of each array of a state
abbrev pub array_size : ℕ
array_size = greatest_capacity

-- ---- states

-- how many accounts there are: a count above the arrays' size is read as their size
unfoldable pub size_of : BucketState → ℕ
size_of x = when ltb x.count array_size then x.count else array_size

unfoldable pub search_of : BucketState → ℕ → Position
search_of x a = scan (take (size_of x) x.accounts) a 0

-- the total at the position that a search gave; 0 where the account is missing
unfoldable pub total_in : BucketState → Position → ℕ
total_in x (At i) = get_or x.totals i 0
total_in x (Before i) = 0

-- account a's total set to v at the position that a search gave; a new account only where there is room
unfoldable pub put_of : BucketState → Position → ℕ → ℕ → BucketState
put_of x (At i) a v =
    record {
      accounts = x.accounts;
      totals = set x.totals i v;
      settled = x.settled;
      answers = x.answers;
      posted = x.posted;
      count = x.count;
      applied = x.applied;
    }
put_of x (Before i) a v =
    when ltb (size_of x) array_size
    then record {
      accounts = inserted_in x.accounts (size_of x) i a;
      totals = inserted_in x.totals (size_of x) i v;
      settled = x.settled;
      answers = x.answers;
      posted = x.posted;
      count = size_of x + 1;
      applied = x.applied;
    }
    else x

-- the account at the position that a search gave taken out
unfoldable pub remove_of : BucketState → Position → BucketState
remove_of x (At i) =
    record {
      accounts = removed_from x.accounts (size_of x) i;
      totals = removed_from x.totals (size_of x) i;
      settled = x.settled;
      answers = x.answers;
      posted = x.posted;
      count = size_of x - 1;
      applied = x.applied;
    }
remove_of x (Before i) = x

-- worker j's ticket settled with an answer's number and total
unfoldable pub settle_of : BucketState → ℕ → ℕ → ℕ → ℕ → BucketState
settle_of x j ticket answer total =
    record {
      accounts = x.accounts;
      totals = x.totals;
      settled = set x.settled j ticket;
      answers = set x.answers j answer;
      posted = set x.posted j total;
      count = x.count;
      applied = x.applied;
    }
