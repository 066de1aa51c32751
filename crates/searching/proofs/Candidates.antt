-- Laws of an exchange, an attempt and a candidate, by the tests of the source in their order. Rests on the definitions and on what
-- the least end decides.
use Prim.Native.Nat.{ℕ, ◌≤◌, ◌<◌}
use mathlib.Core.Path.{◌≡◌, refl, sym, ◌∙◌}
use mathlib.Core.Bool.{Bool, true, false}
use mathlib.Core.List.{List}
use Rattle.std.specs.Prelude.{Option, Some, None}
use Rattle.std.specs.Option.{option_eq}
use Rattle.std.specs.Cmp.Lexicographic.{pointwise}
use lib.Dec.{eqb, leb}
use lib.ListN.{get_or}
use borrow.Author.Tests.{lt-ltb, le-ltb}
use Rattle.machine.specs.Choice.{when◌then◌else◌, ◌and◌}
use Rattle.logs.specs.Log.{log_of, logged_at, word_at, logged_call, logged_end, precedes, greatest_operations, greatest_word}
use Rattle.logs.specs.Judging.{earlier_in}
use Rattle.logs.specs.Search.{opened, is_same, exchanged_from, exchanged, unless_exchanged, candidate}
use Rattle.logs.specs.Same.{same_numbers}
use Rattle.logs.proofs.SameLaws.{as_library_turned}
use Rattle.replay.specs.Replay.{replayed, still_at}
use Rattle.searching.specs.Searching.{is_left, least_end, exchanged_in, attempt_in, candidate_in}
use Rattle.searching.proofs.Ends.{in_time_ready}

-- ---- an exchange

module _ (l : List ℕ) (b M : ℕ) (before : List ℕ) (last : ℕ) (after : List ℕ) (i u v : ℕ) (end : u ≡ word_at l last logged_end)
    (call : v ≡ word_at l i logged_call) where
  pub exchange_earlier : u < v → false ≡ exchanged_in l b M before last after i
  unfolding exchanged earlier_in precedes log_of logged_at ◌and◌
  exchange_earlier h = rw (← end, ← call, lt-ltb u v h)

  module _ (h : v ≤ u) where
    tested :
        exchanged_in l b M before last after i
        ≡ exchanged_from (List ℕ) greatest_operations (replayed l b M) (earlier_in (log_of l)) (still_at l) same_numbers last after
        (replayed l b M before i)
    unfolding exchanged earlier_in precedes log_of logged_at ◌and◌
    tested = rw (← end, ← call, le-ltb u v h)

    pub exchange_unfit : replayed l b M before i ≡ None → false ≡ exchanged_in l b M before last after i
    unfolding exchanged_from
    exchange_unfit e = sym (tested ∙ rw e)

    pub exchange_compared :
        (between : List ℕ) → replayed l b M before i ≡ Some between
        → option_eq (pointwise eqb) (replayed l b M between last) (Some after) ≡ exchanged_in l b M before last after i
    unfolding exchanged_from is_same
    exchange_compared between e = sym (tested ∙ rw e (go (replayed l b M between last)))
      where
        go :
            (o : Option (List ℕ))
            → is_same (List ℕ) greatest_operations (replayed l b M) (earlier_in (log_of l)) (still_at l) same_numbers after o
            ≡ option_eq (pointwise eqb) o (Some after)
        go None = refl
        go (Some later) = sym (as_library_turned later after)

-- ---- an attempt

module _ (l : List ℕ) (b M : ℕ) (before : List ℕ) (last : ℕ) (x : List ℕ) (i : ℕ) where
  abbrev unless : Option (List ℕ) → Option (List ℕ)
  unless = unless_exchanged (List ℕ) greatest_operations (replayed l b M) (earlier_in (log_of l)) (still_at l) same_numbers before last i

  pub attempt_unfit : replayed l b M x i ≡ None → None ≡ attempt_in l b M before last x i
  unfolding unless_exchanged
  attempt_unfit e = rw e

  module _ (next : List ℕ) (fits : replayed l b M x i ≡ Some next) where
    pub attempt_exchanged :
        (r : Bool) → r ≡ exchanged_in l b M before last next i → i < last → r ≡ true
        → None ≡ attempt_in l b M before last x i
    unfolding unless_exchanged when◌then◌else◌ ◌and◌
    attempt_exchanged r e g f = rw (fits, lt-ltb i last g, ← e, f)

    pub attempt_kept :
        (r : Bool) → r ≡ exchanged_in l b M before last next i → i < last → r ≡ false
        → Some next ≡ attempt_in l b M before last x i
    unfolding unless_exchanged when◌then◌else◌ ◌and◌
    attempt_kept r e g f = rw (fits, lt-ltb i last g, ← e, f)

    pub attempt_higher : last ≤ i → Some next ≡ attempt_in l b M before last x i
    unfolding unless_exchanged when◌then◌else◌ ◌and◌
    attempt_higher g = rw (fits, le-ltb i last g)

-- ---- a candidate: an attempt, where the operation is left and ready

module _ (l : List ℕ) (b M : ℕ) (before : List ℕ) (last : ℕ) (left x : List ℕ) (i limit : ℕ) (least : limit ≡ least_end l left 12)
    (word : word_at l i logged_call ≤ greatest_word) (r : Bool)
    (tested : r ≡ eqb (get_or left i 0) 1 and leb (word_at l i logged_call) limit) where
  is_open :
      (t : Bool) → r ≡ t
      → candidate_in l b M before last (is_left left) x i ≡ unless l b M before last x i (when t then replayed l b M x i else None)
  unfolding candidate opened is_left
  is_open t e = rw (← in_time_ready l left b M i word, ← least, ← tested, e)

  pub candidate_closed : r ≡ false → candidate_in l b M before last (is_left left) x i ≡ None
  unfolding unless_exchanged when◌then◌else◌
  candidate_closed e = is_open false e

  pub candidate_open : r ≡ true → attempt_in l b M before last x i ≡ candidate_in l b M before last (is_left left) x i
  unfolding when◌then◌else◌
  candidate_open e = sym (is_open true e)
