-- The least end of what is left: one place more, and what it decides: nothing that is left ended before a call exactly
-- where the least end did not. Rests on the definitions.
use Prim.Native.Nat.{ℕ, zero, suc, ◌+◌, ◌≤◌, min}
use native.Mathlib.Omega.{arith}
use native.Mathlib.Numerals.{add-one}
use mathlib.Core.Path.{◌≡◌, refl, ap, ◌∙◌}
use mathlib.Core.Logic.{◌≢◌}
use mathlib.Core.Bool.{Bool, true, false, not}
use mathlib.Core.List.{List}
use lib.Dec.{leb, ltb}
use lib.ListN.{get_or}
use borrow.Author.Tests.{eq-eqb, ne_eqb, le-leb, lt-leb, ltb-true, ltb-false, leb-true, leb-false}
use Rattle.std.proofs.lemmas.Bool.Decides.{nat_tests}
use Rattle.machine.specs.Choice.{when◌then◌else◌, ◌and◌}
use Rattle.memory.specs.Words.{least}
use Rattle.logs.specs.Log.{log_of, logged_at, word_at, logged_call, logged_end, all, precedes, greatest_operations, greatest_word}
use Rattle.logs.specs.Judging.{earlier_in}
use Rattle.logs.specs.Search.{ready}
use Rattle.replay.specs.Replay.{replayed}
use Rattle.searching.specs.Searching.{is_left, least_end}

-- ---- one place more

pub least_min : (a b : ℕ) → min a b ≡ least a b
unfolding least when◌then◌else◌
least_min a b = grind (arith, nat_tests)

module _ (l left : List ℕ) (i limit : ℕ) (known : limit ≡ least_end l left i) where
  pub ends_left : (e : ℕ) → e ≡ word_at l i logged_end → get_or left i 0 ≡ 1 → least limit e ≡ least_end l left (i + 1)
  unfolding least_end is_left when◌then◌else◌
  ends_left e f h = rw (add-one, eq-eqb _ _ h, known, f)

  pub ends_gone : get_or left i 0 ≢ 1 → limit ≡ least_end l left (i + 1)
  unfolding least_end is_left when◌then◌else◌
  ends_gone h = rw (add-one, ne_eqb _ _ h) known

-- ---- what it decides

leb_least : (w a e : ℕ) → leb w (least a e) ≡ leb w a and not (ltb e w)
unfolding least when◌then◌else◌ ◌and◌
leb_least w a e = go (ltb a e) (leb w a) (ltb e w) refl refl refl
  where
    go :
        (p q r : Bool) → ltb a e ≡ p → leb w a ≡ q → ltb e w ≡ r
        → leb w (when p then a else e) ≡ q and not r
    go true true true f g h = let x = ltb-true a e f in let y = leb-true w a g in let z = ltb-true e w h in absurd (omega arith)
    go true true false f g h = g
    go true false r f g h = g
    go false true true f g h = let z = ltb-true e w h in lt-leb w e z
    go false true false f g h = let z = ltb-false e w h in le-leb w e z
    go false false r f g h = let x = ltb-false a e f in let y = leb-false w a g in lt-leb w e (omega arith)

and_not_false : (x y : Bool) → x ≡ x and not (false and y)
unfolding ◌and◌
and_not_false true y = refl
and_not_false false y = refl

module _ (l left : List ℕ) (b M i : ℕ) (h : word_at l i logged_call ≤ greatest_word) where
  abbrev call : ℕ
  call = word_at l i logged_call

  -- of the first n, nothing that is left was answered before the call
  abbrev open_to : ℕ → Bool
  open_to n = all n (λ j. not (is_left left j and earlier_in (log_of l) j i))

  in_time : (n : ℕ) → leb call (least_end l left n) ≡ open_to n
  unfolding least_end all earlier_in precedes log_of logged_at when◌then◌else◌ ◌and◌
  in_time zero = le-leb _ _ h
  in_time (suc n) = go (is_left left n) (in_time n)
    where
      go :
          (t : Bool) → leb call (least_end l left n) ≡ open_to n
          → leb call (when t then least (least_end l left n) (word_at l n logged_end) else least_end l left n)
          ≡ open_to n and not (t and ltb (word_at l n logged_end) call)
      go true e = leb_least _ _ _ ∙ ap (λ (t : Bool). t and not (ltb (word_at l n logged_end) call)) e
      go false e = e ∙ and_not_false (open_to n) (ltb (word_at l n logged_end) call)

  pub in_time_ready :
      leb call (least_end l left greatest_operations)
      ≡ ready (List ℕ) greatest_operations (replayed l b M) (earlier_in (log_of l)) (is_left left) i
  unfolding ready
  in_time_ready = in_time greatest_operations
