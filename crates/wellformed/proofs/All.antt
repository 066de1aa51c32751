-- What the iterator's `all` answers over the numbers below another is the test of all of them. Rests on nothing.
use Prim.Native.Nat.{ℕ, zero, suc, ◌-◌, ◌<◌}
use Rattle.std.proofs.Common.{Option, zero-add}
use native.Mathlib.Omega.{arith}
use native.Mathlib.Decide.{ℕ_discrete}
use mathlib.Core.Path.{◌≡◌, refl, sym, subst, ◌∙◌}
use mathlib.Core.Logic.{by_cases}
use mathlib.Core.Bool.{Bool, true, false}
use mathlib.Core.List.{List}
use lib.ListN.{length, get_or}
use denote.Param.Members.{Mut}
use Rattle.std.specs.declared.ops.Range.{Range}
use Rattle.std.specs.Bool.{MatchBool}
use Rattle.std.specs.Fn.{Called}
use Rattle.std.specs.Iterator.{YieldsThen}
use Rattle.std.specs.List.{range_with_len, AllWithin, HoldsAt, FoldsTo}
use Rattle.std.specs.Option.{MatchOption}
use Rattle.std.proofs.iter.Yields.{nat_range_steps}
use Rattle.std.proofs.lemmas.Iterator.{cases_from_all, YieldsList-from_range}
use Rattle.std.proofs.lemmas.List.FromFn.{length-range_with_len, get_or-range_with_len}
use Rattle.machine.proofs.laws.Base.{and_true, and_left_false, and_no}
use Rattle.logs.specs.Log.{all}

all_passes : (n : ℕ) (test : ℕ → Bool) → ((k : ℕ) → k < n → test k ≡ true) → all n test ≡ true
unfolding all
all_passes zero test h = refl
all_passes (suc n) test h = and_true (all_passes n test (λ k l. h k (omega arith))) (h n (omega arith))

all_fails : (n : ℕ) (test : ℕ → Bool) (i : ℕ) → i < n → test i ≡ false → all n test ≡ false
unfolding all
all_fails zero test i h e = absurd (omega arith)
all_fails (suc n) test i h e =
    by_cases (ℕ_discrete i n) (λ z. and_no _ (rw z at e)) (λ z. and_left_false _ (all_fails n test i (omega arith) e))

below : (n k : ℕ) → k < n → get_or (range_with_len 0 (n - 0)) k 0 ≡ k
below n k l = get_or-range_with_len 0 (n - 0) k 0 (omega arith) ∙ zero-add k

within : (n k : ℕ) → k < length (range_with_len 0 (n - 0)) → k < n
within n k l = omega (arith, length-range_with_len 0 (n - 0))

by_case :
    (r : Bool) (n : ℕ) (test : ℕ → Bool)
    → MatchBool r (AllWithin (λ k. test k ≡ true) (range_with_len 0 (n - 0)) 0 (length (range_with_len 0 (n - 0))))
    ((k : ℕ) × (k < length (range_with_len 0 (n - 0))) × HoldsAt (λ k. test k ≡ false) (range_with_len 0 (n - 0)) k)
    → r ≡ all n test
by_case true n test h =
    sym (all_passes n test (λ k l. subst (λ (j : ℕ). test j ≡ true) (below n k l) (h k 0 (omega arith) (omega (arith, length-range_with_len 0 (n - 0))))))
by_case false n test (k, l, h) =
    sym (all_fails n test k (within n k l) (subst (λ (j : ℕ). test j ≡ false) (below n k (within n k l)) (h 0)))

-- what `all` answers over the numbers below n, where each call of the closure f answers the test
pub all_below :
    {F : Type 0} {g : Mut F (ℕ × Unit {0}) Bool} (u : Range ℕ) (f : F) (r : Bool) (n : ℕ) (test : ℕ → Bool)
    → (xs : List ℕ) × (o : Option ℕ) × (j : F) × YieldsThen nat_range_steps (record { start = 0; end = n }) xs o u
    × FoldsTo (λ p x q. Called g p (x, tt) true q) f xs j
    × MatchOption o (r ≡ true) (λ x. (r ≡ false) × ((h : F) × Called g j (x, tt) false h))
    → ((x : ℕ) (b : Bool) (q : F) → Called g f (x, tt) b q → (q ≡ f) × (b ≡ test x))
    → r ≡ all n test
all_below u f r n test ran said =
    by_case r n test (cases_from_all u f r (λ k. test k ≡ true) (λ k. test k ≡ false) ran (YieldsList-from_range 0 n _ refl refl)
    (λ x q k. let s = said x true q k in (s.0, sym s.1)) (λ x q k. sym (said x false q k).1))
