-- Orders compared: laws of the lexicographic order. Rests on the definition.
use Prim.Native.Nat.{ℕ, ◌<◌}
use native.Mathlib.Omega.{arith}
use native.Mathlib.Decide.{ℕ_discrete, dec_lt}
use mathlib.Core.Path.{◌≡◌, refl, sym, ap, ◌∙◌}
use mathlib.Core.Logic.{◌⊎◌, inl, inr, by_cases}
use mathlib.Core.List.{List, [], ◌∷◌}
use Rattle.logs.specs.Comparing.{Before, NotAfter, ComparingLaws}

-- ---- one operation more in front

pub lower_first : (i j : ℕ) (o p : List ℕ) → i < j → NotAfter (i ∷ o) (j ∷ p)
lower_first i j o p l = inr (inl l)

pub same_first : (i : ℕ) (o p : List ℕ) → NotAfter o p → NotAfter (i ∷ o) (i ∷ p)
same_first i o p (inl e) = inl (ap (λ (l : List ℕ). i ∷ l) e)
same_first i o p (inr b) = inr (inr (refl, b))

pub nothing_first : (p : List ℕ) → NotAfter [] p
nothing_first [] = inl refl
nothing_first (j ∷ p) = inr tt

-- ---- a strict total order

total : (o p : List ℕ) → NotAfter o p ⊎ Before p o
total [] p = inl (nothing_first p)
total (i ∷ o) [] = inr tt
total (i ∷ o) (j ∷ p) =
    by_cases (ℕ_discrete i j) (λ e. same e (total o p))
    (λ e. by_cases (dec_lt i j) (λ l. inl (inr (inl l))) (λ l. inr (inl (omega arith))))
  where
    same : i ≡ j → NotAfter o p ⊎ Before p o → NotAfter (i ∷ o) (j ∷ p) ⊎ Before (j ∷ p) (i ∷ o)
    same e (inl (inl f)) = inl (inl cc)
    same e (inl (inr b)) = inl (inr (inr (e, b)))
    same e (inr b) = inr (inr (sym e, b))

pub one_way : (o p : List ℕ) → Before o p → Before p o → ⊥
one_way [] [] b c = b
one_way [] (j ∷ p) b c = c
one_way (i ∷ o) [] b c = b
one_way (i ∷ o) (j ∷ p) (inl l) (inl k) = omega arith
one_way (i ∷ o) (j ∷ p) (inl l) (inr (e, c)) = omega arith
one_way (i ∷ o) (j ∷ p) (inr (e, b)) (inl k) = omega arith
one_way (i ∷ o) (j ∷ p) (inr (e, b)) (inr (f, c)) = one_way o p b c

transitive : (o p q : List ℕ) → Before o p → Before p q → Before o q
transitive [] [] q b c = absurd b
transitive [] (j ∷ p) [] b c = absurd c
transitive [] (j ∷ p) (k ∷ q) b c = tt
transitive (i ∷ o) [] q b c = absurd b
transitive (i ∷ o) (j ∷ p) [] b c = absurd c
transitive (i ∷ o) (j ∷ p) (k ∷ q) (inl l) (inl m) = inl (omega arith)
transitive (i ∷ o) (j ∷ p) (k ∷ q) (inl l) (inr (f, c)) = inl (omega arith)
transitive (i ∷ o) (j ∷ p) (k ∷ q) (inr (e, b)) (inl m) = inl (omega arith)
transitive (i ∷ o) (j ∷ p) (k ∷ q) (inr (e, b)) (inr (f, c)) = inr (e ∙ f, transitive o p q b c)

pub comparing_laws : ComparingLaws
comparing_laws = record { total = total; one_way = one_way; transitive = transitive }

-- of two orders, neither after the other
pub both_first : (o p : List ℕ) → NotAfter o p → NotAfter p o → o ≡ p
both_first o p (inl e) c = sym e
both_first o p (inr b) (inl e) = e
both_first o p (inr b) (inr c) = absurd (one_way o p b c)
