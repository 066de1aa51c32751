-- First places: the first place about an account is about it, and is the same exactly for places about the same account.
-- Rests on the definitions of specs/Balances.
use Prim.Native.Nat.{ℕ, zero, suc, ◌+◌, ◌≤◌, ◌<◌}
use native.Mathlib.Omega.{arith}
use native.Mathlib.Decide.{ℕ_discrete}
use mathlib.Core.Path.{◌≡◌, refl, sym, ap, ◌∙◌}
use mathlib.Core.Logic.{◌≢◌, by_cases}
use mathlib.Core.List.{List}
use Rattle.machine.proofs.laws.Base.{eq_elim, neither_less}
use Rattle.replay.specs.Balances.{account_logged, first_from, first_place}

-- p is the first place about the account, from j on; i is another about it
pub record First (l : List ℕ) (a j i p : ℕ) : Type 0 where
  pub below : p ≤ i
  pub about : account_logged l p ≡ a
  pub least : (k : ℕ) → j ≤ k → k < p → account_logged l k ≢ a

first-from : (l : List ℕ) (a k j i : ℕ) → j + k ≡ i → account_logged l i ≡ a → First l a j i (first_from l a k j)
unfolding first_from
first-from l a zero j i s e =
    let z : j ≡ i = omega arith in
    record { below = omega arith; about = ap (account_logged l) z ∙ e; least = λ k f g. absurd (omega arith) }
first-from l a (suc k) j i s e =
    eq_elim (First l a j i) (account_logged l j) a j (first_from l a k (suc j))
    (λ h. record { below = omega arith; about = h; least = λ k f g. absurd (omega arith) })
    (λ n. let r : First l a (suc j) i (first_from l a k (suc j)) = first-from l a k (suc j) i (omega arith) e in
    record {
      below = r.below;
      about = r.about;
      least = λ k f g. by_cases (ℕ_discrete k j) (λ z. rw z n) (λ z. r.least k (omega arith) g);
    })

pub first-place : (l : List ℕ) (i : ℕ) → First l (account_logged l i) 0 i (first_place l i)
unfolding first_place
first-place l i = first-from l (account_logged l i) i 0 i (omega arith) refl

pub same_place : (l : List ℕ) (i k : ℕ) → account_logged l i ≡ account_logged l k → first_place l i ≡ first_place l k
same_place l i k e =
    neither_less (first_place l i) (first_place l k)
    (λ h. (first-place l k).least (first_place l i) (omega arith) h ((first-place l i).about ∙ e))
    (λ h. (first-place l i).least (first_place l k) (omega arith) h ((first-place l k).about ∙ sym e))

pub other_place : (l : List ℕ) (i k : ℕ) → account_logged l i ≢ account_logged l k → first_place l i ≢ first_place l k
other_place l i k n e = n (sym (first-place l i).about ∙ ap (account_logged l) e ∙ (first-place l k).about)
