-- A number that is used again is read by no worker: of n numbers in use, one of 0 to n is free. Rests on the laws of tests.
use Prim.Native.Nat.{ℕ, zero, suc, ◌+◌, ◌≤◌, ◌<◌}
use native.Mathlib.Omega.{arith}
use native.Mathlib.Decide.{ℕ_discrete}
use mathlib.Core.Path.{◌≡◌, refl, ap, sym, ◌∙◌}
use mathlib.Core.Logic.{◌≢◌}
use mathlib.Core.Bool.{Bool, true, false}
use mathlib.Core.List.{List}
use borrow.Author.Tests.{eq-eqb, eqb-true}
use Rattle.machine.specs.Choice.{when◌then◌else◌, assign}
use Rattle.machine.proofs.laws.Base.{no_both, is_false, if_elim, and_true, and_parts, assign_at, assign_other}
use Rattle.layout.specs.Shape.{word}
use Rattle.fields.specs.Fields.{worker_held, worker_state, worker_directory}
use Rattle.fields.specs.Regions.{worker_at}
use Rattle.renumbering.specs.Numbers.{any, least_free, number_taken, fresh_number, directory_taken, fresh_directory}

-- ---- the least number that is not taken

-- x is one of the first n numbers of f
pub record Among (n : ℕ) (f : ℕ → ℕ) (x : ℕ) : Type 0 where
  pub index : ℕ
  pub below : index < n
  pub is : f index ≡ x

-- f without its number i, which is one of the first n + 1: the last of them stands in its index
among_less :
    (n : ℕ) (f : ℕ → ℕ) (i x : ℕ) (h : Among (suc n) f i) → i < x → Among (suc n) f x → Among n (assign f h.index (f n)) x
among_less n f i x h l k = go (ℕ_discrete k.index n)
  where
    go : Dec (k.index ≡ n) → Among n (assign f h.index (f n)) x
    go (yes e) =
        let last : f n ≡ x = ap f (sym e) ∙ k.is in
        let apart : h.index ≢ n = λ (q : h.index ≡ n). omega (arith, ap f q, h.is) in
        record { index = h.index; below = omega (arith, h.below); is = assign_at f h.index (f n) h.index refl ∙ last }
    go (no e) =
        let apart : k.index ≢ h.index = λ (q : k.index ≡ h.index). omega (arith, ap f q, h.is, k.is) in
        record { index = k.index; below = omega (arith, k.below); is = assign_other f h.index (f n) k.index apart ∙ k.is }

-- where at most k of the numbers from i on are taken, the least free one of i to i + k is free
free_from :
    (taken : ℕ → Bool) (k i : ℕ) (f : ℕ → ℕ) → ((x : ℕ) → i ≤ x → taken x ≡ true → Among k f x) → taken (least_free taken i k) ≡ false
unfolding least_free
free_from taken zero i f h = is_false (taken i) (λ e. omega (arith, (h i (omega arith) e).below))
free_from taken (suc k) i f h = if_elim (λ x. taken x ≡ false) (taken i) _ _
    (λ e. let t = h i (omega arith) e in
    free_from taken k (suc i) (assign f t.index (f k)) (λ x l g. among_less k f i x t (omega arith) (h x (omega arith) g)))
    (λ e. e)

pub least-free :
    (n : ℕ) (taken : ℕ → Bool) (f : ℕ → ℕ) → ((x : ℕ) → taken x ≡ true → Among n f x) → taken (least_free taken 0 n) ≡ false
least-free n taken f h = free_from taken n 0 f (λ x l e. h x e)

-- ---- some number passes

pub record Some (n : ℕ) (f : ℕ → Bool) : Type 0 where
  pub one : ℕ
  pub below : one < n
  pub is : f one ≡ true

pub any_some : (n : ℕ) (f : ℕ → Bool) → any n f ≡ true → Some n f
unfolding any when◌then◌else◌
any_some zero f e = absurd (no_both e refl)
any_some (suc n) f e = go (any_some n f) (f n) refl e
  where
    go : (any n f ≡ true → Some n f) → (b : Bool) → f n ≡ b → when b then true else any n f ≡ true → Some (suc n) f
    go ih true q h = record { one = n; below = omega arith; is = q }
    go ih false q h = let x = ih h in record { one = x.one; below = omega (arith, x.below); is = x.is }

pub some_any : (n : ℕ) (f : ℕ → Bool) (j : ℕ) → j < n → f j ≡ true → any n f ≡ true
unfolding any
some_any zero f j l e = absurd (omega arith)
some_any (suc n) f j l e = if_elim (λ x. x ≡ true) (f n) true (any n f) (λ q. refl) (λ q. some_any n f j (lt q (ℕ_discrete j n)) e)
  where
    lt : f n ≡ false → Dec (j ≡ n) → j < n
    lt q (yes z) = absurd (no_both e (rw z q))
    lt q (no z) = omega arith

-- ---- the two numberings

-- no worker that refers to record q has read its state under the number that is next
pub fresh-number :
    (l : List ℕ) (n q j : ℕ) → j < n → word l (worker_at n j + worker_held) ≡ q → word l (worker_at n j + worker_state) ≢ fresh_number l n q
unfolding fresh_number number_taken
fresh-number l n q j h r e = no_both
    (some_any n _ j h (and_true (eq-eqb _ _ r) (eq-eqb _ _ e)))
    (least-free n (number_taken l n q) (λ i. word l (worker_at n i + worker_state)) (λ x t.
    let g = any_some n _ t in
    record { index = g.one; below = g.below; is = eqb-true _ _ (and_parts _ _ g.is).1 }))

-- no worker has read the directory under the number that is next
pub fresh-directory : (l : List ℕ) (n j : ℕ) → j < n → word l (worker_at n j + worker_directory) ≢ fresh_directory l n
unfolding fresh_directory directory_taken
fresh-directory l n j h e = no_both
    (some_any n _ j h (eq-eqb _ _ e))
    (least-free n (directory_taken l n) (λ i. word l (worker_at n i + worker_directory)) (λ x t.
    let g = any_some n _ t in
    record { index = g.one; below = g.below; is = eqb-true _ _ g.is }))
