-- How many accounts a table or balances have, with these first bits, where one is set or taken out. Rests on the laws of tables.
use Prim.Native.Nat.{ℕ, zero, suc, ◌+◌, ◌*◌, ◌≤◌, ◌<◌}
use native.Mathlib.Omega.{arith}
use native.Mathlib.Decide.{ℕ_discrete}
use mathlib.Core.Path.{◌≡◌, refl, sym, ap, ◌∙◌, subst}
use mathlib.Core.Logic.{◌≢◌, by_cases}
use mathlib.Core.Bool.{Bool, true, false}
use mathlib.Core.List.{List, [], ◌∷◌}
use Rattle.std.specs.Prelude.{Option, Some, None}
use lib.Dec.{eqb}
use lib.IntN.{ℤ}
use lib.ListN.{length, get_or, set, length-set}
use lib.Seq.{get_or-set_same, get_or-set_other}
use mir.Syntax.{w64}
use mir.Val.{to_z, of_z}
use borrow.Author.Tests.{eqb-true, eqb-false}
use Rattle.machine.specs.Choice.{when◌then◌else◌}
use Rattle.machine.specs.Sequential.{Update, insert, delete, account, first_bits, Table, find, put, remove, having, changed, Ascending}
use Rattle.machine.proofs.laws.Base.{if_elim₂, eq_elim, lt_elim, if_eq, if_ne}
use Rattle.machine.proofs.laws.Tables.{find_put_at, find_remove_at, find_above, find_changed_other, find_having_in, ascending_having, having_changed, having_changed_other}
use Rattle.replay.specs.Balances.{account_logged, there_at, total_at, balance_of, balance_at, put_words, put_balance, agreeing}

-- ---- an account's total, set or taken out

-- the update that leaves so much at the account
abbrev pub leaving : ℕ → Option ℤ → Update
leaving a None = delete a
leaving a (Some v) = insert a v

abbrev pub with_total : Table → ℕ → Option ℤ → Table
with_total t a s = changed (leaving a s) t

pub find_with_at : (t : Table) (a : ℕ) (s : Option ℤ) → Ascending t → find (with_total t a s) a ≡ s
unfolding changed
find_with_at t a None h = find_remove_at t a h
find_with_at t a (Some v) h = find_put_at t a v

pub find_with_other : (t : Table) (a : ℕ) (s : Option ℤ) (c : ℕ) → c ≢ a → find (with_total t a s) c ≡ find t c
find_with_other t a None c n = find_changed_other (delete a) t c n
find_with_other t a (Some v) c n = find_changed_other (insert a v) t c n

-- ---- how many accounts a table has

-- one where it is there
abbrev pub number : Option ℤ → ℕ
number None = 0
number (Some v) = 1

length_put : (t : Table) (a : ℕ) (v : ℤ) → Ascending t → length (put t a v) + number (find t a) ≡ length t + 1
unfolding put find
length_put [] a v h = refl
length_put (e ∷ t) a v h =
    lt_elim P a e.0 ((a, v) ∷ e ∷ t) (when eqb a e.0 then (a, v) ∷ t else e ∷ put t a v)
    (λ l. rw (other (λ q. omega arith), find_above e.0 t a (omega arith) h.0) (omega arith))
    (λ l. eq_elim P a e.0 ((a, v) ∷ t) (e ∷ put t a v)
    (λ q. rw (if_eq e.0 a (Some e.1) (find t a) (sym q)) (omega arith))
    (λ n. rw (other (λ q. n (sym q))) (omega (arith, length_put t a v h.1))))
  where
    P : Table → Type 0
    P z = length z + number (find (e ∷ t) a) ≡ suc (length t) + 1

    other : e.0 ≢ a → find (e ∷ t) a ≡ find t a
    other n = if_ne e.0 a (Some e.1) (find t a) n

length_remove : (t : Table) (a : ℕ) → length (remove t a) + number (find t a) ≡ length t + 0
unfolding remove find
length_remove [] a = refl
length_remove (e ∷ t) a =
    eq_elim (λ (z : Table). length z + number (find (e ∷ t) a) ≡ suc (length t) + 0) e.0 a t (e ∷ remove t a)
    (λ q. rw (if_eq e.0 a (Some e.1) (find t a) q) (omega arith))
    (λ n. rw (if_ne e.0 a (Some e.1) (find t a) n) (omega (arith, length_remove t a)))

-- ---- how many of them have these first bits

-- the number, of an account with the first bits q
unfoldable pub among : ℕ → ℕ → ℕ → ℕ → ℕ
among M q a n = when eqb (first_bits M a) q then n else 0

-- an update that makes n of an account makes n of it among those with its first bits
length_having :
    (M q n : ℕ) (u : Update) (t : Table) → Ascending t
    → ((t : Table) → Ascending t → length (changed u t) + number (find t (account u)) ≡ length t + n)
    → length (having M q (changed u t)) + among M q (account u) (number (find t (account u)))
    ≡ length (having M q t) + among M q (account u) n
unfolding among
length_having M q n u t h law =
    if_elim₂ (λ (c d : ℕ). length (having M q (changed u t)) + c ≡ length (having M q t) + d)
    (eqb (first_bits M a) q) (number (find t a)) 0 n 0
    (λ e. subst (λ (q : ℕ). length (having M q (changed u t)) + number (find t a) ≡ length (having M q t) + n)
    (eqb-true (first_bits M a) q e)
    (rw (having_changed M u t h, ← find_having_in M (first_bits M a) t a refl)
    (law (having M (first_bits M a) t) (ascending_having M (first_bits M a) t h))))
    (λ e. rw (having_changed_other M q u t h (λ p. eqb-false (first_bits M a) q e (sym p))))
  where
    a : ℕ
    a = account u

pub length_having_with :
    (M q : ℕ) (t : Table) (a : ℕ) (s : Option ℤ) → Ascending t
    → length (having M q (with_total t a s)) + among M q a (number (find t a)) ≡ length (having M q t) + among M q a (number s)
unfolding changed
length_having_with M q t a None h = length_having M q 0 (delete a) t h (λ t h. length_remove t a)
length_having_with M q t a (Some v) h = length_having M q 1 (insert a v) t h (λ t h. length_put t a v h)

-- ---- balances put

-- the total comes back from its word
abbrev pub Kept : Option ℤ → Type 0
Kept None = Unit {0}
Kept (Some v) = to_z w64 (of_z w64 v) ≡ v

pub length_put_balance : (x : List ℕ) (j : ℕ) (s : Option ℤ) → length (put_balance x j s) ≡ length x
unfolding put_balance put_words
length_put_balance x j None = length-set (set x (j * 2) 0) (j * 2 + 1) 0 ∙ length-set x (j * 2) 0
length_put_balance x j (Some v) = length-set (set x (j * 2) 1) (j * 2 + 1) (of_z w64 v) ∙ length-set x (j * 2) 1

balance_words_at :
    (x : List ℕ) (j there total : ℕ) → j * 2 + 1 < length x → balance_at (put_words x j there total) j ≡ balance_of there total
unfolding balance_at there_at total_at put_words
balance_words_at x j there total l =
    let y : List ℕ = set x (j * 2) there in
    let n : length y ≡ length x = length-set x (j * 2) there in
    let p : get_or (set y (j * 2 + 1) total) (j * 2) 0 ≡ there =
    get_or-set_other y (j * 2 + 1) (j * 2) total 0 (λ e. omega arith) ∙ get_or-set_same x (j * 2) there 0 (omega arith) in
    let q : get_or (set y (j * 2 + 1) total) (j * 2 + 1) 0 ≡ total = get_or-set_same y (j * 2 + 1) total 0 (omega arith) in
    λ i. balance_of (p i) (q i)

balance_words_other :
    (x : List ℕ) (j there total k : ℕ) → k ≢ j → balance_at (put_words x j there total) k ≡ balance_at x k
unfolding balance_at there_at total_at put_words
balance_words_other x j there total k n = λ i. balance_of (away (k * 2) (λ e. omega arith) (λ e. omega arith) i)
    (away (k * 2 + 1) (λ e. omega arith) (λ e. omega arith) i)
  where
    away : (c : ℕ) → c ≢ j * 2 → c ≢ j * 2 + 1 → get_or (set (set x (j * 2) there) (j * 2 + 1) total) c 0 ≡ get_or x c 0
    away c m w = get_or-set_other (set x (j * 2) there) (j * 2 + 1) c total 0 w ∙ get_or-set_other x (j * 2) c there 0 m

pub balance_put_at : (x : List ℕ) (j : ℕ) (s : Option ℤ) → Kept s → j * 2 + 1 < length x → balance_at (put_balance x j s) j ≡ s
unfolding put_balance balance_of when◌then◌else◌
balance_put_at x j None k l = balance_words_at x j 0 0 l
balance_put_at x j (Some v) k l = balance_words_at x j 1 (of_z w64 v) l ∙ ap Some k

pub balance_put_other : (x : List ℕ) (j : ℕ) (s : Option ℤ) (k : ℕ) → k ≢ j → balance_at (put_balance x j s) k ≡ balance_at x k
unfolding put_balance
balance_put_other x j None k n = balance_words_other x j 0 0 k n
balance_put_other x j (Some v) k n = balance_words_other x j 1 (of_z w64 v) k n

-- ---- how many balances there are with these first bits

module _ (l : List ℕ) (M q : ℕ) where
  pub agreeing_suc :
      (x : List ℕ) (n : ℕ)
      → agreeing l M q x (suc n) ≡ agreeing l M q x n + among M q (account_logged l n) (number (balance_at x n))
  unfolding agreeing among balance_at balance_of when◌then◌else◌
  agreeing_suc x n = go (eqb (there_at x n) 0) (eqb (first_bits M (account_logged l n)) q) (agreeing l M q x n) (to_z w64 (total_at x n))
    where
      go :
          (p r : Bool) (k : ℕ) (v : ℤ)
          → when p then k else when r then suc k else k ≡ k + (when r then number (when p then None else Some v) else 0)
      go true true k v = omega arith
      go true false k v = omega arith
      go false true k v = omega arith
      go false false k v = omega arith

  module _ (x y : List ℕ) (j : ℕ) (same : (k : ℕ) → k ≢ j → balance_at y k ≡ balance_at x k) where
    agreeing_before : (n : ℕ) → n ≤ j → agreeing l M q y n ≡ agreeing l M q x n
    unfolding agreeing
    agreeing_before zero b = refl
    agreeing_before (suc n) b =
        rw (agreeing_suc y n, agreeing_suc x n, same n (λ e. omega arith), agreeing_before n (omega arith))

    pub agreeing_put : (n : ℕ) → j < n
        → agreeing l M q y n + among M q (account_logged l j) (number (balance_at x j))
        ≡ agreeing l M q x n + among M q (account_logged l j) (number (balance_at y j))
    agreeing_put zero b = absurd (omega arith)
    agreeing_put (suc n) b = by_cases (ℕ_discrete n j)
        (λ e. rw (agreeing_suc y n, agreeing_suc x n, agreeing_before n (omega arith), e) (omega arith))
        (λ m. rw (agreeing_suc y n, agreeing_suc x n, same n m) (omega (arith, agreeing_put n (omega arith))))
