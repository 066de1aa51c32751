-- Where the plan's four checks stand: the number of a check by the steps before it. Rests on the plan's parts.
use Prim.Native.Nat.{ℕ, zero, suc, ◌+◌, ◌-◌, ◌*◌, ◌≤◌, ◌<◌}
use native.Mathlib.Omega.{arith}
use mathlib.Core.Path.{◌≡◌, refl}
use mathlib.Core.List.{List, [], ◌∷◌, ◌++◌}
use lib.ListN.{length, take}
use Rattle.machine.specs.Plan.{Phase, read_directory, bucket_pass, check, directory_pass, pass, plan, is_check, checks_in, check_number}
use Rattle.machine.proofs.laws.PlanParts.{All, nil, cons, all_buckets, all_directories, buckets_first, check_first, directories_first, length_pass}

-- ---- checks among the first steps

-- the checks among the first k of these steps
abbrev checks_to : List Phase → ℕ → ℕ
checks_to l k = checks_in (take k l)

to_append : (l m : List Phase) (k : ℕ) → checks_to (l ++ m) k ≡ checks_to l k + checks_to m (k - length l)
unfolding checks_in
to_append [] m zero = refl
to_append [] m (suc k) = let e : suc k - 0 ≡ suc k = omega arith in rw e (omega arith)
to_append (x ∷ l) m zero = let e : 0 - length (x ∷ l) ≡ 0 = omega arith in rw e
to_append (x ∷ l) m (suc k) =
    let e : suc k - length (x ∷ l) ≡ k - length l = omega arith in
    rw e (omega (arith, to_append l m k))

-- a step that is no check, and a list of such
abbrev Plain : Phase → Type 0
Plain x = is_check x ≡ 0

plain_none : {l : List Phase} → All Plain l → (k : ℕ) → checks_to l k ≡ 0
unfolding checks_in
plain_none a zero = refl
plain_none nil (suc k) = refl
plain_none (cons h a) (suc k) = omega (arith, h, plain_none a k)

check_low : (k : ℕ) → k < 2 → checks_to check k ≡ 0
unfolding checks_in is_check check
check_low zero h = refl
check_low (suc zero) h = refl
check_low (suc (suc k)) h = absurd (omega arith)

check_most : (k : ℕ) → checks_to check k ≤ 1
unfolding checks_in is_check check
check_most zero = omega arith
check_most (suc zero) = omega arith
check_most (suc (suc zero)) = omega arith
check_most (suc (suc (suc k))) = omega arith

check_high : (k : ℕ) → 2 ≤ k → checks_to check k ≡ 1
unfolding checks_in is_check check
check_high zero h = absurd (omega arith)
check_high (suc zero) h = absurd (omega arith)
check_high (suc (suc zero)) h = refl
check_high (suc (suc (suc k))) h = refl

module _ (n : ℕ) where
  plain_buckets : All Plain (read_directory ∷ bucket_pass n)
  unfolding is_check
  plain_buckets = cons refl (all_buckets Plain n (λ j h. refl) refl refl refl refl)

  plain_directories : All Plain (directory_pass n)
  unfolding is_check
  plain_directories = all_directories Plain n (λ j h. refl) (λ j h. refl) refl refl

  pass_checks : (k : ℕ) → checks_to (pass n) k ≡ checks_to check (k - (2 * n + 8)) + checks_to check (k - (6 * n + 14))
  unfolding pass
  pass_checks k =
      let buckets : List Phase = read_directory ∷ bucket_pass n in
      let a = rw (directories_first n) at (to_append (buckets ++ check ++ directory_pass n) check k) in
      let b = rw (check_first n) at (to_append (buckets ++ check) (directory_pass n) k) in
      let c = rw (buckets_first n) at (to_append buckets check k) in
      omega (arith, a, b, c, plain_none plain_buckets k, plain_none plain_directories (k - (2 * n + 10)))

  -- ---- the number of a check

  -- of the check that begins i steps after announcing: 1 where its second step is among the first k after announcing, else 0
  abbrev made : ℕ → ℕ → ℕ
  made k i = checks_to check (k - i)

  number_is :
      (k : ℕ) → check_number n k
      ≡ made k (2 * n + 8) + made k (6 * n + 14) + made k (8 * n + 24) + made k (12 * n + 30)
  unfolding check_number plan checks_in is_check
  number_is k =
      let twice = rw (length_pass n) at (to_append (pass n) (pass n) k) in
      let e : k - (6 * n + 16) - (2 * n + 8) ≡ k - (8 * n + 24) = omega arith in
      let f : k - (6 * n + 16) - (6 * n + 14) ≡ k - (12 * n + 30) = omega arith in
      let later = rw (e, f) at (pass_checks (k - (6 * n + 16))) in
      omega (arith, twice, pass_checks k, later)

  pub number_most : (k : ℕ) → check_number n k ≤ 4
  number_most k =
      omega (
        arith,
        number_is k,
        check_most (k - (2 * n + 8)),
        check_most (k - (6 * n + 14)),
        check_most (k - (8 * n + 24)),
        check_most (k - (12 * n + 30)),
      )

  module _ (k : ℕ) where
    low : (i : ℕ) → k < i + 2 → made k i ≡ 0
    low i h = check_low (k - i) (omega arith)

    high : (i : ℕ) → i + 2 ≤ k → made k i ≡ 1
    high i h = check_high (k - i) (omega arith)

    -- the number, where it is known of each check whether it is made by then
    counted :
        (a b c d : ℕ) → made k (2 * n + 8) ≡ a → made k (6 * n + 14) ≡ b → made k (8 * n + 24) ≡ c → made k (12 * n + 30) ≡ d
        → check_number n k ≡ a + b + c + d
    counted a b c d p q r t = omega (arith, number_is k, p, q, r, t)

    pub before_first : k < 2 * n + 10 → check_number n k ≡ 0
    before_first h = counted 0 0 0 0 (low _ (omega arith)) (low _ (omega arith)) (low _ (omega arith)) (low _ (omega arith))

    pub from_first : 2 * n + 10 ≤ k → k < 6 * n + 16 → check_number n k ≡ 1
    from_first g h = counted 1 0 0 0 (high _ (omega arith)) (low _ (omega arith)) (low _ (omega arith)) (low _ (omega arith))

    pub from_second : 6 * n + 16 ≤ k → k < 8 * n + 26 → check_number n k ≡ 2
    from_second g h = counted 1 1 0 0 (high _ (omega arith)) (high _ (omega arith)) (low _ (omega arith)) (low _ (omega arith))

    pub from_third : 8 * n + 26 ≤ k → k < 12 * n + 32 → check_number n k ≡ 3
    from_third g h = counted 1 1 1 0 (high _ (omega arith)) (high _ (omega arith)) (high _ (omega arith)) (low _ (omega arith))

    pub from_fourth : 12 * n + 32 ≤ k → check_number n k ≡ 4
    from_fourth g = counted 1 1 1 1 (high _ (omega arith)) (high _ (omega arith)) (high _ (omega arith)) (high _ (omega arith))
