-- The first place of an account, and the accounts that agree, counted place by place. Rests on their definitions alone.
use Prim.Native.Nat.{ℕ, suc, ◌+◌, ◌-◌, ◌≤◌, ◌<◌}
use native.Mathlib.Omega.{arith}
use native.Mathlib.Numerals.{add-one}
use mathlib.Core.Path.{◌≡◌, ◌∙◌}
use mathlib.Core.Logic.{◌≢◌}
use mathlib.Core.List.{List}
use Rattle.machine.specs.Sequential.{first_bits}
use Rattle.machine.proofs.laws.Base.{if_eq, if_ne}
use Rattle.replay.specs.Balances.{account_logged, first_from, there_at, agreeing}

-- ---- the first place of an account

module _ (l : List ℕ) (a i j : ℕ) where
  pub first_hit : j < i → account_logged l j ≡ a → first_from l a (i - j) j ≡ j
  unfolding first_from
  first_hit h e = let k : i - j ≡ suc (i - suc j) = omega arith in rw k (if_eq (account_logged l j) a j _ e)

  pub first_turn : j < i → account_logged l j ≢ a → first_from l a (i - j) j ≡ first_from l a (i - (j + 1)) (j + 1)
  unfolding first_from
  first_turn h e = let k : i - j ≡ suc (i - suc j) = omega arith in rw (k, add-one j) (if_ne (account_logged l j) a j _ e)

  pub first_end : i ≤ j → first_from l a (i - j) j ≡ j
  unfolding first_from
  first_end h = let k : i - j ≡ 0 = omega arith in rw k

-- ---- the accounts that agree

module _ (l : List ℕ) (M q : ℕ) (x : List ℕ) (j : ℕ) where
  pub agree_missing : there_at x j ≡ 0 → agreeing l M q x (j + 1) ≡ agreeing l M q x j
  unfolding agreeing
  agree_missing e = rw (add-one j) (if_eq (there_at x j) 0 _ _ e)

  module _ (there : there_at x j ≢ 0) where
    pub agree_same : first_bits M (account_logged l j) ≡ q → agreeing l M q x (j + 1) ≡ agreeing l M q x j + 1
    unfolding agreeing
    agree_same e =
        rw (add-one j, add-one (agreeing l M q x j)) (if_ne (there_at x j) 0 _ _ there ∙ if_eq (first_bits M (account_logged l j)) q _ _ e)

    pub agree_other : first_bits M (account_logged l j) ≢ q → agreeing l M q x (j + 1) ≡ agreeing l M q x j
    unfolding agreeing
    agree_other e =
        rw (add-one j) (if_ne (there_at x j) 0 _ _ there ∙ if_ne (first_bits M (account_logged l j)) q _ _ e)
