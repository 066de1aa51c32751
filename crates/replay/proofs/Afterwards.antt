-- The balances after an operation, by what it makes of its account's balance; crowding is asked for a new account only.
-- Rests on the laws of one account.
use Prim.Native.Nat.{ℕ, ◌+◌, ◌*◌}
use native.Mathlib.Decide.{ℕ_discrete}
use mathlib.Core.Path.{◌≡◌, refl, sym, ◌∙◌}
use mathlib.Core.Logic.{◌≢◌, by_cases}
use mathlib.Core.Bool.{Bool, true, false}
use mathlib.Core.List.{List}
use Rattle.std.specs.Prelude.{Option, Some, None}
use lib.IntN.{ℤ}
use lib.ListN.{set}
use mir.Syntax.{w64}
use mir.Val.{to_z, of_z}
use Rattle.machine.proofs.laws.Base.{if_eq, if_ne}
use Rattle.logs.specs.Log.{Logged}
use Rattle.replay.specs.declared.Effect.TheVariants.{Unchanged, Balance}
use Rattle.replay.specs.Balances.{balance_of, put_words, put_balance}
use Rattle.replay.specs.Replay.{outcome_of, as_effect, as_outcome, put_if}
use Rattle.replay.proofs.Alone.{crowding_unused}

-- ---- balances in words

pub balance_there : (there total : ℕ) → there ≢ 0 → balance_of there total ≡ Some (to_z w64 total)
unfolding balance_of
balance_there there total e = if_ne there 0 _ _ e

pub balance_missing : (there total : ℕ) → there ≡ 0 → balance_of there total ≡ None
unfolding balance_of
balance_missing there total e = if_eq there 0 _ _ e

-- crowding counts where the account is not there
pub crowding_asked :
    (x : Logged) (asked crowded : Bool) (there total : ℕ) → (there ≡ 0 → asked ≡ crowded)
    → outcome_of x asked (balance_of there total) ≡ outcome_of x crowded (balance_of there total)
crowding_asked x asked crowded there total h =
    by_cases (ℕ_discrete there 0) (λ e. rw (h e))
    (λ e. rw (balance_there there total e) (crowding_unused x asked (to_z w64 total) ∙ sym (crowding_unused x crowded (to_z w64 total))))

-- ---- the balances afterwards

module _ (x : List ℕ) (j : ℕ) where
  pub after_balance :
      (still : Bool) (o : Option (Option ℤ)) (there total : ℕ) → as_outcome still o ≡ Some (Balance there total)
      → Some (set (set x (j * 2) there) (j * 2 + 1) total) ≡ put_if x j still o
  unfolding as_outcome as_effect put_if put_balance put_words
  after_balance still None there total e = cc
  after_balance true (Some s) there total e = cc
  after_balance false (Some None) there total e =
      let p : 0 ≡ there = cc in let q : 0 ≡ total = cc in rw (← p, ← q)
  after_balance false (Some (Some v)) there total e =
      let p : 1 ≡ there = cc in let q : of_z w64 v ≡ total = cc in rw (← p, ← q)

  pub after_nothing :
      (still : Bool) (o : Option (Option ℤ)) → as_outcome still o ≡ Some Unchanged → Some x ≡ put_if x j still o
  unfolding as_outcome as_effect put_if
  after_nothing still None e = cc
  after_nothing true (Some s) e = refl
  after_nothing false (Some None) e = cc
  after_nothing false (Some (Some v)) e = cc

  pub after_another : (still : Bool) (o : Option (Option ℤ)) → as_outcome still o ≡ None → None ≡ put_if x j still o
  unfolding as_outcome put_if
  after_another still None e = refl
  after_another still (Some s) e = cc
