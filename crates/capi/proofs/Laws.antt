-- What each flat function leaves and returns, from what the call of `table` left and answered. Rests on the definitions of specs/Flat.
use Prim.Native.Nat.{ℕ}
use mathlib.Core.Path.{◌≡◌}
use mathlib.Core.List.{List}
use lib.IntN.{ℤ}
use Rattle.rows.specs.Rows.{Shown}
use Rattle.rebates.specs.Rebates.{Rebated}
use Rattle.numbers.specs.Returned.{counted_number, counted_report}
use Rattle.capi.specs.Flat.{flat, reported, written, written_rebates}
use Rattle.std.specs.Prelude.{Result}
use Rattle.interface.specs.declared.Refusal.{Refusal}

-- the call of `table` left l and answered a

module _ {A : Type 0} (number : A → ℕ) (x : List ℕ × A) (l : List ℕ) (a : A) (k : ℕ) (e : (l, a) ≡ x) (n : k ≡ number a) where
  pub flat_is : (l, k) ≡ flat number x
  unfolding flat
  flat_is = rw (← e, n)

  pub reported_is :
      (report : List ℕ → A → List ℕ) (before after : List ℕ) → after ≡ report before a
      → record { lent = l; report = after; number = k } ≡ reported number report before x
  unfolding reported
  reported_is report before after r = rw (← e, n, r)

pub written_is :
    (x : Shown) (accounts : List ℕ) (totals : List ℤ) (a : Result ℕ Refusal) (k : ℕ) (before after : List ℕ)
    → record { accounts = accounts; totals = totals; listed = a } ≡ x
    → k ≡ counted_number a → after ≡ counted_report before a
    → record { accounts = accounts; totals = totals; report = after; number = k } ≡ written before x
unfolding written
written_is x accounts totals a k before after e n r = rw (← e, n, r)

pub written_rebates_is :
    (x : Rebated) (accounts rebates : List ℕ) (a : Result ℕ Refusal) (k : ℕ) (before after : List ℕ)
    → record { accounts = accounts; rebates = rebates; listed = a } ≡ x
    → k ≡ counted_number a → after ≡ counted_report before a
    → record { accounts = accounts; rebates = rebates; report = after; number = k } ≡ written_rebates before x
unfolding written_rebates
written_rebates_is x accounts rebates a k before after e n r = rw (← e, n, r)
