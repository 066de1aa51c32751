-- The phases of an update before the first check, by their number. Rests on the machine's plan and its laws.
use Prim.Native.Nat.{ℕ, ◌+◌, ◌-◌, ◌*◌, ◌≤◌, ◌<◌}
use native.Mathlib.Omega.{arith}
use mathlib.Core.Path.{◌≡◌, refl, sym, ◌∙◌}
use lib.Dec.{leb}
use lib.ListN.{get_or}
use borrow.Author.Tests.{lt-leb}
use Rattle.machine.specs.Choice.{when◌then◌else◌}
use Rattle.machine.specs.Plan.{read_directory, flip_toggle, check_state, bucket_round, bucket_pass, pass, plan, phase}
use Rattle.machine.proofs.laws.Base.{if_false}
use Rattle.phases.proofs.Plans.{bucket-round, pass_bucket, plan_pass}

module _ (n : ℕ) where
  pub early_directory : phase n 1 ≡ read_directory
  unfolding phase plan pass
  early_directory = refl

  pub early_flip : phase n 2 ≡ flip_toggle
  unfolding phase plan pass bucket_pass
  early_flip = refl

  pub early_round :
      (k i : ℕ) → 3 ≤ k → k < 2 * n + 9 → i ≡ (when leb (n + 3) (k - 3) then k - 3 - (n + 3) else k - 3)
      → phase n k ≡ get_or (bucket_round n) i check_state
  early_round k i h m e =
      let z : k - 1 - 1 - 1 ≡ k - 3 = omega arith in
      plan_pass n k (k - 1) (omega arith) (sym (if_false _ _ (lt-leb (6 * n + 16) (k - 1) (omega arith))))
      ∙ pass_bucket n (k - 1) (omega arith) (omega arith)
      ∙ bucket-round n (k - 1 - 1) i (omega arith) (rw z e)
