-- Which updates are crowded on the plain table (document 02, No. 2), and that an account which is there can be corrected and closed.
-- Rests on the definition of the plain table.
use Prim.Native.Nat.{ℕ}
use native.Mathlib.Omega.{arith}
use mathlib.Core.Path.{◌≡◌, refl, ◌∙◌, ap}
use mathlib.Core.Logic.{◌≢◌}
use mathlib.Core.Bool.{true, false}
use Rattle.std.specs.Prelude.{Option, Some, None}
use lib.IntN.{ℤ, ◌+ℤ◌}
use Rattle.interface.specs.Numbers.{answer_number}
use Rattle.interface.specs.declared.Answer.{Answer}
use Rattle.interface.specs.declared.Answer.TheVariants.{Replaced, Removed, Posted, Crowded, Overrun}
use Rattle.machine.specs.Choice.{when◌then◌else◌, ◌and◌}
use Rattle.machine.specs.Sequential.{Update, insert, delete, post, update, account, Table, find, put, remove, present, total_or0, is_total, sum, result, changed, creates, tried, crowds, serve}
use Rattle.machine.proofs.laws.Base.{if_elim, if_true, if_false, and_true, and_parts, and_right_false}

present_apart : (x : Option ℤ) {there missing : Answer} → there ≢ Crowded → missing ≢ Crowded → present x there missing ≢ Crowded
unfolding present
present_apart (Some x) f g = f
present_apart None f g = g

-- what an update does is not answered crowded
result_apart : (u : Update) (t : Table) → result u t ≢ Crowded
unfolding result
result_apart (insert a v) t =
    present_apart (find t a) (λ e. omega (arith, ap answer_number e)) (λ e. omega (arith, ap answer_number e))
result_apart (delete a) t =
    present_apart (find t a) (λ e. omega (arith, ap answer_number e)) (λ e. omega (arith, ap answer_number e))
result_apart (post a v) t =
    if_elim (λ (r : Answer). r ≢ Crowded) (is_total (sum t a v)) (Posted (sum t a v)) Overrun
    (λ h e. omega (arith, ap answer_number e)) (λ h e. omega (arith, ap answer_number e))

module _ (b M : ℕ) where
  -- "Crowded is left for a new account where b others agree with it in the first M bits."
  pub crowded_if :
      (u : Update) (t : Table) → creates u t ≡ true → crowds b M (account u) t ≡ true → serve b M (update u) t ≡ (Crowded, t)
  unfolding serve tried
  crowded_if u t new full = if_true (Crowded, t) (result u t, changed u t) (and_true full new)

  pub crowded_only_if :
      (u : Update) (t : Table) → (serve b M (update u) t).0 ≡ Crowded → (crowds b M (account u) t ≡ true) × (creates u t ≡ true)
  unfolding serve tried
  crowded_only_if u t =
      if_elim (λ (x : Answer × Table). x.0 ≡ Crowded → (crowds b M (account u) t ≡ true) × (creates u t ≡ true))
      (crowds b M (account u) t and creates u t) (Crowded, t) (result u t, changed u t)
      (λ h e. and_parts _ _ h) (λ h e. absurd (result_apart u t e))

  not_crowded : (u : Update) (t : Table) → creates u t ≡ false → serve b M (update u) t ≡ (result u t, changed u t)
  unfolding serve tried
  not_crowded u t old =
      if_false (Crowded, t) (result u t, changed u t) (rw old (and_right_false (crowds b M (account u) t)))

  -- "closing or correcting an account must work however many neighbours it has"
  module _ (a : ℕ) (x : ℤ) (t : Table) (there : find t a ≡ Some x) where
    pub closed : serve b M (update (delete a)) t ≡ (Removed, remove t a)
    unfolding creates result changed present
    closed = not_crowded (delete a) t refl ∙ rw there

    pub replaced : (v : ℤ) → serve b M (update (insert a v)) t ≡ (Replaced, put t a v)
    unfolding creates result changed present
    replaced v = not_crowded (insert a v) t (rw there) ∙ rw there

    pub posted :
        (v : ℤ) → is_total (x +ℤ v) ≡ true → serve b M (update (post a v)) t ≡ (Posted (x +ℤ v), put t a (x +ℤ v))
    unfolding creates result changed sum total_or0 when◌then◌else◌
    posted v within = not_crowded (post a v) t (rw there) ∙ rw (there, within)
