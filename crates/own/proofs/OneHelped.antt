-- A round in which one worker's bit alone differs: that worker's update is all that is carried out.
-- Rests on the bucket's laws of a round.
use Rattle.std.specs.Prelude.{Option, Some, None}
use Prim.Native.Nat.{ℕ, zero, suc, ◌+◌, ◌-◌, ◌*◌, ◌≤◌, ◌<◌}
use native.Mathlib.Nat.{add-zero, add-suc}
use native.Mathlib.Omega.{arith}
use mathlib.Core.Path.{◌≡◌, refl, sym, ◌∙◌, ap}
use mathlib.Core.Logic.{◌≢◌}
use mathlib.Core.List.{List}
use lib.Dec.{ltb, eqb}
use Rattle.interface.specs.Numbers.{kind_insert, kind_post}
use Rattle.interface.specs.declared.Settings.{Settings}
use Rattle.fields.specs.Fields.{slot_size}
use Rattle.machine.proofs.laws.Base.{if_elim}
use Rattle.bucket.specs.State.{array_size, size_of, search_of, put_of, remove_of, settle_of}
use Rattle.rounds.specs.Rounds.{posted_of, post_of, changed_of, carry_of, help_of, helped_of, with_applied, round_of}
use Rattle.rules.specs.Rules.{descriptor_in, crowded_by, bit}
use Rattle.bucket.specs.declared.BucketState.{BucketState}
use Rattle.rules.specs.declared.Descriptor.{Descriptor}
use Rattle.arrays.specs.declared.Position.{Position}
use Rattle.arrays.specs.declared.Position.TheVariants.{At, Before}
use Rattle.rules.proofs.Laws.{pending_same}
use Rattle.rounds.proofs.Laws.{help_left}

-- ---- an update leaves the applied bits

put_applied : (x : BucketState) (p : Position) (a v : ℕ) → (put_of x p a v).applied ≡ x.applied
unfolding put_of
put_applied x (At i) a v = refl
put_applied x (Before i) a v = if_elim (λ (y : BucketState). y.applied ≡ x.applied) (ltb (size_of x) array_size) _ x (λ e. refl) (λ e. refl)

remove_applied : (x : BucketState) (p : Position) → (remove_of x p).applied ≡ x.applied
unfolding remove_of
remove_applied x (At i) = refl
remove_applied x (Before i) = refl

posted_applied : (x : BucketState) (j : ℕ) (p : Position) (u : Descriptor) (v : Option ℕ) → (posted_of x j p u v).applied ≡ x.applied
unfolding posted_of settle_of
posted_applied x j p u (Some total) = put_applied x p u.account total
posted_applied x j p u None = refl

change_applied : (x : BucketState) (j : ℕ) (p : Position) (u : Descriptor) → (changed_of x j p u).applied ≡ x.applied
unfolding changed_of post_of settle_of
change_applied x j p u =
    if_elim (λ (y : BucketState). y.applied ≡ x.applied) (eqb u.kind kind_insert) _ _ (λ e. put_applied x p u.account u.total)
    (λ e. if_elim (λ (y : BucketState). y.applied ≡ x.applied) (eqb u.kind kind_post) _ _ (λ f. posted_applied x j p u _)
    (λ f. remove_applied x p))

carry_applied : (x : BucketState) (s : Settings) (j : ℕ) (u : Descriptor) → (carry_of x s j u).applied ≡ x.applied
unfolding carry_of settle_of
carry_applied x s j u =
    let p : Position = search_of x u.account in
    if_elim (λ (y : BucketState). y.applied ≡ x.applied) (crowded_by s x.count u.kind p) _ _ (λ e. refl)
    (λ e. change_applied x j p u)

help_applied : (x : BucketState) (s : Settings) (d toggle j : ℕ) (u : Descriptor) → (help_of x s d toggle j u).applied ≡ x.applied
unfolding help_of
help_applied x s d toggle j u = if_elim (λ (y : BucketState). y.applied ≡ x.applied) _ _ x (λ e. carry_applied x s j u) (λ e. refl)

-- ---- a round

module _ (x : BucketState) (slots : List ℕ) (s : Settings) (d toggle w : ℕ)
    (others : (j : ℕ) → j ≢ w → bit toggle j ≡ bit x.applied j) where
  -- worker j helped in y with what was read in its slot
  abbrev pub helping : BucketState → ℕ → BucketState
  helping y j = help_of y s d toggle j (descriptor_in slots (slot_size * j))

  -- no other worker is helped
  help_other : (y : BucketState) (j : ℕ) → y.applied ≡ x.applied → j ≢ w → helping y j ≡ y
  help_other y j e n =
      help_left y s d toggle j _ (pending_same toggle y.applied j _ _ (others j n ∙ ap (λ (k : ℕ). bit k j) (sym e)))

  helped_before : (k : ℕ) → k ≤ w → helped_of x slots s d toggle k ≡ x
  unfolding helped_of
  helped_before zero h = refl
  helped_before (suc k) h =
      ap (λ (y : BucketState). helping y k) (helped_before k (omega arith)) ∙ help_other x k refl (λ e. omega arith)

  helped_after : (k : ℕ) → helped_of x slots s d toggle (suc w + k) ≡ helping x w
  unfolding helped_of
  helped_after zero = rw add-zero (ap (λ (y : BucketState). helping y w) (helped_before w (omega arith)))
  helped_after (suc k) =
      rw (add-suc (suc w) k)
      (ap (λ (y : BucketState). helping y (suc w + k)) (helped_after k)
      ∙ help_other (helping x w) (suc w + k) (help_applied x s d toggle w _) (λ e. omega arith))

  pub round_one : w < s.workers → with_applied (helping x w) toggle ≡ round_of x slots s d toggle
  unfolding round_of
  round_one h =
      let e : suc w + (s.workers - suc w) ≡ s.workers = omega arith in
      ap (λ (y : BucketState). with_applied y toggle) (sym (helped_after (s.workers - suc w)) ∙ ap (helped_of x slots s d toggle) e)
