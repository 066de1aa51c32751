-- Updates carried out and rounds keep the items of a state's arrays, and never have more accounts than a bucket has room for; a round
-- where no bit differs changes nothing. Rests on the laws of a state and of rounds.
use Rattle.std.specs.Prelude.{Option, Some, None}
use Prim.Native.Nat.{ℕ, zero, suc, ◌≤◌}
use native.Mathlib.Omega.{arith}
use mathlib.Core.Bool.{true, false}
use mathlib.Core.List.{List}
use lib.Dec.{eqb}
use mathlib.Core.Path.{◌≡◌, refl, ◌∙◌, ap}
use lib.ListN.{get_or}
use borrow.Author.Tests.{eqb-true, eqb-false}
use Rattle.interface.specs.Numbers.{kind_insert, kind_post}
use Rattle.interface.specs.declared.Settings.{Settings}
use Rattle.machine.proofs.laws.Base.{if_elim}
use Rattle.bucket.specs.State.{put_of, settle_of}
use Rattle.rounds.specs.Rounds.{posted_of, post_of, changed_of, carry_of, help_of, helped_of, with_applied, round_of}
use Rattle.bucket.specs.declared.BucketState.{BucketState}
use Rattle.rules.specs.declared.Descriptor.{Descriptor}
use Rattle.arrays.specs.declared.Position.{Position}
use Rattle.arrays.specs.declared.Position.TheVariants.{At, Before}
use Rattle.rounds.proofs.Laws.{help_left}
use Rattle.bucket.proofs.Sizes.{Sized, put_sized, remove_sized, settle_sized, put_count, remove_count}
use Rattle.rules.specs.Rules.{creates_by, crowded_by, bit}
use Rattle.rules.proofs.Laws.{creates_insert, creates_post, room_left, pending_same}

-- ---- a state's arrays keep their items

posted_sized : (x : BucketState) (j : ℕ) (p : Position) (u : Descriptor) (v : Option ℕ) → Sized x → Sized (posted_of x j p u v)
unfolding posted_of
posted_sized x j p u (Some total) z = settle_sized _ j u.ticket _ total (put_sized x p u.account total z)
posted_sized x j p u None z = settle_sized x j u.ticket _ 0 z

change_sized : (x : BucketState) (j : ℕ) (p : Position) (u : Descriptor) → Sized x → Sized (changed_of x j p u)
unfolding changed_of post_of
change_sized x j p u z =
    if_elim Sized (eqb u.kind kind_insert) _ _ (λ e. settle_sized _ j u.ticket _ 0 (put_sized x p u.account u.total z))
    (λ e. if_elim Sized (eqb u.kind kind_post) _ _ (λ f. posted_sized x j p u _ z)
    (λ f. settle_sized _ j u.ticket _ 0 (remove_sized x p z)))

pub carry_sized : (x : BucketState) (s : Settings) (j : ℕ) (u : Descriptor) → Sized x → Sized (carry_of x s j u)
unfolding carry_of
carry_sized x s j u z = if_elim Sized _ _ _ (λ e. settle_sized x j u.ticket _ 0 z) (λ e. change_sized x j _ u z)

helped_sized : (x : BucketState) (slots : List ℕ) (s : Settings) (d toggle n : ℕ) → Sized x → Sized (helped_of x slots s d toggle n)
unfolding helped_of help_of
helped_sized x slots s d toggle zero z = z
helped_sized x slots s d toggle (suc j) z =
    let y = helped_sized x slots s d toggle j z in
    if_elim Sized _ _ _ (λ e. carry_sized _ s j _ y) (λ e. y)

pub round_sized : (x : BucketState) (slots : List ℕ) (s : Settings) (d toggle : ℕ) → Sized x → Sized (round_of x slots s d toggle)
unfolding round_of with_applied
round_sized x slots s d toggle z =
    let y = helped_sized x slots s d toggle s.workers z in
    record { accounts = y.accounts; totals = y.totals; settled = y.settled; answers = y.answers; posted = y.posted }

-- ---- counts, and a round that changes nothing

module _ (x : BucketState) (s : Settings) (h : x.count ≤ s.capacity) where
  -- an update that is not crowded and may make an account
  module _ (j : ℕ) (p : Position) (u : Descriptor) (uncrowded : crowded_by s x.count u.kind p ≡ false)
      (new : (i : ℕ) → p ≡ Before i → creates_by u.kind p ≡ true) where
    placed_count : (q : Position) → p ≡ q → (v : ℕ) → (put_of x q u.account v).count ≤ s.capacity
    unfolding put_of
    placed_count (At i) e v = h
    placed_count (Before i) e v =
        let k = put_count x (Before i) u.account v in
        let f = room_left s x.count u.kind p (new i e) uncrowded in
        omega arith

    posted_count : (v : Option ℕ) → (posted_of x j p u v).count ≤ s.capacity
    unfolding posted_of settle_of
    posted_count (Some total) = placed_count p refl total
    posted_count None = h

  change_count :
      (j : ℕ) (p : Position) (u : Descriptor) → crowded_by s x.count u.kind p ≡ false → (changed_of x j p u).count ≤ s.capacity
  unfolding changed_of post_of settle_of
  change_count j p u uncrowded =
      if_elim (λ (z : BucketState). z.count ≤ s.capacity) (eqb u.kind kind_insert) _ _
      (λ e. placed_count j p u uncrowded (λ i m. creates_insert u.kind i p m (eqb-true _ _ e)) p refl u.total)
      (λ e. if_elim (λ (z : BucketState). z.count ≤ s.capacity) (eqb u.kind kind_post) _ _
      (λ f. posted_count j p u uncrowded (λ i m. creates_post u.kind i p m (eqb-false _ _ e) ∙ f) _)
      (λ f. let k = remove_count x p in omega arith))

  pub carry_count : (j : ℕ) (u : Descriptor) → (carry_of x s j u).count ≤ s.capacity
  unfolding carry_of settle_of
  carry_count j u = if_elim (λ (z : BucketState). z.count ≤ s.capacity) _ _ _ (λ e. h) (λ e. change_count j _ u e)

  pub help_count : (d toggle j : ℕ) (u : Descriptor) → (help_of x s d toggle j u).count ≤ s.capacity
  unfolding help_of
  help_count d toggle j u = if_elim (λ (z : BucketState). z.count ≤ s.capacity) _ _ _ (λ e. carry_count j u) (λ e. h)

module _ (x : BucketState) (slots : List ℕ) (s : Settings) (d toggle : ℕ) where
  pub helped_count : (k : ℕ) → x.count ≤ s.capacity → (helped_of x slots s d toggle k).count ≤ s.capacity
  unfolding helped_of
  helped_count zero h = h
  helped_count (suc k) h = help_count (helped_of x slots s d toggle k) s (helped_count k h) d toggle k _

  pub round_count : x.count ≤ s.capacity → (round_of x slots s d toggle).count ≤ s.capacity
  unfolding round_of with_applied
  round_count h = helped_count s.workers h

  -- where no bit differs nobody is helped
  module _ (e : toggle ≡ x.applied) where
    help_idle : (j : ℕ) (u : Descriptor) → help_of x s d toggle j u ≡ x
    help_idle j u =
        help_left x s d toggle j u (pending_same toggle x.applied j (get_or x.settled j 0) u.ticket (ap (λ (k : ℕ). bit k j) e))

    helped_idle : (k : ℕ) → helped_of x slots s d toggle k ≡ x
    unfolding helped_of
    helped_idle zero = refl
    helped_idle (suc k) = rw (helped_idle k) (help_idle k _)

    pub round_idle : round_of x slots s d toggle ≡ x
    unfolding round_of with_applied
    round_idle = let h = helped_idle s.workers in
        λ i. record {
          accounts = (h i).accounts;
          totals = (h i).totals;
          settled = (h i).settled;
          answers = (h i).answers;
          posted = (h i).posted;
          count = (h i).count;
          applied = e i;
        }
