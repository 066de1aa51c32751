-- Laws of rounds, which the functions' proofs cite: each case of an update carried out and of help, a turn and the end of the loop.
-- Rests on the definitions of specs/Rounds.
use Rattle.std.specs.Prelude.{Option, Some, None}
use Prim.Native.Nat.{ℕ, zero, suc, ◌+◌, ◌-◌, ◌*◌, ◌/◌, ◌≤◌, ◌<◌}
use mathlib.Core.Path.{◌≡◌, refl, sym, ◌∙◌, ap}
use mathlib.Core.Logic.{◌≢◌}
use mathlib.Core.Bool.{true, false, not}
use mathlib.Core.List.{List}
use native.Mathlib.Nat.{add-zero, add-suc}
use native.Mathlib.Numerals.{add-one}
use native.Mathlib.Omega.{arith}
use lib.Dec.{ltb, eqb}
use lib.ListN.{length, get_or, set, get_or-eq_default}
use lib.Seq.{get_or-set_other}
use borrow.Author.Tests.{eq-eqb, ne_eqb}
use Rattle.interface.specs.Numbers.{kind_insert, kind_post, answer_number}
use Rattle.interface.specs.declared.Answer.TheVariants.{Crowded, Overrun}
use Rattle.interface.specs.declared.Settings.{Settings}
use Rattle.fields.specs.Fields.{slot_ticket, slot_size}
use Rattle.machine.specs.Choice.{when◌then◌else◌}
use Rattle.machine.proofs.laws.Base.{if_elim, if_true, if_false, if_ap, if_same, and_true, and_left_false, and_right_false}
use Rattle.bucket.specs.State.{array_size, size_of, search_of, total_in, put_of, remove_of, settle_of}
use Rattle.rounds.specs.Rounds.{posted_of, post_of, changed_of, carry_of, help_of, helped_of, with_applied, round_of}
use Rattle.rules.specs.Rules.{holds_back_by, descriptor_in, crowded_by, insert_answer, delete_answer, posted_number, pending_by}
use Rattle.bucket.specs.declared.BucketState.{BucketState}
use Rattle.rules.specs.declared.Descriptor.{Descriptor}
use Rattle.arrays.specs.declared.Position.{Position}
use Rattle.arrays.specs.declared.Position.TheVariants.{At, Before}
use Rattle.sums.specs.Sums.{sum_of}
use Rattle.rules.proofs.Laws.{pending_settled}

-- ---- one update

-- an update that is not crowded, by its kind
module _ (x : BucketState) (j : ℕ) (p : Position) (u : Descriptor) where
  pub change_insert :
      (y : BucketState) (answer : ℕ) → u.kind ≡ kind_insert → y ≡ put_of x p u.account u.total → answer ≡ insert_answer p
      → settle_of y j u.ticket answer 0 ≡ changed_of x j p u
  unfolding changed_of when◌then◌else◌
  change_insert y answer k g h = rw (g, h, eq-eqb u.kind kind_insert k)

  pub change_delete :
      (y : BucketState) (answer : ℕ) → (u.kind ≢ kind_insert) × (u.kind ≢ kind_post) → y ≡ remove_of x p → answer ≡ delete_answer p
      → settle_of y j u.ticket answer 0 ≡ changed_of x j p u
  unfolding changed_of when◌then◌else◌
  change_delete y answer k g h = rw (g, h, ne_eqb u.kind kind_insert k.0, ne_eqb u.kind kind_post k.1)

  -- a post, by what its sum is
  pub post_within :
      (y : BucketState) (total : ℕ) → sum_of (total_in x p) u.total ≡ Some total → y ≡ put_of x p u.account total
      → settle_of y j u.ticket posted_number total ≡ post_of x j p u
  unfolding post_of posted_of
  post_within y total e g = rw (e, g)

  pub post_outside :
      sum_of (total_in x p) u.total ≡ None → settle_of x j u.ticket (answer_number Overrun) 0 ≡ post_of x j p u
  unfolding post_of posted_of
  post_outside e = rw e

  module _ (kind : u.kind ≡ kind_post) where
    pub change_post : post_of x j p u ≡ changed_of x j p u
    unfolding changed_of when◌then◌else◌
    change_post = rw kind

    pub change_posted :
        (y : BucketState) (total : ℕ) → sum_of (total_in x p) u.total ≡ Some total → y ≡ put_of x p u.account total
        → settle_of y j u.ticket posted_number total ≡ changed_of x j p u
    change_posted y total e g = post_within y total e g ∙ change_post

    pub change_overrun :
        sum_of (total_in x p) u.total ≡ None → settle_of x j u.ticket (answer_number Overrun) 0 ≡ changed_of x j p u
    change_overrun e = post_outside e ∙ change_post

  -- crowded, or not
  module _ (s : Settings) (found : p ≡ search_of x u.account) where
    pub carry_crowded :
        crowded_by s x.count u.kind p ≡ true → settle_of x j u.ticket (answer_number Crowded) 0 ≡ carry_of x s j u
    unfolding carry_of
    carry_crowded e = sym (if_true _ _ (rw (← found) e))

    pub carry_changed : crowded_by s x.count u.kind p ≡ false → changed_of x j p u ≡ carry_of x s j u
    unfolding carry_of
    carry_changed e = sym (if_false _ _ (rw (← found) e) ∙ rw (← found) refl)

-- ---- help

module _ (x : BucketState) (s : Settings) (d toggle j : ℕ) (u : Descriptor) where
  pub help_left : pending_by toggle x.applied j (get_or x.settled j 0) u.ticket ≡ false → help_of x s d toggle j u ≡ x
  unfolding help_of
  help_left e = if_false _ x (and_left_false _ e)

  pub help_back : holds_back_by s d x.count ≡ true → help_of x s d toggle j u ≡ x
  unfolding help_of
  help_back e = if_false _ x (rw e (and_right_false _))

  pub help_carried :
      pending_by toggle x.applied j (get_or x.settled j 0) u.ticket ≡ true → holds_back_by s d x.count ≡ false
      → help_of x s d toggle j u ≡ carry_of x s j u
  unfolding help_of
  help_carried e h = if_true _ x (and_true e (ap not h))

-- ---- a round

-- the workers from m on have no slot: its ticket is read as 0
helped_past :
    (x : BucketState) (slots : List ℕ) (s : Settings) (d toggle m k : ℕ) → length slots < slot_size * m + slot_size
    → helped_of x slots s d toggle (m + k) ≡ helped_of x slots s d toggle m
unfolding helped_of descriptor_in
helped_past x slots s d toggle m zero h = rw add-zero
helped_past x slots s d toggle m (suc k) h =
    let y : BucketState = helped_of x slots s d toggle (m + k) in
    let none = get_or-eq_default slots 0 {n = slot_size * (m + k) + slot_ticket} (omega arith) in
    rw (add-suc)
    (help_left y s d toggle (m + k) _ (pending_settled toggle y.applied (m + k) (get_or y.settled (m + k) 0) _ (omega (arith, none)))
    ∙ helped_past x slots s d toggle m k h)

-- a worker's settled ticket changes by its own update only
put_settled : (x : BucketState) (p : Position) (a v : ℕ) → (put_of x p a v).settled ≡ x.settled
unfolding put_of
put_settled x (At i) a v = refl
put_settled x (Before i) a v =
    if_ap (λ (y : BucketState). y.settled) (ltb (size_of x) array_size) _ x ∙ if_same (ltb (size_of x) array_size) x.settled

remove_settled : (x : BucketState) (p : Position) → (remove_of x p).settled ≡ x.settled
unfolding remove_of
remove_settled x (At i) = refl
remove_settled x (Before i) = refl

posted_settled :
    (x : BucketState) (j : ℕ) (p : Position) (u : Descriptor) (v : Option ℕ) → (posted_of x j p u v).settled ≡ set x.settled j u.ticket
unfolding posted_of settle_of
posted_settled x j p u (Some total) = ap (λ (l : List ℕ). set l j u.ticket) (put_settled x p u.account total)
posted_settled x j p u None = refl

change_settled :
    (x : BucketState) (j : ℕ) (p : Position) (u : Descriptor) → (changed_of x j p u).settled ≡ set x.settled j u.ticket
unfolding changed_of post_of settle_of
change_settled x j p u =
    if_elim (λ (y : BucketState). y.settled ≡ set x.settled j u.ticket) (eqb u.kind kind_insert) _ _
    (λ e. ap (λ (l : List ℕ). set l j u.ticket) (put_settled x p u.account u.total))
    (λ e. if_elim (λ (y : BucketState). y.settled ≡ set x.settled j u.ticket) (eqb u.kind kind_post) _ _
    (λ f. posted_settled x j p u _) (λ f. ap (λ (l : List ℕ). set l j u.ticket) (remove_settled x p)))

carry_settled : (x : BucketState) (s : Settings) (j : ℕ) (u : Descriptor) → (carry_of x s j u).settled ≡ set x.settled j u.ticket
unfolding carry_of settle_of
carry_settled x s j u =
    let p : Position = search_of x u.account in
    if_elim (λ (y : BucketState). y.settled ≡ set x.settled j u.ticket) (crowded_by s x.count u.kind p) _ _ (λ e. refl)
    (λ e. change_settled x j p u)

help_settled :
    (x : BucketState) (s : Settings) (d toggle j : ℕ) (u : Descriptor) (i : ℕ) → i ≢ j
    → get_or (help_of x s d toggle j u).settled i 0 ≡ get_or x.settled i 0
unfolding help_of
help_settled x s d toggle j u i n =
    if_elim (λ (y : BucketState). get_or y.settled i 0 ≡ get_or x.settled i 0) _ _ _
    (λ e. ap (λ (l : List ℕ). get_or l i 0) (carry_settled x s j u) ∙ get_or-set_other x.settled j i u.ticket 0 n)
    (λ e. refl)

module _ (x : BucketState) (slots : List ℕ) (s : Settings) (d toggle : ℕ) where
  pub helped_settled : (k i : ℕ) → k ≤ i → get_or (helped_of x slots s d toggle k).settled i 0 ≡ get_or x.settled i 0
  unfolding helped_of
  helped_settled zero i h = refl
  helped_settled (suc k) i h = help_settled _ s d toggle k _ i (omega arith) ∙ helped_settled k i (omega arith)

  -- one worker more
  pub helped_turn :
      (j : ℕ) (y z : BucketState) → z ≡ help_of y s d toggle j (descriptor_in slots (slot_size * j)) → y ≡ helped_of x slots s d toggle j
      → z ≡ helped_of x slots s d toggle (j + 1)
  unfolding helped_of
  helped_turn j y z p q = rw (add-one, ← q) p

  -- n workers, or as many as there are slots
  pub helped_few :
      (n m : ℕ) → m ≤ n → m ≡ length slots / slot_size → helped_of x slots s d toggle n ≡ helped_of x slots s d toggle m
  helped_few n m h e =
      let split : n ≡ m + (n - m) = omega arith in
      ap (helped_of x slots s d toggle) split ∙ helped_past x slots s d toggle m (n - m) (omega arith)

  pub round_end :
      (m : ℕ) (y : BucketState) → y ≡ helped_of x slots s d toggle m
      → helped_of x slots s d toggle s.workers ≡ helped_of x slots s d toggle m → with_applied y toggle ≡ round_of x slots s d toggle
  unfolding round_of
  round_end m y p q = rw (q, ← p)
