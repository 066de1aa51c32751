-- Operations on a table that holds one account at most: the answer, and the balance afterwards, of each kind and case.
-- Rests on the sequential specification alone.
use Prim.Native.Nat.{ℕ}
use native.Mathlib.Omega.{arith}
use mathlib.Core.Path.{◌≡◌, refl, sym, ap, ◌∙◌}
use mathlib.Core.Bool.{Bool, true, false}
use Rattle.std.specs.Prelude.{Option, Some, None}
use lib.IntN.{ℤ, ◌+ℤ◌}
use borrow.Author.Tests.{eq-eqb, le-ltb}
use Rattle.interface.specs.declared.Answer.TheVariants.{Added, Replaced, Removed, Absent, Posted, Crowded, Overrun}
use Rattle.machine.specs.Choice.{when◌then◌else◌, ◌and◌}
use Rattle.machine.specs.Sequential.{Operation, update, lookup, Update, insert, delete, post, account, find, put, remove, present, total_or0}
use Rattle.machine.specs.Sequential.{is_total, sum, result, changed, creates, tried}
use Rattle.machine.specs.Calls.{operation_of}
use Rattle.machine.proofs.laws.Base.{and_right_false, if_eq}
use Rattle.logs.specs.Log.{Logged}
use Rattle.replay.specs.Replay.{alone, served_alone, given_alone, outcome_if, outcome_of}

-- ---- the account's total

find_alone : (a : ℕ) (s : Option ℤ) → find (alone a s) a ≡ s
unfolding find alone
find_alone a None = refl
find_alone a (Some v) = if_eq a a _ _ refl

find_put : (a : ℕ) (s : Option ℤ) (v : ℤ) → find (put (alone a s) a v) a ≡ Some v
unfolding find alone put when◌then◌else◌
find_put a None v = rw (eq-eqb a a refl)
find_put a (Some w) v = rw (le-ltb a a (omega arith), eq-eqb a a refl) (rw (eq-eqb a a refl))

find_removed : (a : ℕ) (s : Option ℤ) → find (remove (alone a s) a) a ≡ None
unfolding find alone remove when◌then◌else◌
find_removed a None = refl
find_removed a (Some w) = rw (eq-eqb a a refl)

-- ---- crowding

crowded_out : (u : Update) → creates u (alone (account u) None) ≡ true → served_alone true (update u) None ≡ (Crowded, None)
unfolding served_alone tried when◌then◌else◌ ◌and◌ alone find
crowded_out u e = rw e

has_room :
    (crowded : Bool) (u : Update) (s : Option ℤ) → crowded and creates u (alone (account u) s) ≡ false
    → served_alone crowded (update u) s ≡ (result u (alone (account u) s), find (changed u (alone (account u) s)) (account u))
unfolding served_alone tried when◌then◌else◌
has_room crowded u s e = rw e

-- an account that is there is not made
not_new : (crowded : Bool) (u : Update) (w : ℤ) → crowded and creates u (alone (account u) (Some w)) ≡ false
unfolding creates
not_new crowded (insert a v) w = rw (find_alone a (Some w)) (and_right_false crowded)
not_new crowded (delete a) w = and_right_false crowded
not_new crowded (post a v) w = rw (find_alone a (Some w)) (and_right_false crowded)

there : (crowded : Bool) (u : Update) (w : ℤ)
    → served_alone crowded (update u) (Some w)
    ≡ (result u (alone (account u) (Some w)), find (changed u (alone (account u) (Some w))) (account u))
there crowded u w = has_room crowded u (Some w) (not_new crowded u w)

-- crowding counts for a new account only
pub crowding_unused : (x : Logged) (crowded : Bool) (w : ℤ) → outcome_of x crowded (Some w) ≡ outcome_of x false (Some w)
unfolding outcome_of outcome_if served_alone
crowding_unused x crowded w = go (operation_of x.kind x.account x.total)
  where
    go : (o : Option Operation) → outcome_if x crowded (Some w) o ≡ outcome_if x false (Some w) o
    go None = refl
    go (Some (lookup a)) = refl
    go (Some (update u)) = ap (given_alone x) (there crowded u w ∙ sym (there false u w))

-- ---- inserts and deletes

module _ (a : ℕ) (v : ℤ) where
  pub inserts_there : (crowded : Bool) (w : ℤ) → served_alone crowded (update (insert a v)) (Some w) ≡ (Replaced, Some v)
  unfolding result changed present
  inserts_there crowded w = there crowded (insert a v) w ∙ rw (find_alone a (Some w), find_put a (Some w) v)

  pub inserts_crowded : served_alone true (update (insert a v)) None ≡ (Crowded, None)
  unfolding creates alone find
  inserts_crowded = crowded_out (insert a v) refl

  pub inserts_new : served_alone false (update (insert a v)) None ≡ (Added, Some v)
  unfolding result changed present ◌and◌
  inserts_new = has_room false (insert a v) None refl ∙ rw (find_alone a None, find_put a None v)

pub deletes_there : (a : ℕ) (crowded : Bool) (w : ℤ) → served_alone crowded (update (delete a)) (Some w) ≡ (Removed, None)
unfolding result changed present
deletes_there a crowded w = there crowded (delete a) w ∙ rw (find_alone a (Some w), find_removed a (Some w))

pub deletes_missing : (a : ℕ) (crowded : Bool) → served_alone crowded (update (delete a)) None ≡ (Absent, None)
unfolding result changed present creates
deletes_missing a crowded =
    has_room crowded (delete a) None (and_right_false crowded) ∙ rw (find_alone a None, find_removed a None)

-- ---- posts

module _ (a : ℕ) (v : ℤ) where
  pub posts_crowded : served_alone true (update (post a v)) None ≡ (Crowded, None)
  unfolding creates alone find
  posts_crowded = crowded_out (post a v) refl

  sum_alone : (s : Option ℤ) → sum (alone a s) a v ≡ total_or0 s +ℤ v
  unfolding sum
  sum_alone s = rw (find_alone a s)

  posts_alone : (s : Option ℤ)
      → served_alone false (update (post a v)) s
      ≡ (result (post a v) (alone a s), find (changed (post a v) (alone a s)) a)
  unfolding ◌and◌
  posts_alone s = has_room false (post a v) s refl

  pub posts_within :
      (s : Option ℤ) → is_total (total_or0 s +ℤ v) ≡ true
      → served_alone false (update (post a v)) s ≡ (Posted (total_or0 s +ℤ v), Some (total_or0 s +ℤ v))
  unfolding result changed when◌then◌else◌
  posts_within s e = posts_alone s ∙ rw (sum_alone s, e, find_put a s (total_or0 s +ℤ v))

  pub posts_outside :
      (s : Option ℤ) → is_total (total_or0 s +ℤ v) ≡ false → served_alone false (update (post a v)) s ≡ (Overrun, s)
  unfolding result changed when◌then◌else◌
  posts_outside s e = posts_alone s ∙ rw (sum_alone s, e, find_alone a s)
