-- The balances of a log's places simulate the plain table: what they mean, that they mean the empty table at first, and that a logged
-- operation gives the same on both. Rests on the laws of tables and of first places.
use Prim.Native.Nat.{ℕ, zero, suc, ◌+◌, ◌-◌, ◌*◌, ◌^◌, ◌≤◌, ◌<◌}
use native.Mathlib.Omega.{arith}
use native.Mathlib.Decide.{ℕ_discrete, dec_lt}
use mathlib.Core.Path.{◌≡◌, refl, sym, ap, ◌∙◌, subst}
use mathlib.Core.Logic.{by_cases}
use mathlib.Core.Bool.{Bool, true, false}
use mathlib.Core.List.{List, []}
use Rattle.std.specs.Prelude.{Option, Some, None}
use lib.Dec.{eqb, leb, ltb}
use lib.IntN.{ℤ, pos, negsuc}
use lib.ListN.{length, get_or, replicate, get_or-replicate, get_or-eq_default}
use mir.Syntax.{w64}
use mir.Val.{SFits, sel, to_z}
use borrow.Author.Tests.{eqb-true, ltb-true, ltb-false}
use Rattle.interface.specs.Numbers.{answer_number}
use Rattle.interface.specs.declared.Answer.{Answer}
use Rattle.interface.specs.declared.Answer.TheVariants.{Crowded}
use Rattle.machine.specs.Choice.{when◌then◌else◌}
use Rattle.machine.specs.Sequential.{Update, insert, delete, post, account, Operation, update, lookup, first_bits, Table, find, having, looked, crowds, serve, Ascending}
use Rattle.machine.specs.Calls.{operation_of}
use Rattle.machine.proofs.laws.Base.{if_elim, if_elim₂, if_eq, if_same, no_both, and_parts, none_some}
use Rattle.machine.proofs.laws.Tables.{ascending_changed, tried_elim}
use Rattle.memory.proofs.Totals.{total_back}
use Rattle.report.specs.Report.{answer_base}
use Rattle.logs.specs.Log.{logged_at, log_of, word_at, logged_kind, logged_account, logged_total, logged_answer, count_of}
use Rattle.logs.specs.Orders.{gives, after_giving, served_if, served_at}
use Rattle.logs.proofs.Related.{SameFit}
use Rattle.replay.specs.Balances.{account_logged, first_place, there_at, total_at, balance_of, balance_at, put_balance, agreeing, crowds_at}
use Rattle.replay.specs.Replay.{served_alone, given_alone, outcome_if, outcome_of, is_still, put_if, still_at, replayed}
use Rattle.replay.proofs.FirstPlaces.{first-place, same_place, other_place}
use Rattle.replay.proofs.Counts.{Kept, agreeing_put, agreeing_suc, among, balance_put_at, balance_put_other, find_with_at, find_with_other, leaving, length_having_with, length_put_balance, number, with_total}
use Rattle.replay.proofs.Updates.{KeptBy, alone_same, changed_elim, says_still, served}

-- ---- what balances mean

-- the balances x of the log's places, and the table t
pub record Means (l : List ℕ) (M : ℕ) (x : List ℕ) (t : Table) : Type 0 where
  pub ascending : Ascending t
  pub long : length x ≡ 24
  pub held : (i : ℕ) → i < count_of l → find t (account_logged l i) ≡ balance_at x (first_place l i)
  pub counted : (q : ℕ) → length (having M q t) ≡ agreeing l M q x (count_of l)

module _ (l : List ℕ) (M : ℕ) where
  no_balance : (j : ℕ) → balance_at (replicate 24 0) j ≡ None
  unfolding balance_at balance_of there_at
  no_balance j = if_eq (get_or (replicate 24 0) (j * 2) 0) 0 None (Some (to_z w64 (total_at (replicate 24 0) j))) (nothing (j * 2))
    where
      nothing : (k : ℕ) → ◌≡◌ {A = ℕ} (get_or (replicate 24 0) k 0) 0
      nothing k =
          by_cases (dec_lt k 24) (λ b. get_or-replicate 24 k 0 0 b) (λ b. get_or-eq_default (replicate 24 0) 0 {n = k} (omega arith))

  none_agree : (q n : ℕ) → 0 ≡ agreeing l M q (replicate 24 0) n
  unfolding agreeing among
  none_agree q zero = refl
  none_agree q (suc n) =
      rw (agreeing_suc l M q (replicate 24 0) n, no_balance n, ← none_agree q n)
      (omega (arith, if_same {A = ℕ} (eqb (first_bits M (account_logged l n)) q) 0))

  pub empty_means : Means l M (replicate 24 0) []
  unfolding find having
  empty_means =
      record {
        ascending = tt;
        long = refl;
        held = λ i b. sym (no_balance (first_place l i));
        counted = λ q. none_agree q (count_of l);
      }

  put_means :
      (x : List ℕ) (t : Table) (i : ℕ) (s : Option ℤ) → count_of l ≤ 12 → i < count_of l → Kept s → Means l M x t
      → Means l M (put_balance x (first_place l i) s) (with_total t (account_logged l i) s)
  put_means x t i s few b kept m =
      record {
        ascending = ascending_changed (leaving a s) t m.ascending;
        long = length_put_balance x j s ∙ m.long;
        held = held;
        counted = counted;
      }
    where
      a : ℕ
      a = account_logged l i

      j : ℕ
      j = first_place l i

      y : List ℕ
      y = put_balance x j s

      before : j ≤ i
      before = (first-place l i).below

      here : balance_at y j ≡ s
      here = balance_put_at x j s kept (omega (arith, before, m.long))

      held : (k : ℕ) → k < count_of l → find (with_total t a s) (account_logged l k) ≡ balance_at y (first_place l k)
      held k c = by_cases (ℕ_discrete (account_logged l k) a)
          (λ e. rw (e, same_place l k i e) (find_with_at t a s m.ascending ∙ sym here))
          (λ n. find_with_other t a s (account_logged l k) n ∙ m.held k c
          ∙ sym (balance_put_other x j s (first_place l k) (other_place l k i n)))

      counted : (q : ℕ) → length (having M q (with_total t a s)) ≡ agreeing l M q y (count_of l)
      counted q =
          let old : find t a ≡ balance_at x j = m.held i b in
          let tables : length (having M q (with_total t a s)) + among M q a (number (balance_at x j))
          ≡ length (having M q t) + among M q a (number s) =
          rw old at (length_having_with M q t a s m.ascending) in
          let places : agreeing l M q y (count_of l) + among M q a (number (balance_at x j))
          ≡ agreeing l M q x (count_of l) + among M q a (number s) =
          rw ((first-place l i).about, here) at (agreeing_put l M q x y j (balance_put_other x j s) (count_of l) (omega (arith, before))) in
          omega (arith, m.counted q)

-- ---- a logged operation

operation_elim :
    (P : Option Operation → Type 0) (kind a : ℕ) (v : ℤ) → P (Some (update (insert a v))) → P (Some (update (delete a)))
    → P (Some (lookup a)) → P (Some (update (post a v))) → P None → P (operation_of kind a v)
unfolding operation_of
operation_elim P kind a v h₁ h₂ h₃ h₄ h₅ =
    if_elim P _ _ _ (λ e. h₁) (λ e. if_elim P _ _ _ (λ e. h₂) (λ e. if_elim P _ _ _ (λ e. h₃) (λ e. if_elim P _ _ _ (λ e. h₄) (λ e. h₅))))

-- what a word says is a total, also where it has more than 64 bits
total_fits : (w : ℕ) → SFits w64 (to_z w64 w)
total_fits w = go (ltb w (2 ^ 63)) refl
  where
    go : (t : Bool) → ltb w (2 ^ 63) ≡ t → SFits w64 (sel t (pos w) (negsuc (2 ^ 64 - suc w)))
    go true e = record { sfits = ltb-true w (2 ^ 63) e }
    go false e = record { sfits = let h = ltb-false w (2 ^ 63) e in omega arith }

module _ (l : List ℕ) (b M : ℕ) (few : count_of l ≤ 12) (x : List ℕ) (t : Table) (i : ℕ)
    (m : Means l M x t) (at : i < count_of l) where
  -- an outcome for the account, and a table: neither, or the balances with it mean the table
  abbrev OutcomeFits : Option (Option ℤ) → Option Table → Type 0
  OutcomeFits o u = SameFit (Means l M) (put_if x (first_place l i) (still_at l i) o) u

  -- the same answer, where each leaves what it says
  given_fit :
      (r : Answer) (s : Option ℤ) (t' : Table) → (says_still r ≡ true → Means l M x t')
      → (says_still r ≡ false → Means l M (put_balance x (first_place l i) s) t')
      → OutcomeFits (given_alone (logged_at l i) (r, s)) (after_giving (logged_at l i) (r, t'))
  unfolding given_alone after_giving put_if gives still_at logged_at
  given_fit r s t' stays sets =
      if_elim₂ OutcomeFits (gives (logged_at l i) r) (Some s) None (Some t') None
      (λ e. go (still_at l i) (ap is_still (eqb-true (word_at l i logged_answer) (answer_base + answer_number r) (and_parts _ _ e).0))) (λ e. tt)
    where
      go :
          (d : Bool) → d ≡ says_still r
          → SameFit (Means l M) (put_if x (first_place l i) d (Some s)) (Some t')
      go true e = stays (sym e)
      go false e = sets (sym e)

  -- the operation gives the same on both
  abbrev OperationFits : Option Operation → Type 0
  OperationFits o =
      OutcomeFits (outcome_if (logged_at l i) (crowds_at l b M x i) (balance_at x (first_place l i)) o) (served_if b M (logged_at l i) t o)

  crowded_same : (a : ℕ) → account_logged l i ≡ a → crowds_at l b M x i ≡ crowds b M a t
  unfolding crowds_at crowds
  crowded_same a e =
      ap (leb b) (sym (m.counted (first_bits M (account_logged l i)))) ∙ ap (λ (a : ℕ). leb b (length (having M (first_bits M a) t))) e

  update_fits : (u : Update) → account_logged l i ≡ account u → KeptBy u → OperationFits (Some (update u))
  unfolding outcome_if served_if serve is_still when◌then◌else◌
  update_fits u e k =
      rw (crowded_same (account u) e, alone_same _ u t _ m.ascending (ap (find t) (sym e) ∙ m.held i at))
      (tried_elim P _ u t (stays Crowded refl) (changed_elim P t stays u k sets))
    where
      P : Answer × Table → Type 0
      P r = OutcomeFits (given_alone (logged_at l i) (served (account u) r)) (after_giving (logged_at l i) r)

      stays : (r : Answer) → says_still r ≡ true → P (r, t)
      stays r q = given_fit r (find t (account u)) t (λ _. m) (λ p. absurd (no_both q p))

      sets : (r : Answer) (s : Option ℤ) → says_still r ≡ false → Kept s → P (r, with_total t (account u) s)
      sets r s q h =
          given_fit r (find (with_total t (account u) s) (account u)) (with_total t (account u) s) (λ p. absurd (no_both p q))
          (λ p. rw (find_with_at t (account u) s m.ascending)
          (subst (λ (a : ℕ). Means l M (put_balance x (first_place l i) s) (with_total t a s)) e (put_means l M x t i s few at h m)))

  lookup_fits : OperationFits (Some (lookup (account_logged l i)))
  unfolding outcome_if served_if serve served_alone looked is_still when◌then◌else◌
  lookup_fits = rw (m.held i at) (go (balance_at x (first_place l i)))
    where
      go : (s : Option ℤ) → OutcomeFits (given_alone (logged_at l i) (looked s, s)) (after_giving (logged_at l i) (looked s, t))
      go None = given_fit (looked None) None t (λ _. m) (λ p. absurd (no_both refl p))
      go (Some v) = given_fit (looked (Some v)) (Some v) t (λ _. m) (λ p. absurd (no_both refl p))

  -- a logged operation fits the balances exactly where it fits the table, and leaves balances that mean the table left
  pub replay_means : SameFit (Means l M) (replayed l b M x i) (served_at b M (log_of l) t i)
  unfolding replayed outcome_of served_at log_of logged_at account_logged put_if outcome_if served_if word_at
  replay_means =
      operation_elim OperationFits (word_at l i logged_kind) (word_at l i logged_account) (to_z w64 (word_at l i logged_total))
      (update_fits (insert _ _) refl (total_back _ (total_fits (word_at l i logged_total))))
      (update_fits (delete _) refl tt) lookup_fits (update_fits (post _ _) refl tt) tt

-- ---- an answer that says that the table stayed as it was

pub still_keeps : (l : List ℕ) (b M i : ℕ) (x y : List ℕ) → still_at l i ≡ true → replayed l b M x i ≡ Some y → y ≡ x
unfolding replayed put_if
still_keeps l b M i x y e h = go (outcome_of _ _ _) (rw e at h)
  where
    go : (o : Option (Option ℤ)) → put_if x (first_place l i) true o ≡ Some y → y ≡ x
    go None h = absurd (none_some refl h)
    go (Some s) h = cc
