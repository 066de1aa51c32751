-- The ledger: after any choice of moments the plain table's totals are those of the bookings, and each operation is booked once.
-- Rests on the laws of tables and on demand 3.
use Prim.Native.Nat.{ℕ, zero, suc, ◌<◌}
use native.Mathlib.Decide.{ℕ_discrete}
use native.Mathlib.Omega.{arith}
use mathlib.Core.Path.{◌≡◌, refl, sym, ap, ◌∙◌, subst}
use mathlib.Core.Logic.{◌≢◌, ◌⊎◌, inl, inr, ⊎_elim, by_cases}
use mathlib.Core.Bool.{Bool, true, false}
use mathlib.Core.List.{List, [], ◌∷◌, map}
use Rattle.std.specs.Prelude.{Option, Some, None}
use lib.IntN.{ℤ, pos, ◌+ℤ◌, +ℤ_assoc, +ℤ_idl, +ℤ_idr}
use borrow.Author.Tests.{eq-eqb, ne_eqb}
use Rattle.interface.specs.declared.Settings.{Settings}
use Rattle.interface.specs.declared.Answer.{Answer}
use Rattle.interface.specs.declared.Answer.TheVariants.{Added, Replaced, Removed, Absent, Posted, Crowded, Overrun}
use Rattle.machine.specs.Choice.{when◌then◌else◌, ◌and◌}
use Rattle.machine.specs.Sequential.{Table, Update, insert, delete, post, account, Operation, update, lookup, find, put, remove, present, total_or0, is_total, sum, result, changed, crowds, serve, Ascending}
use Rattle.machine.specs.Calls.{lists, listing_of}
use Rattle.machine.specs.Systems.{Entry, System, asked}
use Rattle.machine.specs.History.{Member, Distinct, entry_at, serve_if, answers_to, table_after, table_at, Linearizable}
use Rattle.ledger.specs.Ledger.{carried_out, Booking, sets, adds, closes, nothing, booking_of, booking, is_there, last_inserted, posted_since, balance, onto, served, bookings, Balanced, Ledger, LedgerOnWords}
use Rattle.machine.proofs.laws.Base.{if_false, if_elim, and_right_false}
use Rattle.machine.proofs.laws.Tables.{tried_elim, ascending_changed, find_put_at, find_remove_at, find_changed_other}
use Rattle.machine.proofs.Demand3.{demand3}
use Rattle.simulation.proofs.Demand3ForCalls.{demand3_on_words}

-- ---- one booking more

-- where the account is not there, nothing counts
absent_sums : (bs : List Booking) → is_there bs ≡ false → (last_inserted bs ≡ pos 0) × (posted_since bs ≡ pos 0)
unfolding is_there last_inserted posted_since
absent_sums [] e = (refl, refl)
absent_sums (sets v ∷ bs) e = absurd (let z : ◌≡◌ {A = ℕ} 0 1 = cc in omega arith)
absent_sums (adds v ∷ bs) e = absurd (let z : ◌≡◌ {A = ℕ} 0 1 = cc in omega arith)
absent_sums (closes ∷ bs) e = (refl, refl)
absent_sums (nothing ∷ bs) e = absent_sums bs e

balance_adds : (v : ℤ) (bs : List Booking) → balance (adds v ∷ bs) ≡ Some (total_or0 (balance bs) +ℤ v)
unfolding balance is_there last_inserted posted_since when◌then◌else◌ total_or0
balance_adds v bs = go (is_there bs) refl
  where
    go : (t : Bool) → is_there bs ≡ t
        → Some (last_inserted bs +ℤ (posted_since bs +ℤ v))
        ≡ Some (total_or0 (when t then Some (last_inserted bs +ℤ posted_since bs) else None) +ℤ v)
    go true e = ap Some (sym (+ℤ_assoc (last_inserted bs) (posted_since bs) v))
    go false e = let h = absent_sums bs e in ap Some (rw (h.0, h.1) (+ℤ_idl _))

-- the booking of an update that was carried out, or of one that changed nothing
abbrev booked_if : Answer → Update → Booking
booked_if r u = when carried_out r then booking_of u else nothing

booking_own : (a : ℕ) (u : Update) (r : Answer) → account u ≡ a → booking a (Some (update u)) r ≡ booked_if r u
unfolding booking ◌and◌
booking_own a u r e = rw (eq-eqb (account u) a e) (ap (λ (b : Bool). when b then booking_of u else nothing) (and_same (carried_out r)))
  where
    and_same : (b : Bool) → (b and true) ≡ b
    and_same true = refl
    and_same false = refl

booking_other : (a : ℕ) (u : Update) (r : Answer) → account u ≢ a → booking a (Some (update u)) r ≡ nothing
unfolding booking
booking_other a u r n = if_false _ _ (rw (ne_eqb (account u) a n) (and_right_false (carried_out r)))

-- ---- one operation more

balance_nothing : (bs : List Booking) → balance (nothing ∷ bs) ≡ balance bs
unfolding balance is_there last_inserted posted_since
balance_nothing bs = refl

-- what an update that is not crowded leaves at its account is what its booking leaves
module _ (t : Table) (a : ℕ) (bs : List Booking) (asc : Ascending t) (same : find t a ≡ balance bs) where
  inserted : (v : ℤ) (o : Option ℤ) → find (put t a v) a ≡ balance (booked_if (present o Replaced Added) (insert a v) ∷ bs)
  unfolding present carried_out booking_of balance is_there last_inserted posted_since when◌then◌else◌
  inserted v (Some w) = find_put_at t a v ∙ ap Some (sym (+ℤ_idr v))
  inserted v None = find_put_at t a v ∙ ap Some (sym (+ℤ_idr v))

  removed : (o : Option ℤ) → balance bs ≡ o → find (remove t a) a ≡ balance (booked_if (present o Removed Absent) (delete a) ∷ bs)
  unfolding present carried_out booking_of balance is_there when◌then◌else◌
  removed (Some w) e = find_remove_at t a asc
  removed None e = find_remove_at t a asc ∙ sym e ∙ sym (balance_nothing bs)

  posted :
      (v : ℤ) (b : Bool)
      → find (when b then put t a (sum t a v) else t) a ≡ balance (booked_if (when b then Posted (sum t a v) else Overrun) (post a v) ∷ bs)
  unfolding carried_out booking_of when◌then◌else◌ sum
  posted v true = find_put_at t a _ ∙ ap (λ (o : Option ℤ). Some (total_or0 o +ℤ v)) same ∙ sym (balance_adds v bs)
  posted v false = same ∙ sym (balance_nothing bs)

  booked_own : (u : Update) → account u ≡ a → find (changed u t) a ≡ balance (booked_if (result u t) u ∷ bs)
  unfolding changed result
  booked_own (insert c v) e = rw e (inserted v (find t a))
  booked_own (delete c) e = rw e (removed (find t a) (sym same))
  booked_own (post c v) e = rw e (posted v (is_total (sum t a v)))

  booked : (u : Update) → find (changed u t) a ≡ balance (booking a (Some (update u)) (result u t) ∷ bs)
  booked u = by_cases (ℕ_discrete (account u) a)
      (λ e. booked_own u e ∙ ap (λ (b : Booking). balance (b ∷ bs)) (sym (booking_own a u (result u t) e)))
      (λ n. find_changed_other u t a (λ e. n (sym e)) ∙ same ∙ sym (balance_nothing bs)
      ∙ ap (λ (b : Booking). balance (b ∷ bs)) (sym (booking_other a u (result u t) n)))

  -- a table and an answer that an operation gives
  abbrev Right : Option Operation → Answer × Table → Type 0
  Right o r = Ascending r.1 × (find r.1 a ≡ balance (booking a o r.0 ∷ bs))

  served_right : (s : Settings) (o : Option Operation) → Right o (serve_if s o t)
  unfolding serve_if serve booking when◌then◌else◌ ◌and◌ carried_out
  served_right s None = (asc, same ∙ sym (balance_nothing bs))
  served_right s (Some (lookup c)) = (asc, same ∙ sym (balance_nothing bs))
  served_right s (Some (update u)) =
      tried_elim (Right (Some (update u))) (crowds s.capacity s.depth (account u) t) u t
      (asc, same ∙ sym (balance_nothing bs) ∙ ap (λ (b : Booking). balance (b ∷ bs)) (sym (crowded_nothing u)))
      (ascending_changed u t asc, booked u)
    where
      crowded_nothing : (u : Update) → booking a (Some (update u)) Crowded ≡ nothing
      crowded_nothing u = refl

-- ---- a list put in front of another

member_back : {A : Type 0} (x : A) (xs ys : List A) → Member x ys → Member x (onto xs ys)
unfolding onto
member_back x [] ys h = h
member_back x (z ∷ xs) ys h = member_back x xs (z ∷ ys) (inr h)

member_front : {A : Type 0} (x : A) (xs ys : List A) → Member x xs → Member x (onto xs ys)
unfolding onto
member_front x [] ys m = elim m [ ]
member_front x (z ∷ xs) ys (inl e) = member_back x xs (z ∷ ys) (inl e)
member_front x (z ∷ xs) ys (inr h) = member_front x xs (z ∷ ys) h

member_onto : {A : Type 0} (x : A) (xs ys : List A) → Member x (onto xs ys) → Member x xs ⊎ Member x ys
unfolding onto
member_onto x [] ys h = inr h
member_onto x (z ∷ xs) ys h = shift (member_onto x xs (z ∷ ys) h)
  where
    shift : Member x xs ⊎ Member x (z ∷ ys) → Member x (z ∷ xs) ⊎ Member x ys
    shift (inl g) = inl (inr g)
    shift (inr (inl e)) = inl (inl e)
    shift (inr (inr g)) = inr g

distinct_onto :
    {A : Type 0} (xs ys : List A) → Distinct xs → Distinct ys → ((x : A) → Member x xs → Member x ys → ⊥) → Distinct (onto xs ys)
unfolding onto
distinct_onto [] ys d e apart = e
distinct_onto (z ∷ xs) ys d e apart = distinct_onto xs (z ∷ ys) d.1 (apart z (inl refl), e) (λ x h g. go x h g)
  where
    go : (x : _) → Member x xs → Member x (z ∷ ys) → ⊥
    go x h (inl q) = d.0 (subst (λ y. Member y xs) q h)
    go x h (inr g) = apart x (inr h) g

-- ---- all that has taken effect

module _ (s : Settings) (es : List Entry) where
  abbrev books : ℕ → List (ℕ × Answer) → List Booking
  books a = map (λ x. booking a (asked (entry_at es x.0)) x.1)

  -- the operations of one index
  index_right :
      (a : ℕ) (cs : List ℕ) (t : Table) (xs : List (ℕ × Answer)) → Ascending t → find t a ≡ balance (books a xs)
      → Ascending (table_after s es t cs) × (find (table_after s es t cs) a ≡ balance (books a (onto (answers_to s es t cs) xs)))
  unfolding table_after answers_to onto
  index_right a [] t xs asc same = (asc, same)
  index_right a (c ∷ cs) t xs asc same =
      let o : Option Operation = asked (entry_at es c) in
      let r = served_right t a (books a xs) asc same s o in
      index_right a cs (serve_if s o t).1 ((c, (serve_if s o t).0) ∷ xs) r.0 r.1

  calls_are :
      (cs : List ℕ) (t : Table) (xs : List (ℕ × Answer)) → map (λ r. r.0) (onto (answers_to s es t cs) xs) ≡ onto cs (map (λ r. r.0) xs)
  unfolding answers_to onto
  calls_are [] t xs = refl
  calls_are (c ∷ cs) t xs = calls_are cs _ _

  module _ (moments : ℕ → List ℕ) where
    abbrev table_before : ℕ → Table
    table_before = table_at s es [] moments

    all_right : (p a : ℕ) → Ascending (table_before p) × (find (table_before p) a ≡ balance (bookings s es moments p a))
    unfolding table_at served bookings balance is_there find when◌then◌else◌
    all_right zero a = (tt, refl)
    all_right (suc p) a = let h = all_right p a in index_right a (moments p) (table_before p) (served s es moments p) h.0 h.1

    served_call : (p c : ℕ) → Member c (map (λ r. r.0) (served s es moments p)) → (k : ℕ) × (k < p) × Member c (moments k)
    unfolding served
    served_call zero c h = absurd h
    served_call (suc p) c h =
        ⊎_elim (λ g. (p, omega arith, g)) (λ g. let r = served_call p c g in (r.0, omega (arith, r.1), r.2))
        (member_onto c (moments p) _ (subst (Member c) (calls_are (moments p) (table_before p) (served s es moments p)) h))

    served_has :
        (p k : ℕ) (x : ℕ × Answer) → k < p → Member x (answers_to s es (table_before k) (moments k)) → Member x (served s es moments p)
    unfolding served
    served_has zero k x l h = absurd (omega arith)
    served_has (suc p) k x l h =
        by_cases (ℕ_discrete k p)
        (λ e. member_front x _ _ (subst (λ (i : ℕ). Member x (answers_to s es (table_before i) (moments i))) e h))
        (λ n. member_back x _ _ (served_has p k x (omega (arith, n)) h))

    once_served :
        ((i k c : ℕ) → Member c (moments i) → Member c (moments k) → i ≡ k) → ((i : ℕ) → Distinct (moments i))
        → (p : ℕ) → Distinct (map (λ r. r.0) (served s es moments p))
    unfolding served
    once_served once distinct zero = tt
    once_served once distinct (suc p) =
        subst Distinct (sym (calls_are (moments p) (table_before p) (served s es moments p)))
        (distinct_onto (moments p) _ (distinct p) (once_served once distinct p)
        (λ c h g. let r = served_call p c g in omega (arith, r.1, once p r.0 c h r.2)))

-- ---- the theorem

listed_table : (t u : Table) (y z : ℕ) → listing_of t y z ≡ lists u → t ≡ u
unfolding listing_of
listed_table t u y z = if_elim (λ l. l ≡ lists u → t ≡ u) _ _ _ (λ e h. absurd (let q : ◌≡◌ {A = ℕ} 0 1 = cc in omega arith)) (λ e h. cc)

-- of any system for which demand 3 holds
pub balanced : {s : Settings} {x : System} {m : x.State} {es : List Entry} → Linearizable s x m [] es → Balanced s x m es
balanced {s} {x} {m} {es} l = record {
  linearizable = l;
  totals = λ p a. (all_right s es l.moments p a).1;
  listed = λ p y z t h e a.
      rw (← listed_table _ t y z (sym (l.listings p y z h) ∙ e)) (all_right s es l.moments p a).1;
  once = once_served s es l.moments l.once l.distinct;
  counted = λ p c i j o r e h. let k = l.answers c i j o r e in served_has s es l.moments p k.0 _ (omega (arith, k.1)) k.2;
}

pub ledger : Ledger
ledger n b M lent s m h es refused = balanced (demand3 n b M lent s m h es refused)

pub ledger_on_words : LedgerOnWords
ledger_on_words l n b M es h = balanced (demand3_on_words l n b M es h)
