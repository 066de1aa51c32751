-- Laws of the plain table serving the operations of workers, for lists that grow at their end; what one update carried out at
-- its bucket does to the parts of the table. Rests on the laws of tables.
use Prim.Native.Nat.{ℕ, ◌≤◌, ◌<◌}
use native.Mathlib.Omega.{arith}
use native.Mathlib.Decide.{ℕ_discrete}
use mathlib.Core.Path.{◌≡◌, refl, ap, sym, ◌∙◌, subst}
use mathlib.Core.Logic.{◌⊎◌, inl, inr, ⊎_elim}
use mathlib.Core.Bool.{Bool, true, false}
use mathlib.Core.List.{List, [], ◌∷◌, ◌++◌}
use Rattle.std.specs.Prelude.{Some}
use lib.ListN.{length}
use borrow.Author.Tests.{leb-false, lt-leb, ltb-false}
use Rattle.interface.specs.declared.Settings.{Settings}
use Rattle.interface.specs.declared.Answer.{Answer}
use Rattle.machine.specs.Sequential.{Table, Update, update, lookup, account, first_bits, find, having, looked, tried, crowds, serve, Ascending}
use Rattle.machine.specs.Records.{Body}
use Rattle.machine.specs.BucketPass.{full, splittable, holds_back, carry_out}
use Rattle.machine.specs.History.{Member, Distinct, serve_if}
use Rattle.machine.proofs.laws.Base.{assign_at, and_right}
use Rattle.machine.proofs.laws.Tables.{length_having_le, crowds_full, tried_having}
use Rattle.machine.specs.Tasks.{Task}
use Rattle.machine.proofs.moments.Explain.{serve_all, answers_of}

-- ---- lists that grow at their end

pub member_left : {A : Type 0} (x y : A) (l : List A) → Member x l → Member x (l ++ y ∷ [])
member_left x y [] m = elim m [ ]
member_left x y (z ∷ l) (inl e) = inl e
member_left x y (z ∷ l) (inr m) = inr (member_left x y l m)

pub member_last : {A : Type 0} (y : A) (l : List A) → Member y (l ++ y ∷ [])
member_last y [] = inl refl
member_last y (z ∷ l) = inr (member_last y l)

pub member_snoc : {A : Type 0} (x y : A) (l : List A) → Member x (l ++ y ∷ []) → Member x l ⊎ (x ≡ y)
member_snoc x y [] (inl e) = inr e
member_snoc x y [] (inr m) = elim m [ ]
member_snoc x y (z ∷ l) (inl e) = inl (inl e)
member_snoc x y (z ∷ l) (inr m) = ⊎_elim (λ h. inl (inr h)) inr (member_snoc x y l m)

pub distinct_snoc : (l : List ℕ) (y : ℕ) → Distinct l → (Member y l → ⊥) → Distinct (l ++ y ∷ [])
distinct_snoc [] y d n = (λ m. m, tt)
distinct_snoc (x ∷ l) y d n =
    (λ m. ⊎_elim d.0 (λ e. n (inl (sym e))) (member_snoc x y l m), distinct_snoc l y d.1 (λ m. n (inr m)))

pub member_dec : (i : ℕ) (l : List ℕ) → Dec (Member i l)
member_dec i [] = no (λ m. m)
member_dec i (x ∷ l) = go (ℕ_discrete i x) (member_dec i l)
  where
    go : Dec (i ≡ x) → Dec (Member i l) → Dec (Member i (x ∷ l))
    go (yes e) m = yes (inl e)
    go (no n) (yes m) = yes (inr m)
    go (no n) (no k) = no (elim [ inl e ↦ n e | inr m ↦ k m ])

-- ---- the plain table after one operation more

module _ (s : Settings) (tasks : ℕ → Task) where
  pub serve_all_snoc :
      (t : Table) (js : List ℕ) (j : ℕ) → serve_all s tasks t (js ++ j ∷ []) ≡ (serve_if s (tasks j).operation (serve_all s tasks t js)).1
  unfolding serve_all
  serve_all_snoc t [] j = refl
  serve_all_snoc t (i ∷ js) j = serve_all_snoc (serve_if s (tasks i).operation t).1 js j

  pub answers_snoc : (t : Table) (js : List ℕ) (j i : ℕ) (r : Answer) → Member (i, r) (answers_of s tasks t (js ++ j ∷ []))
      → Member (i, r) (answers_of s tasks t js) ⊎ ((i ≡ j) × (r ≡ (serve_if s (tasks j).operation (serve_all s tasks t js)).0))
  unfolding serve_all answers_of
  answers_snoc t [] j i r (inl e) = inr (ap (λ x. x.0) e, ap (λ x. x.1) e)
  answers_snoc t [] j i r (inr m) = elim m [ ]
  answers_snoc t (h ∷ js) j i r (inl e) = inl (inl e)
  answers_snoc t (h ∷ js) j i r (inr m) = go (answers_snoc t' js j i r m)
    where
      t' : Table
      t' = (serve_if s (tasks h).operation t).1

      Last : Type 0
      Last = (i ≡ j) × (r ≡ (serve_if s (tasks j).operation (serve_all s tasks t' js)).0)

      go : Member (i, r) (answers_of s tasks t' js) ⊎ Last → Member (i, r) (answers_of s tasks t (h ∷ js)) ⊎ Last
      go (inl m) = inl (inr m)
      go (inr l) = inr l

  pub answers_member : (t : Table) (js : List ℕ) (i : ℕ) (r : Answer) → Member (i, r) (answers_of s tasks t js) → Member i js
  unfolding answers_of
  answers_member t [] i r m = elim m [ ]
  answers_member t (j ∷ js) i r (inl e) = inl (ap (λ x. x.0) e)
  answers_member t (j ∷ js) i r (inr m) = inr (answers_member (serve_if s (tasks j).operation t).1 js i r m)

  pub member_answers : (t : Table) (js : List ℕ) (i : ℕ) → Member i js → (r : Answer) × Member (i, r) (answers_of s tasks t js)
  unfolding answers_of
  member_answers t [] i m = elim m [ ]
  member_answers t (j ∷ js) i (inl e) = let r = (serve_if s (tasks j).operation t).0 in (r, inl (ap (λ x. (x, r)) e))
  member_answers t (j ∷ js) i (inr m) = let h = member_answers (serve_if s (tasks j).operation t).1 js i m in (h.0, inr h.1)

-- ---- one operation

module _ (s : Settings) where
  pub serve_if_lookup : (a : ℕ) (t : Table) → serve_if s (Some (lookup a)) t ≡ (looked (find t a), t)
  unfolding serve_if serve
  serve_if_lookup a t = refl

  pub serve_if_update :
      (u : Update) (t : Table) → serve_if s (Some (update u)) t ≡ tried (crowds s.capacity s.depth (account u) t) u t
  unfolding serve_if serve
  serve_if_update u t = refl

-- ---- an update at its bucket: body b holds the part of table t that agrees with the update's account in the first d bits

module _ (u : Update) (t : Table) (d : ℕ) (b : Body) (part : b.items ≡ having d (first_bits d (account u)) t) where
  -- a bucket that does not hold the update back is full exactly if its neighbours in the table crowd the update
  pub room_for :
      (s : Settings) → s.depth ≤ 32 → d ≤ s.depth → holds_back s d b ≡ false → crowds s.capacity s.depth (account u) t ≡ full s b
  unfolding holds_back splittable full crowds
  room_for s m l e = go (full s b) refl
    where
      go : (v : Bool) → full s b ≡ v → crowds s.capacity s.depth (account u) t ≡ v
      go true h =
          let z : d ≡ s.depth = omega (arith, ltb-false d s.depth (and_right _ _ e h)) in
          crowds_full s (account u) t b (subst (λ (f : ℕ). b.items ≡ having f (first_bits f (account u)) t) z part) ∙ h
      go false h =
          let room : length (having d (first_bits d (account u)) t) < s.capacity =
          rw part at (leb-false s.capacity (length b.items) h) in
          lt-leb s.capacity (length (having s.depth (first_bits s.depth (account u)) t))
          (omega (arith, length_having_le d s.depth (account u) t l m))

  -- the bucket's part and the answer there are the table's
  pub carried_part :
      (s : Settings) (j tk : ℕ) → Ascending t
      → (carry_out s j u tk b).items ≡ having d (first_bits d (account u)) (tried (full s b) u t).1
  unfolding carry_out
  carried_part s j tk h =
      ap (λ (l : Table). (tried (full s b) u l).1) part ∙ ap (λ (x : Answer × Table). x.1) (tried_having d (full s b) u t h)

  pub carried_answer :
      (s : Settings) (j tk : ℕ) → Ascending t
      → (carry_out s j u tk b).settled j ≡ record { ticket = tk; answer = (tried (full s b) u t).0 }
  unfolding carry_out
  carried_answer s j tk h =
      assign_at b.settled j _ j refl
      ∙ ap (λ r. record { ticket = tk; answer = r })
      (ap (λ (l : Table). (tried (full s b) u l).0) part ∙ ap (λ (x : Answer × Table). x.0) (tried_having d (full s b) u t h))
