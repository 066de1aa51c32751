-- Laws of the sequential table: ascending tables, what is found in them, their parts by first bits, and updates of them.
-- Rests on the laws of tests and of first bits.
use Prim.Native.Nat.{ℕ, ◌≤◌, ◌<◌}
use native.Mathlib.Omega.{arith}
use native.Mathlib.Decide.{ℕ_discrete, dec_lt}
use mathlib.Core.Path.{◌≡◌, refl, ap, sym, ◌∙◌}
use mathlib.Core.Logic.{◌≢◌, by_cases}
use mathlib.Core.Bool.{Bool, true, false}
use mathlib.Core.List.{[], ◌∷◌}
use Rattle.std.specs.Prelude.{Option, Some, None}
use lib.Dec.{ltb, leb, eqb}
use lib.ListN.{length}
use lib.IntN.{ℤ, ◌+ℤ◌}
use borrow.Author.Tests.{ltb-true, ltb-false}
use Rattle.interface.specs.declared.Settings.{Settings}
use Rattle.interface.specs.declared.Answer.{Answer}
use Rattle.interface.specs.declared.Answer.TheVariants.{Added, Replaced, Removed, Absent, Posted, Crowded, Overrun}
use Rattle.machine.specs.Choice.{when◌then◌else◌, ◌and◌}
use Rattle.machine.specs.Sequential.{Update, insert, delete, post, account, first_bits, Table, find, put, remove, having, present, total_or0, is_total, sum, result, changed, is_none, creates, tried, crowds, AccountsAbove, Ascending}
use Rattle.machine.specs.Records.{Body}
use Rattle.machine.specs.BucketPass.{full}
use Rattle.machine.proofs.laws.Base.{if_elim, eq_elim, if_eq, if_ne, none_some}
use Rattle.machine.proofs.laws.Bits.{bits_mono}

-- ---- tables by their first entry

put_elim : (P : Table → Type 0) (e : ℕ × ℤ) (t : Table) (a : ℕ) (v : ℤ)
    → (a < e.0 → P ((a, v) ∷ e ∷ t)) → (a ≡ e.0 → P ((a, v) ∷ t)) → (e.0 < a → P (e ∷ put t a v)) → P (put (e ∷ t) a v)
unfolding put
put_elim P e t a v below at above =
    if_elim P (ltb a e.0) ((a, v) ∷ e ∷ t) (when eqb a e.0 then (a, v) ∷ t else e ∷ put t a v)
    (λ q. below (ltb-true a e.0 q))
    (λ q. eq_elim P a e.0 ((a, v) ∷ t) (e ∷ put t a v) at (λ n. above (omega (arith, ltb-false a e.0 q))))

remove_elim :
    (P : Table → Type 0) (e : ℕ × ℤ) (t : Table) (a : ℕ) → (e.0 ≡ a → P t) → (e.0 ≢ a → P (e ∷ remove t a)) → P (remove (e ∷ t) a)
unfolding remove
remove_elim P e t a at other = eq_elim P e.0 a t (e ∷ remove t a) at other

having_elim : (P : Table → Type 0) (d q : ℕ) (e : ℕ × ℤ) (t : Table)
    → (first_bits d e.0 ≡ q → P (e ∷ having d q t)) → (first_bits d e.0 ≢ q → P (having d q t)) → P (having d q (e ∷ t))
unfolding having
having_elim P d q e t inside outside = eq_elim P (first_bits d e.0) q (e ∷ having d q t) (having d q t) inside outside

find_head : (e : ℕ × ℤ) (t : Table) → find (e ∷ t) e.0 ≡ Some e.1
unfolding find
find_head e t = if_eq e.0 e.0 (Some e.1) (find t e.0) refl

find_tail : (e : ℕ × ℤ) (t : Table) (a : ℕ) → e.0 ≢ a → find (e ∷ t) a ≡ find t a
unfolding find
find_tail e t a n = if_ne e.0 a (Some e.1) (find t a) n

find_cons : (e : ℕ × ℤ) (t t' : Table) (a : ℕ) → find t a ≡ find t' a → find (e ∷ t) a ≡ find (e ∷ t') a
unfolding find
find_cons e t t' a h = ap (λ (x : Option ℤ). when eqb e.0 a then Some e.1 else x) h

-- ---- ascending tables

above_less : (x y : ℕ) (t : Table) → x ≤ y → AccountsAbove y t → AccountsAbove x t
above_less x y [] l h = tt
above_less x y (e ∷ t) l h = (omega (arith, h.0), above_less x y t l h.1)

above_put : (x : ℕ) (t : Table) (a : ℕ) (v : ℤ) → x < a → AccountsAbove x t → AccountsAbove x (put t a v)
unfolding put
above_put x [] a v l h = (l, tt)
above_put x (e ∷ t) a v l h = put_elim (AccountsAbove x) e t a v (λ q. (l, h)) (λ q. (l, h.1)) (λ q. (h.0, above_put x t a v l h.1))

pub ascending_put : (t : Table) (a : ℕ) (v : ℤ) → Ascending t → Ascending (put t a v)
unfolding put
ascending_put [] a v h = (tt, tt)
ascending_put (e ∷ t) a v h = put_elim Ascending e t a v
    (λ q. ((q, above_less a e.0 t (omega arith) h.0), h))
    (λ q. (above_less a e.0 t (omega arith) h.0, h.1))
    (λ q. (above_put e.0 t a v q h.0, ascending_put t a v h.1))

above_remove : (x : ℕ) (t : Table) (a : ℕ) → AccountsAbove x t → AccountsAbove x (remove t a)
unfolding remove
above_remove x [] a h = tt
above_remove x (e ∷ t) a h = remove_elim (AccountsAbove x) e t a (λ q. h.1) (λ q. (h.0, above_remove x t a h.1))

pub ascending_remove : (t : Table) (a : ℕ) → Ascending t → Ascending (remove t a)
unfolding remove
ascending_remove [] a h = tt
ascending_remove (e ∷ t) a h = remove_elim Ascending e t a (λ q. h.1) (λ q. (above_remove e.0 t a h.0, ascending_remove t a h.1))

pub above_having : (x d q : ℕ) (t : Table) → AccountsAbove x t → AccountsAbove x (having d q t)
unfolding having
above_having x d q [] h = tt
above_having x d q (e ∷ t) h =
    having_elim (AccountsAbove x) d q e t (λ g. (h.0, above_having x d q t h.1)) (λ g. above_having x d q t h.1)

pub ascending_having : (d q : ℕ) (t : Table) → Ascending t → Ascending (having d q t)
unfolding having
ascending_having d q [] h = tt
ascending_having d q (e ∷ t) h = having_elim Ascending d q e t
    (λ g. (above_having e.0 d q t h.0, ascending_having d q t h.1))
    (λ g. ascending_having d q t h.1)

pub ascending_changed : (u : Update) (t : Table) → Ascending t → Ascending (changed u t)
unfolding changed
ascending_changed (insert a v) t h = ascending_put t a v h
ascending_changed (delete a) t h = ascending_remove t a h
ascending_changed (post a v) t h = if_elim Ascending _ _ _ (λ e. ascending_put t a _ h) (λ e. h)

-- ---- what is found

pub find_above : (x : ℕ) (t : Table) (a : ℕ) → a ≤ x → AccountsAbove x t → find t a ≡ None
unfolding find
find_above x [] a l h = refl
find_above x (e ∷ t) a l h = find_tail e t a (λ q. omega (arith, h.0)) ∙ find_above x t a l h.1

pub find_put_at : (t : Table) (a : ℕ) (v : ℤ) → find (put t a v) a ≡ Some v
unfolding put
find_put_at [] a v = find_head (a, v) []
find_put_at (e ∷ t) a v = put_elim (λ (l : Table). find l a ≡ Some v) e t a v
    (λ q. find_head (a, v) (e ∷ t))
    (λ q. find_head (a, v) t)
    (λ q. find_tail e (put t a v) a (λ y. omega arith) ∙ find_put_at t a v)

pub find_put_other : (t : Table) (a : ℕ) (v : ℤ) (c : ℕ) → c ≢ a → find (put t a v) c ≡ find t c
unfolding put
find_put_other [] a v c n = find_tail (a, v) [] c (λ y. n (sym y))
find_put_other (e ∷ t) a v c n = put_elim (λ (l : Table). find l c ≡ find (e ∷ t) c) e t a v
    (λ q. find_tail (a, v) (e ∷ t) c (λ y. n (sym y)))
    (λ q. find_tail (a, v) t c (λ y. n (sym y)) ∙ sym (find_tail e t c (λ y. n (sym (q ∙ y)))))
    (λ q. find_cons e (put t a v) t c (find_put_other t a v c n))

pub find_remove_at : (t : Table) (a : ℕ) → Ascending t → find (remove t a) a ≡ None
unfolding find remove
find_remove_at [] a h = refl
find_remove_at (e ∷ t) a h = remove_elim (λ (l : Table). find l a ≡ None) e t a
    (λ q. find_above e.0 t a (omega arith) h.0)
    (λ q. find_tail e (remove t a) a q ∙ find_remove_at t a h.1)

pub find_remove_other : (t : Table) (a c : ℕ) → c ≢ a → find (remove t a) c ≡ find t c
unfolding remove
find_remove_other [] a c n = refl
find_remove_other (e ∷ t) a c n = remove_elim (λ (l : Table). find l c ≡ find (e ∷ t) c) e t a
    (λ q. sym (find_tail e t c (λ y. n (sym y ∙ q))))
    (λ q. find_cons e (remove t a) t c (find_remove_other t a c n))

pub find_having_in : (d q : ℕ) (t : Table) (a : ℕ) → first_bits d a ≡ q → find (having d q t) a ≡ find t a
unfolding having
find_having_in d q [] a h = refl
find_having_in d q (e ∷ t) a h = having_elim (λ (l : Table). find l a ≡ find (e ∷ t) a) d q e t
    (λ g. find_cons e (having d q t) t a (find_having_in d q t a h))
    (λ g. find_having_in d q t a h ∙ sym (find_tail e t a (λ y. g (ap (first_bits d) y ∙ h))))

pub find_having_out : (d q : ℕ) (t : Table) (a : ℕ) → first_bits d a ≢ q → find (having d q t) a ≡ None
unfolding find having
find_having_out d q [] a h = refl
find_having_out d q (e ∷ t) a h = having_elim (λ (l : Table). find l a ≡ None) d q e t
    (λ g. find_tail e (having d q t) a (λ y. h (ap (first_bits d) (sym y) ∙ g)) ∙ find_having_out d q t a h)
    (λ g. find_having_out d q t a h)

-- what an update leaves at its account, where it finds so much
unfoldable pub total_after : Update → Option ℤ → Option ℤ
total_after (insert a v) x = Some v
total_after (delete a) x = None
total_after (post a v) x = when is_total (total_or0 x +ℤ v) then Some (total_or0 x +ℤ v) else x

pub find_changed_at : (u : Update) (t : Table) → Ascending t → find (changed u t) (account u) ≡ total_after u (find t (account u))
unfolding changed total_after sum when◌then◌else◌
find_changed_at (insert a v) t h = find_put_at t a v
find_changed_at (delete a) t h = find_remove_at t a h
find_changed_at (post a v) t h = posted (is_total (sum t a v))
  where
    posted : (b : Bool) → find (when b then put t a (sum t a v) else t) a ≡ when b then Some (sum t a v) else find t a
    posted true = find_put_at t a (sum t a v)
    posted false = refl

pub find_changed_other : (u : Update) (t : Table) (c : ℕ) → c ≢ account u → find (changed u t) c ≡ find t c
unfolding changed
find_changed_other (insert a v) t c n = find_put_other t a v c n
find_changed_other (delete a) t c n = find_remove_other t a c n
find_changed_other (post a v) t c n =
    if_elim (λ (x : Table). find x c ≡ find t c) (is_total (sum t a v)) _ _ (λ e. find_put_other t a (sum t a v) c n) (λ e. refl)

-- ---- ascending tables in which the same is found are the same

head_least : (e : ℕ × ℤ) (t : Table) (a : ℕ) (v : ℤ) → Ascending (e ∷ t) → find (e ∷ t) a ≡ Some v → e.0 ≤ a
head_least e t a v h f = by_cases (dec_lt a e.0)
    (λ l. absurd (none_some (find_above a (e ∷ t) a (omega arith) (l, above_less a e.0 t (omega arith) h.0)) f)) (λ l. omega arith)

pub table_ext : (t t' : Table) → Ascending t → Ascending t' → ((a : ℕ) → find t a ≡ find t' a) → t ≡ t'
unfolding find
table_ext [] [] s r h = refl
table_ext [] (f ∷ t') s r h = absurd (none_some refl (h f.0 ∙ find_head f t'))
table_ext (e ∷ t) [] s r h = absurd (none_some refl (sym (h e.0) ∙ find_head e t))
table_ext (e ∷ t) (f ∷ t') s r h = ap (λ (x : ℕ × ℤ). x ∷ t) heads ∙ ap (λ (l : Table). f ∷ l) (table_ext t t' s.1 r.1 tails)
  where
    accounts : e.0 ≡ f.0
    accounts =
        let l : f.0 ≤ e.0 = head_least f t' e.0 e.1 r (sym (h e.0) ∙ find_head e t) in
        let m : e.0 ≤ f.0 = head_least e t f.0 f.1 s (h f.0 ∙ find_head f t') in
        omega arith

    heads : e ≡ f
    heads =
        let v : Some e.1 ≡ Some f.1 = sym (find_head e t) ∙ h e.0 ∙ ap (find (f ∷ t')) accounts ∙ find_head f t' in
        let w : e.1 ≡ f.1 = cc in
        λ i. (accounts i, w i)

    tails : (a : ℕ) → find t a ≡ find t' a
    tails a = by_cases (ℕ_discrete e.0 a)
        (λ y. find_above e.0 t a (omega arith) s.0 ∙ sym (find_above f.0 t' a (omega (arith, accounts)) r.0))
        (λ n. sym (find_tail e t a n) ∙ h a ∙ find_tail f t' a (λ y. n (accounts ∙ y)))

-- ---- parts

pub having_having :
    (d e a : ℕ) (t : Table) → d ≤ e → e ≤ 32 → having e (first_bits e a) (having d (first_bits d a) t) ≡ having e (first_bits e a) t
unfolding having
having_having d e a [] l b = refl
having_having d e a (x ∷ t) l b = let again = having_having d e a t l b in
    having_elim (λ (y : Table). part y ≡ part (x ∷ t)) d (first_bits d a) x t
    (λ g. ap (λ (y : Table). when eqb (first_bits e x.0) (first_bits e a) then x ∷ y else y) again)
    (λ g. again ∙ sym (if_ne (first_bits e x.0) (first_bits e a) (x ∷ part t) (part t) (λ y. g (bits_mono d e x.0 a l b y))))
  where
    part : Table → Table
    part = having e (first_bits e a)

pub having_short : (d q : ℕ) (t : Table) → length (having d q t) ≤ length t
unfolding having
having_short d q [] = omega arith
having_short d q (e ∷ t) = having_elim (λ (l : Table). length l ≤ length (e ∷ t)) d q e t
    (λ g. omega (arith, having_short d q t)) (λ g. omega (arith, having_short d q t))

pub length_having_le : (d e a : ℕ) (t : Table) → d ≤ e → e ≤ 32 → length (having e (first_bits e a) t) ≤ length (having d (first_bits d a) t)
length_having_le d e a t l b = rw (having_having d e a t l b) at (having_short e (first_bits e a) (having d (first_bits d a) t))

-- away from its account an update changes nothing in a part
part_elsewhere : (d q : ℕ) (u : Update) (t : Table) (c : ℕ) → c ≢ account u → find (having d q (changed u t)) c ≡ find (having d q t) c
part_elsewhere d q u t c n = by_cases (ℕ_discrete (first_bits d c) q)
    (λ e. find_having_in d q (changed u t) c e ∙ find_changed_other u t c n ∙ sym (find_having_in d q t c e))
    (λ m. find_having_out d q (changed u t) c m ∙ sym (find_having_out d q t c m))

pub having_changed : (d : ℕ) (u : Update) (t : Table) → Ascending t
    → having d (first_bits d (account u)) (changed u t) ≡ changed u (having d (first_bits d (account u)) t)
having_changed d u t s =
    table_ext (having d q (changed u t)) (changed u part)
    (ascending_having d q (changed u t) (ascending_changed u t s)) (ascending_changed u part asc) (λ c. go c (ℕ_discrete c (account u)))
  where
    q : ℕ
    q = first_bits d (account u)

    part : Table
    part = having d q t

    asc : Ascending part
    asc = ascending_having d q t s

    go : (c : ℕ) → Dec (c ≡ account u) → find (having d q (changed u t)) c ≡ find (changed u part) c
    go c (yes e) = rw e (
        find_having_in d q (changed u t) (account u) refl ∙ find_changed_at u t s
        ∙ ap (total_after u) (sym (find_having_in d q t (account u) refl)) ∙ sym (find_changed_at u part asc))
    go c (no n) = part_elsewhere d q u t c n ∙ sym (find_changed_other u part c n)

pub having_changed_other :
    (d q : ℕ) (u : Update) (t : Table) → Ascending t → q ≢ first_bits d (account u) → having d q (changed u t) ≡ having d q t
having_changed_other d q u t s n =
    table_ext (having d q (changed u t)) (having d q t)
    (ascending_having d q (changed u t) (ascending_changed u t s)) (ascending_having d q t s) (λ c. go c (ℕ_discrete c (account u)))
  where
    go : (c : ℕ) → Dec (c ≡ account u) → find (having d q (changed u t)) c ≡ find (having d q t) c
    go c (yes e) =
        let m : first_bits d c ≢ q = λ y. n (sym y ∙ ap (first_bits d) e) in
        find_having_out d q (changed u t) c m ∙ sym (find_having_out d q t c m)
    go c (no m) = part_elsewhere d q u t c m

pub result_having : (d : ℕ) (u : Update) (t : Table) → result u (having d (first_bits d (account u)) t) ≡ result u t
unfolding result sum
result_having d (insert a v) t = ap (λ (x : Option ℤ). present x Replaced Added) (find_having_in d (first_bits d a) t a refl)
result_having d (delete a) t = ap (λ (x : Option ℤ). present x Removed Absent) (find_having_in d (first_bits d a) t a refl)
result_having d (post a v) t =
    ap (λ (z : ℤ). when is_total z then Posted z else Overrun)
    (ap (λ (x : Option ℤ). total_or0 x +ℤ v) (find_having_in d (first_bits d a) t a refl))

-- ---- crowding

pub crowds_full : (s : Settings) (a : ℕ) (t : Table) (x : Body) → x.items ≡ having s.depth (first_bits s.depth a) t
    → crowds s.capacity s.depth a t ≡ full s x
unfolding crowds full
crowds_full s a t x h = ap (λ (l : Table). leb s.capacity (length l)) (sym h)

pub full_same : (s : Settings) (x y : Body) → x.items ≡ y.items → full s x ≡ full s y
unfolding full
full_same s x y h = ap (λ (l : Table). leb s.capacity (length l)) h

creates_having : (d : ℕ) (u : Update) (t : Table) → creates u (having d (first_bits d (account u)) t) ≡ creates u t
unfolding creates
creates_having d (insert a v) t = ap is_none (find_having_in d (first_bits d a) t a refl)
creates_having d (delete a) t = refl
creates_having d (post a v) t = ap is_none (find_having_in d (first_bits d a) t a refl)

-- crowded with nothing changed, or what the update does
pub tried_elim :
    (P : Answer × Table → Type 0) (c : Bool) (u : Update) (t : Table) → P (Crowded, t) → P (result u t, changed u t) → P (tried c u t)
unfolding tried
tried_elim P c u t f g = if_elim P (c and creates u t) (Crowded, t) (result u t, changed u t) (λ e. f) (λ e. g)

pub ascending_tried : (c : Bool) (u : Update) (t : Table) → Ascending t → Ascending (tried c u t).1
ascending_tried c u t h = tried_elim (λ x. Ascending x.1) c u t h (ascending_changed u t h)

pub tried_other :
    (d q : ℕ) (c : Bool) (u : Update) (t : Table) → Ascending t → q ≢ first_bits d (account u) → having d q (tried c u t).1 ≡ having d q t
tried_other d q c u t s n = tried_elim (λ x. having d q x.1 ≡ having d q t) c u t refl (having_changed_other d q u t s n)

-- an update tried on its part of the table is tried on the table
pub tried_having : (d : ℕ) (c : Bool) (u : Update) (t : Table) → Ascending t
    → ◌≡◌ {A = Answer × Table} (tried c u (having d (first_bits d (account u)) t))
    ((tried c u t).0, having d (first_bits d (account u)) (tried c u t).1)
unfolding tried when◌then◌else◌
tried_having d c u t s =
    ap (λ (b : Bool). when c and b then (Crowded, part) else (result u part, changed u part)) (creates_having d u t)
    ∙ go (c and creates u t)
  where
    part : Table
    part = having d (first_bits d (account u)) t

    whole : Answer × Table → Answer × Table
    whole x = (x.0, having d (first_bits d (account u)) x.1)

    go :
        (b : Bool)
        → when b then (Crowded, part) else (result u part, changed u part) ≡ whole (when b then (Crowded, t) else (result u t, changed u t))
    go true = refl
    go false = λ i. (result_having d u t i, sym (having_changed d u t s) i)
