-- What the definitions on a state do to its table: search, put, remove and the half of a split; and that they keep it sound.
-- Rests on the laws of those definitions, and on the machine's laws of tables and of tests.
use Prim.Native.Nat.{ℕ, zero, suc, ◌+◌, ◌-◌, ◌^◌, ◌≤◌, ◌<◌}
use native.Mathlib.Omega.{arith}
use mathlib.Core.Path.{◌≡◌, refl, ap, sym, ◌∙◌, subst}
use mathlib.Core.Logic.{◌≢◌}
use mathlib.Core.List.{List, [], ◌∷◌, ◌++◌, map, append-nil, map-append}
use Rattle.std.specs.Prelude.{Some, None}
use lib.Dec.{leb, eqb}
use lib.IntN.{ℤ}
use lib.ListN.{length, get_or, set, take, drop, replicate, length-append, length-take, length-drop, length-set, length-map}
use lib.Seq.{take-add, take-suc, take_at, drop-cons, take-set-le, drop-set-lt, get_or-set_same, length-take-le}
use borrow.Author.Tests.{leb-true, leb-false, lt-ltb, le-ltb, le-leb}
use Rattle.machine.specs.Choice.{when◌then◌else◌}
use Rattle.machine.specs.Sequential.{Table, find, put, remove, having, first_bits, AccountsAbove, Ascending}
use Rattle.machine.proofs.laws.Base.{if_elim, if_true, if_false, if_eq, if_ne, if_ap, eq_elim, and_true}
use Rattle.machine.proofs.laws.Tables.{ascending_put, ascending_remove, ascending_having}
use Rattle.bucket.specs.declared.BucketState.{BucketState}
use Rattle.arrays.specs.declared.Position.{Position}
use Rattle.arrays.specs.declared.Position.TheVariants.{At, Before}
use Rattle.bucket.specs.State.{array_size, size_of, search_of, put_of, remove_of}
use Rattle.rounds.specs.Rounds.{with_applied}
use Rattle.halves.specs.Halves.{keeps, gathered, half_of}
use Rattle.arrays.specs.Arrays.{inserted_in, removed_from, scan}
use Rattle.simulation.specs.Buckets.{signed, pairs, items_of, total_at, Below, Sound}
use Rattle.arrays.proofs.Laws.{length_inserted, length_removed}
use Rattle.bucket.proofs.Laws.{size_is}
use Rattle.halves.proofs.Laws.{length_keeps, length_gathered}

-- ---- the first items of an array

-- the first c, cut at position i; then with the item at i apart
take_cut : (l : List ℕ) (c i : ℕ) → i ≤ c → take c l ≡ take i l ++ take (c - i) (drop i l)
take_cut l c i h = let e : c ≡ i + (c - i) = omega arith in ap (λ (k : ℕ). take k l) e ∙ take-add i (c - i) l

take_cut_at : (l : List ℕ) (c i : ℕ) → i < c → c ≤ length l → take c l ≡ take i l ++ get_or l i 0 ∷ take (c - suc i) (drop (suc i) l)
take_cut_at l c i h b =
    let e : c - i ≡ suc (c - suc i) = omega arith in
    let k : i < length l = omega arith in
    take_cut l c i (omega arith) ∙ rw (e, drop-cons l i 0 k)

take_set : (l : List ℕ) (c i v : ℕ) → i < c → c ≤ length l → take c (set l i v) ≡ take i l ++ v ∷ take (c - suc i) (drop (suc i) l)
take_set l c i v h b =
    take_cut_at (set l i v) c i h (simp length-set b)
    ∙ rw (take-set-le i l i v (omega arith), get_or-set_same l i v 0 (omega arith), drop-set-lt (suc i) l i v (omega arith))

-- what is inserted stands between the items before it and those after it
abbrev grown : List ℕ → ℕ → ℕ → ℕ → List ℕ
grown l c i v = take i l ++ v ∷ take (c - i) (drop i l)

length_grown : (l : List ℕ) (c i v : ℕ) → c < length l → i ≤ c → length (grown l c i v) ≡ suc c
length_grown l c i v h k = simp (length-append, length-take, length-drop) (omega arith)

inserted_is : (l : List ℕ) (c i v : ℕ) → c < length l → i ≤ c → inserted_in l c i v ≡ grown l c i v ++ drop (suc c) l
unfolding inserted_in
inserted_is l c i v h k = if_true (grown l c i v ++ drop (suc c) l) l (and_true (lt-ltb c (length l) h) (le-leb i c k))

take_inserted : (l : List ℕ) (c i v : ℕ) → c < length l → i ≤ c → take (suc c) (inserted_in l c i v) ≡ grown l c i v
take_inserted l c i v h k =
    ap (take (suc c)) (inserted_is l c i v h k) ∙ take_at (grown l c i v) (drop (suc c) l) (suc c) (length_grown l c i v h k)

-- the items before and after the one that is taken out
abbrev shrunk : List ℕ → ℕ → ℕ → List ℕ
shrunk l c i = take i l ++ take (c - suc i) (drop (suc i) l)

length_shrunk : (l : List ℕ) (c i : ℕ) → c ≤ length l → i < c → length (shrunk l c i) ≡ c - 1
length_shrunk l c i h k = simp (length-append, length-take, length-drop) (omega arith)

removed_is : (l : List ℕ) (c i : ℕ) → c ≤ length l → i < c → removed_from l c i ≡ shrunk l c i ++ drop (c - 1) l
unfolding removed_from
removed_is l c i h k = if_true (shrunk l c i ++ drop (c - 1) l) l (and_true (le-leb c (length l) h) (lt-ltb i c k))

take_removed : (l : List ℕ) (c i : ℕ) → c ≤ length l → i < c → take (c - 1) (removed_from l c i) ≡ shrunk l c i
take_removed l c i h k =
    ap (take (c - 1)) (removed_is l c i h k) ∙ take_at (shrunk l c i) (drop (c - 1) l) (c - 1) (length_shrunk l c i h k)

-- ---- bounds

below_parts : (k : ℕ) (p q : List ℕ) → Below k (p ++ q) → Below k p × Below k q
below_parts k [] q h = (tt, h)
below_parts k (x ∷ p) q h = let r = below_parts k p q h.1 in ((h.0, r.0), r.1)

below_append : (k : ℕ) (p q : List ℕ) → Below k p → Below k q → Below k (p ++ q)
below_append k [] q h g = g
below_append k (x ∷ p) q h g = (h.0, below_append k p q h.1 g)

below_set : (k : ℕ) (l : List ℕ) (c i v : ℕ) → v < k → i < c → c ≤ length l → Below k (take c l) → Below k (take c (set l i v))
below_set k l c i v small h b all =
    let r = below_parts k (take i l) _ (rw (take_cut_at l c i h b) at all) in
    rw (take_set l c i v h b) (below_append k (take i l) _ r.0 (small, r.1.1))

below_inserted :
    (k : ℕ) (l : List ℕ) (c i v : ℕ) → v < k → c < length l → i ≤ c → Below k (take c l) → Below k (take (suc c) (inserted_in l c i v))
below_inserted k l c i v small h g all =
    let r = below_parts k (take i l) _ (rw (take_cut l c i g) at all) in
    rw (take_inserted l c i v h g) (below_append k (take i l) _ r.0 (small, r.1))

below_removed :
    (k : ℕ) (l : List ℕ) (c i : ℕ) → c ≤ length l → i < c → Below k (take c l) → Below k (take (c - 1) (removed_from l c i))
below_removed k l c i h g all =
    let r = below_parts k (take i l) _ (rw (take_cut_at l c i g h) at all) in
    rw (take_removed l c i h g) (below_append k (take i l) _ r.0 r.1.1)

-- ---- pairs

pairs_append : (p v q w : List ℕ) → length p ≡ length v → pairs (p ++ q) (v ++ w) ≡ pairs p v ++ pairs q w
unfolding pairs
pairs_append [] [] q w h = refl
pairs_append [] (y ∷ v) q w h = absurd (omega arith)
pairs_append (x ∷ p) [] q w h = absurd (omega arith)
pairs_append (x ∷ p) (y ∷ v) q w h = ap (λ (t : Table). (x, signed y) ∷ t) (pairs_append p v q w (omega arith))

length_pairs : (p v : List ℕ) → length p ≡ length v → length (pairs p v) ≡ length p
unfolding pairs
length_pairs [] v h = refl
length_pairs (x ∷ p) [] h = absurd (omega arith)
length_pairs (x ∷ p) (y ∷ v) h = ap suc (length_pairs p v (omega arith))

-- what is done at account a goes past the accounts below it
module _ (a : ℕ) where
  put_past : (p v : List ℕ) (t : Table) (z : ℤ) → Below a p → put (pairs p v ++ t) a z ≡ pairs p v ++ put t a z
  unfolding pairs put
  put_past [] v t z h = refl
  put_past (x ∷ p) [] t z h = refl
  put_past (x ∷ p) (y ∷ v) t z h =
      if_false _ _ (le-ltb a x (omega (arith, h.0)))
      ∙ if_ne a x _ _ (λ e. omega (arith, h.0))
      ∙ ap (λ (r : Table). (x, signed y) ∷ r) (put_past p v t z h.1)

  remove_past : (p v : List ℕ) (t : Table) → Below a p → remove (pairs p v ++ t) a ≡ pairs p v ++ remove t a
  unfolding pairs remove
  remove_past [] v t h = refl
  remove_past (x ∷ p) [] t h = refl
  remove_past (x ∷ p) (y ∷ v) t h =
      if_ne x a _ _ (λ e. omega (arith, h.0)) ∙ ap (λ (r : Table). (x, signed y) ∷ r) (remove_past p v t h.1)

  find_past : (p v : List ℕ) (t : Table) → Below a p → find (pairs p v ++ t) a ≡ find t a
  unfolding pairs find
  find_past [] v t h = refl
  find_past (x ∷ p) [] t h = refl
  find_past (x ∷ p) (y ∷ v) t h = if_ne x a _ _ (λ e. omega (arith, h.0)) ∙ find_past p v t h.1

ascending_after : (t r : Table) → Ascending (t ++ r) → Ascending r
ascending_after [] r h = h
ascending_after (e ∷ t) r h = ascending_after t r h.1

-- ---- states

-- the first c items of two arrays
abbrev items : ℕ → List ℕ → List ℕ → Table
items c A T = pairs (take c A) (take c T)

-- the state with these accounts and totals, the first c of each
abbrev holding : BucketState → List ℕ → List ℕ → ℕ → BucketState
holding x A T c =
    record {
      accounts = A;
      totals = T;
      settled = x.settled;
      answers = x.answers;
      posted = x.posted;
      count = c;
      applied = x.applied;
    }

-- y is sound, and is x but for its table, which is t
pub record Becomes (x : BucketState) (t : Table) (y : BucketState) : Type 0 where
  pub sound : Sound y
  pub items : items_of y ≡ t
  pub settled : y.settled ≡ x.settled
  pub answers : y.answers ≡ x.answers
  pub posted : y.posted ≡ x.posted
  pub applied : y.applied ≡ x.applied

-- a table that nothing changes
pub stays_as : {x : BucketState} {t : Table} → Sound x → items_of x ≡ t → Becomes x t x
stays_as s e = record { sound = s; items = e; settled = refl; answers = refl; posted = refl; applied = refl }

items_are : (x : BucketState) → x.count ≤ array_size → items_of x ≡ items x.count x.accounts x.totals
unfolding items_of
items_are x h = ap (λ (k : ℕ). items k x.accounts x.totals) (size_is x h)

holding_becomes :
    {x : BucketState} {t : Table} (A T : List ℕ) (c : ℕ) → Sound x → length A ≡ array_size → length T ≡ array_size → c ≤ array_size
    → Below (2 ^ 32) (take c A) → Below (2 ^ 64) (take c T) → Ascending t → items c A T ≡ t → Becomes x t (holding x A T c)
holding_becomes {x} {t} A T c s la lt few narrow fits asc e =
    record {
      sound = record {
        count = few;
        accounts = la;
        totals = lt;
        settled = s.settled;
        answers = s.answers;
        posted = s.posted;
        ascending = subst Ascending (sym has) asc;
        narrow = narrow;
        fits = fits;
      };
      items = has;
      settled = refl;
      answers = refl;
      posted = refl;
      applied = refl;
    }
  where
    has : items_of (holding x A T c) ≡ t
    has = items_are (holding x A T c) few ∙ e

-- ---- where an account stands

-- the first item, if there is one, is above a
abbrev Next : ℕ → List ℕ → Type 0
Next a [] = Unit {0}
Next a (x ∷ l) = a < x

-- the accounts before the position are below a; at it stands a, or next comes one above a
abbrev Stands : BucketState → ℕ → Position → Type 0
Stands x a (At i) = (i < x.count) × Below a (take i x.accounts) × (get_or x.accounts i 0 ≡ a)
Stands x a (Before i) = (i ≤ x.count) × Below a (take i x.accounts) × Next a (take (x.count - i) (drop i x.accounts))

-- m accounts, from position i on, are still to be scanned
scan_stands :
    (x : BucketState) (a m i : ℕ) → i + m ≡ x.count → x.count ≤ length x.accounts → Below a (take i x.accounts)
    → Stands x a (scan (take m (drop i x.accounts)) a i)
unfolding scan
scan_stands x a zero i e b h = let z : x.count - i ≡ 0 = omega arith in (omega arith, h, rw z tt)
scan_stands x a (suc m) i e b h =
    let l : List ℕ = x.accounts in
    let k : i < length l = omega arith in
    let r : x.count - i ≡ suc m = omega arith in
    let f : ℕ = get_or l i 0 in
    rw (drop-cons l i 0 k) (
    if_elim (Stands x a) (leb a f) (when eqb a f then At i else Before i) (scan (take m (drop (suc i) l)) a (suc i))
    (λ q. eq_elim (Stands x a) a f (At i) (Before i)
    (λ y. (omega arith, h, sym y))
    (λ n. (omega arith, h, rw (r, drop-cons l i 0 k) (omega (arith, leb-true a f q, n)))))
    (λ q. scan_stands x a m (suc i) (omega arith) b (rw (take-suc l i 0 k) (below_append a (take i l) (f ∷ []) h (leb-false a f q, tt))))
    )

put_next : (a : ℕ) (l v : List ℕ) (z : ℤ) → length l ≡ length v → Next a l → put (pairs l v) a z ≡ (a, z) ∷ pairs l v
unfolding pairs put
put_next a [] v z e h = refl
put_next a (x ∷ l) [] z e h = absurd (omega arith)
put_next a (x ∷ l) (y ∷ v) z e h = if_true _ _ (lt-ltb a x h)

-- account a is not in the table, so that it is not found, and to take it out changes nothing
abbrev Absent : ℕ → Table → Type 0
Absent a t = (find t a ≡ None) × (remove t a ≡ t)

absent_above : (b a : ℕ) (t : Table) → a ≤ b → AccountsAbove b t → Absent a t
unfolding find remove
absent_above b a [] l h = (refl, refl)
absent_above b a (e ∷ t) l h =
    let n : e.0 ≢ a = λ q. omega (arith, h.0) in
    let r = absent_above b a t l h.1 in
    (if_ne e.0 a _ _ n ∙ r.0, if_ne e.0 a _ _ n ∙ ap (λ (r : Table). e ∷ r) r.1)

absent_next : (a : ℕ) (l v : List ℕ) → length l ≡ length v → Next a l → Ascending (pairs l v) → Absent a (pairs l v)
unfolding pairs find remove
absent_next a [] v e h g = (refl, refl)
absent_next a (x ∷ l) [] e h g = absurd (omega arith)
absent_next a (x ∷ l) (y ∷ v) e h g =
    let n : x ≢ a = λ q. omega arith in
    let r = absent_above x a (pairs l v) (omega arith) g.0 in
    (if_ne x a _ _ n ∙ r.0, if_ne x a _ _ n ∙ ap (λ (r : Table). (x, signed y) ∷ r) r.1)

-- m items, from position k on
abbrev span : BucketState → ℕ → ℕ → Table
span x k m = items m (drop k x.accounts) (drop k x.totals)

module _ (x : BucketState) (s : Sound x) where
  level : (k m : ℕ) → length (take m (drop k x.accounts)) ≡ length (take m (drop k x.totals))
  level k m = simp (length-take, length-drop) (rw (s.accounts, s.totals))

  pub length_items : length (items_of x) ≡ x.count
  length_items =
      ap length (items_are x s.count)
      ∙ length_pairs (take x.count x.accounts) (take x.count x.totals) (level 0 x.count)
      ∙ length-take-le x.count x.accounts (omega arith)

  -- the table in two parts, at position i
  cut : (i : ℕ) → i ≤ x.count → items_of x ≡ span x 0 i ++ span x i (x.count - i)
  cut i h =
      items_are x s.count
      ∙ rw (take_cut x.accounts x.count i h, take_cut x.totals x.count i h) (pairs_append _ _ _ _ (level 0 i))

  -- the table with one item between two parts
  glue :
      (i a v k m : ℕ)
      → pairs (take i x.accounts ++ a ∷ take m (drop k x.accounts)) (take i x.totals ++ v ∷ take m (drop k x.totals))
      ≡ span x 0 i ++ (a, signed v) ∷ span x k m
  unfolding pairs
  glue i a v k m =
      pairs_append (take i x.accounts) (take i x.totals) (a ∷ take m (drop k x.accounts)) (v ∷ take m (drop k x.totals))
      (level 0 i)

  -- account a stands at position i
  module _ (a i : ℕ) (h : Stands x a (At i)) where
    rest : Table
    rest = span x (suc i) (x.count - suc i)

    cut_at : items_of x ≡ span x 0 i ++ (a, signed (get_or x.totals i 0)) ∷ rest
    unfolding rest
    cut_at =
        items_are x s.count
        ∙ rw (take_cut_at x.accounts x.count i h.0 (omega arith), take_cut_at x.totals x.count i h.0 (omega arith), h.2)
        (glue i a (get_or x.totals i 0) (suc i) (x.count - suc i))

    set_items : (v : ℕ) → items x.count x.accounts (set x.totals i v) ≡ put (items_of x) a (signed v)
    unfolding put rest
    set_items v =
        let c : ℕ = x.count in
        rw (take_cut_at x.accounts c i h.0 (omega arith), take_set x.totals c i v h.0 (omega arith), h.2, cut_at) (
        glue i a v (suc i) (x.count - suc i)
        ∙ sym (put_past a (take i x.accounts) (take i x.totals) _ (signed v) h.1 ∙ ap (λ (t : Table). span x 0 i ++ t) here)
        )
      where
        here : put ((a, signed (get_or x.totals i 0)) ∷ rest) a (signed v) ≡ (a, signed v) ∷ rest
        here = if_false _ _ (le-ltb a a (omega arith)) ∙ if_eq a a _ _ refl

    removed_items :
        items (x.count - 1) (removed_from x.accounts x.count i) (removed_from x.totals x.count i) ≡ remove (items_of x) a
    unfolding remove rest
    removed_items =
        let c : ℕ = x.count in
        rw (take_removed x.accounts c i (omega arith) h.0, take_removed x.totals c i (omega arith) h.0, cut_at) (
        pairs_append (take i x.accounts) (take i x.totals) _ _ (level 0 i)
        ∙ sym (remove_past a (take i x.accounts) (take i x.totals) _ h.1
        ∙ ap (λ (t : Table). span x 0 i ++ t) (if_eq a a _ _ refl))
        )

    found_items : find (items_of x) a ≡ Some (signed (get_or x.totals i 0))
    unfolding find
    found_items = rw cut_at (find_past a (take i x.accounts) (take i x.totals) _ h.1 ∙ if_eq a a _ _ refl)

  -- account a belongs before position i
  module _ (a i : ℕ) (h : Stands x a (Before i)) where
    inserted_items :
        (v : ℕ) → x.count < array_size
        → items (suc x.count) (inserted_in x.accounts x.count i a) (inserted_in x.totals x.count i v)
        ≡ put (items_of x) a (signed v)
    inserted_items v k =
        let c : ℕ = x.count in
        rw (take_inserted x.accounts c i a (omega arith) h.0, take_inserted x.totals c i v (omega arith) h.0, cut i h.0) (
        glue i a v i (c - i)
        ∙ sym (put_past a (take i x.accounts) (take i x.totals) _ (signed v) h.1
        ∙ ap (λ (t : Table). span x 0 i ++ t) (put_next a _ _ (signed v) (level i (x.count - i)) h.2))
        )

    absent_items : Absent a (items_of x)
    absent_items = rw (cut i h.0) (
      find_past a (take i x.accounts) (take i x.totals) _ h.1 ∙ after.0,
      remove_past a (take i x.accounts) (take i x.totals) _ h.1 ∙ ap (λ (t : Table). span x 0 i ++ t) after.1,
    )
      where
        after : Absent a (span x i (x.count - i))
        after =
            absent_next a _ _ (level i (x.count - i)) h.2
            (ascending_after (span x 0 i) _ (subst Ascending (cut i h.0) s.ascending))

  -- ---- search, put and remove

  module _ (a : ℕ) where
    search_stands : Stands x a (search_of x a)
    unfolding search_of
    search_stands = rw (size_is x s.count) (scan_stands x a x.count 0 (omega arith) (omega arith) tt)

    find_at : (p : Position) → Stands x a p → find (items_of x) a ≡ total_at x p
    unfolding total_at
    find_at (At i) h = found_items a i h
    find_at (Before i) h = (absent_items a i h).0

    -- what a search finds is what the table has
    pub find_search : find (items_of x) a ≡ total_at x (search_of x a)
    find_search = find_at (search_of x a) search_stands

    remove_at_becomes : (p : Position) → Stands x a p → Becomes x (remove (items_of x) a) (remove_of x p)
    unfolding remove_of
    remove_at_becomes (At i) h =
        let c : ℕ = x.count in
        rw (size_is x s.count) (
        holding_becomes (removed_from x.accounts c i) (removed_from x.totals c i) (c - 1) s
        (length_removed x.accounts c i ∙ s.accounts) (length_removed x.totals c i ∙ s.totals)
        (omega arith)
        (below_removed (2 ^ 32) x.accounts c i (omega arith) h.0 s.narrow)
        (below_removed (2 ^ 64) x.totals c i (omega arith) h.0 s.fits)
        (ascending_remove (items_of x) a s.ascending) (removed_items a i h)
        )
    remove_at_becomes (Before i) h = stays_as s (sym (absent_items a i h).1)

    -- "takes the account out, or .. changes nothing"
    pub remove_becomes : Becomes x (remove (items_of x) a) (remove_of x (search_of x a))
    remove_becomes = remove_at_becomes (search_of x a) search_stands

    module _ (v : ℕ) (narrow : a < 2 ^ 32) (fits : v < 2 ^ 64) where
      put_at_becomes :
          (p : Position) → Stands x a p → (total_at x p ≡ None → x.count < array_size)
          → Becomes x (put (items_of x) a (signed v)) (put_of x p a v)
      unfolding put_of total_at
      put_at_becomes (At i) h room =
          holding_becomes x.accounts (set x.totals i v) x.count s s.accounts (length-set x.totals i v ∙ s.totals) s.count
          s.narrow (below_set (2 ^ 64) x.totals x.count i v fits h.0 (omega arith) s.fits)
          (ascending_put (items_of x) a (signed v) s.ascending) (set_items a i h v)
      put_at_becomes (Before i) h room =
          let c : ℕ = x.count in
          let k : c < array_size = room refl in
          let one : c + 1 ≡ suc c = omega arith in
          rw (size_is x s.count, one) (
          subst (Becomes x (put (items_of x) a (signed v))) (sym (if_true _ x (lt-ltb c array_size k))) (
          holding_becomes (inserted_in x.accounts c i a) (inserted_in x.totals c i v) (suc c) s
          (length_inserted x.accounts c i a ∙ s.accounts) (length_inserted x.totals c i v ∙ s.totals) k
          (below_inserted (2 ^ 32) x.accounts c i a narrow (omega arith) h.0 s.narrow)
          (below_inserted (2 ^ 64) x.totals c i v fits (omega arith) h.0 s.fits)
          (ascending_put (items_of x) a (signed v) s.ascending) (inserted_items a i h v k)
          )
          )

      -- "sets the account's total"; where the account is not there, there must be room for it
      pub put_becomes :
          (find (items_of x) a ≡ None → x.count < array_size)
          → Becomes x (put (items_of x) a (signed v)) (put_of x (search_of x a) a v)
      put_becomes room = put_at_becomes (search_of x a) search_stands (λ e. room (find_search ∙ e))

-- ---- the half of a split

pub sound_applied : {x : BucketState} (w : ℕ) → Sound x → Sound (with_applied x w)
unfolding with_applied items_of size_of
sound_applied w s =
    record {
      count = s.count;
      accounts = s.accounts;
      totals = s.totals;
      settled = s.settled;
      answers = s.answers;
      posted = s.posted;
      ascending = s.ascending;
      narrow = s.narrow;
      fits = s.fits;
    }

having_append : (d q : ℕ) (t r : Table) → having d q (t ++ r) ≡ having d q t ++ having d q r
unfolding having
having_append d q [] r = refl
having_append d q (e ∷ t) r =
    ap (λ (y : Table). when eqb (first_bits d e.0) q then e ∷ y else y) (having_append d q t r)
    ∙ sym (if_ap (λ (y : Table). y ++ having d q r) (eqb (first_bits d e.0) q) (e ∷ having d q t) (having d q t))

having_in : (d q : ℕ) (t : Table) (e : ℕ × ℤ) → first_bits d e.0 ≡ q → having d q (t ++ e ∷ []) ≡ having d q t ++ e ∷ []
unfolding having
having_in d q t e h = having_append d q t (e ∷ []) ∙ ap (λ (y : Table). having d q t ++ y) (if_eq (first_bits d e.0) q (e ∷ []) [] h)

having_out : (d q : ℕ) (t : Table) (e : ℕ × ℤ) → first_bits d e.0 ≢ q → having d q (t ++ e ∷ []) ≡ having d q t
unfolding having
having_out d q t e h =
    having_append d q t (e ∷ [])
    ∙ ap (λ (y : Table). having d q t ++ y) (if_ne (first_bits d e.0) q (e ∷ []) [] h) ∙ append-nil (having d q t)

-- the items at these positions
abbrev picked : List ℕ → List ℕ → List ℕ
picked l positions = map (λ i. get_or l i 0) positions

picked_snoc : (l p : List ℕ) (k : ℕ) → picked l (p ++ k ∷ []) ≡ picked l p ++ get_or l k 0 ∷ []
picked_snoc l p k = map-append (λ i. get_or l i 0) p (k ∷ [])

take_gathered : (l p : List ℕ) → take (length p) (gathered l p) ≡ picked l p
unfolding gathered
take_gathered l p = take_at (picked l p) (replicate (array_size - length p) 0) (length p) (length-map p (λ i. get_or l i 0))

module _ (A : List ℕ) (d q : ℕ) where
  keeps_below : (b : ℕ) (l : List ℕ) (k : ℕ) → k ≤ length l → Below b (take k l) → Below b (picked l (keeps A d q k))
  unfolding keeps
  keeps_below b l zero h all = tt
  keeps_below b l (suc k) h all =
      let r = below_parts b (take k l) (get_or l k 0 ∷ []) (rw (take-suc l k 0 h) at all) in
      let before = keeps_below b l k (omega arith) r.0 in
      eq_elim (λ (p : List ℕ). Below b (picked l p)) (first_bits d (get_or A k 0)) q (keeps A d q k ++ k ∷ []) (keeps A d q k)
      (λ e. rw (picked_snoc l (keeps A d q k) k) (below_append b (picked l (keeps A d q k)) _ before r.1)) (λ e. before)

  keeps_items :
      (T : List ℕ) (k : ℕ) → k ≤ length A → k ≤ length T
      → pairs (picked A (keeps A d q k)) (picked T (keeps A d q k)) ≡ having d q (items k A T)
  unfolding keeps pairs having
  keeps_items T zero la lt = refl
  keeps_items T (suc k) la lt =
      let before = keeps_items T k (omega arith) (omega arith) in
      eq_elim (λ (p : List ℕ). pairs (picked A p) (picked T p) ≡ having d q (items (suc k) A T))
      (first_bits d (get_or A k 0)) q (K ++ k ∷ []) K
      (λ e. rw (picked_snoc A K k, picked_snoc T K k) (pairs_append (picked A K) (picked T K) _ _ (length-map K _ ∙ sym (length-map K _)))
      ∙ ap (λ (t : Table). t ++ E ∷ []) before ∙ sym (ap (having d q) one_more ∙ having_in d q (items k A T) E e))
      (λ n. before ∙ sym (ap (having d q) one_more ∙ having_out d q (items k A T) E n))
    where
      K : List ℕ
      K = keeps A d q k

      E : ℕ × ℤ
      E = (get_or A k 0, signed (get_or T k 0))

      one_more : items (suc k) A T ≡ items k A T ++ E ∷ []
      one_more =
          rw (take-suc A k 0 la, take-suc T k 0 lt)
          (pairs_append (take k A) (take k T) _ _ (length-take-le k A (omega arith) ∙ sym (length-take-le k T (omega arith))))

-- the half of a split whose accounts have the prefix q of d bits
pub half_becomes : (x : BucketState) → Sound x → (d q : ℕ) → Becomes (with_applied x 0) (having d q (items_of x)) (half_of x d q)
unfolding half_of with_applied
half_becomes x s d q =
    rw (size_is x s.count) (
    holding_becomes (gathered A K) (gathered T K) (length K) (sound_applied 0 s) (length_gathered A K few) (length_gathered T K few) few
    (rw (take_gathered A K) (keeps_below A d q (2 ^ 32) A x.count (omega arith) s.narrow))
    (rw (take_gathered T K) (keeps_below A d q (2 ^ 64) T x.count (omega arith) s.fits))
    (ascending_having d q (items_of x) s.ascending)
    (rw (take_gathered A K, take_gathered T K, items_are x s.count) (keeps_items A d q T x.count (omega arith) (omega arith)))
    )
  where
    A : List ℕ
    A = x.accounts

    T : List ℕ
    T = x.totals

    K : List ℕ
    K = keeps A d q x.count

    few : length K ≤ array_size
    few = omega (arith, length_keeps A d q x.count)
