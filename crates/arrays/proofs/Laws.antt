-- Laws of the definitions of specs/Arrays, which the functions' proofs cite: a turn and the end of each loop, and the lengths of changed
-- arrays. Rests on those definitions.
use Prim.Native.Nat.{ℕ, zero, suc, ◌+◌, ◌-◌, ◌≤◌, ◌<◌}
use mathlib.Core.Path.{◌≡◌, refl, sym, ◌∙◌, subst}
use mathlib.Core.List.{List, [], ◌∷◌, ◌++◌, append_assoc, append-nil}
use native.Mathlib.Nat.{sub_self}
use native.Mathlib.Numerals.{add-one}
use native.Mathlib.Omega.{arith}
use lib.Dec.{ltb, leb, eqb}
use lib.ListN.{length, get_or, set, take, drop, length-append, length-take, length-drop, take-append-drop, get_or-append}
use lib.Seq.{append_snoc, drop-cons, get_or-take, length-take-le, set_at, take-suc}
use borrow.Author.Tests.{ltb-true, leb-true, lt-ltb, le-ltb, le-leb, lt-leb, eq-eqb, ne_eqb}
use Rattle.std.specs.List.{copy_within}
use Rattle.machine.specs.Choice.{when◌then◌else◌, ◌and◌}
use Rattle.machine.proofs.laws.Base.{if_elim, and_parts}
use Rattle.arrays.specs.Arrays.{inserted_in, removed_from, scan}
use Rattle.arrays.specs.declared.Position.{Position}
use Rattle.arrays.specs.declared.Position.TheVariants.{At, Before}

-- ---- items moved up, from the last of c down to position k; what stood at k still stands there

pub raised : List ℕ → ℕ → ℕ → List ℕ
raised l c k = take (suc k) l ++ take (c - k) (drop k l) ++ drop (suc c) l

-- a store at the last position of what was taken
set_end : (l r : List ℕ) (k v : ℕ) → k < length l → set (take (suc k) l ++ r) k v ≡ take k l ++ v ∷ r
set_end l r k v h = rw (take-suc l k 0, append_snoc) (set_at (take k l) (get_or l k 0) r v k (length-take-le k l (omega arith)))

pub raised_start : (l : List ℕ) (c : ℕ) → raised l c c ≡ l
unfolding raised
raised_start l c = rw (sub_self, append-nil, take-append-drop)

raised_step :
    (l : List ℕ) (c k : ℕ) → k < c → c < length l → set (raised l c (suc k)) (suc k) (get_or (raised l c (suc k)) k 0) ≡ raised l c k
unfolding raised
raised_step l c k h f =
    let rest : List ℕ = take (c - suc k) (drop (suc k) l) ++ drop (suc c) l in
    let front : List ℕ = take (suc (suc k)) l in
    let long : length front ≡ suc (suc k) = length-take-le (suc (suc k)) l (omega arith) in
    let read : get_or (front ++ rest) k 0 ≡ get_or l k 0 =
    get_or-append front rest 0 k (omega arith) ∙ get_or-take (suc (suc k)) l k 0 (omega arith) in
    let more : c - k ≡ suc (c - suc k) = omega arith in
    rw (append_assoc front, read, more, drop-cons l k 0 (omega arith), append_assoc (take (suc k) l))
    (set_end l rest (suc k) (get_or l k 0) (omega arith))

pub raised_turn :
    (l : List ℕ) (c k : ℕ) → 0 < k → k ≤ c → c < length l → set (raised l c k) k (get_or (raised l c k) (k - 1) 0) ≡ raised l c (k - 1)
raised_turn l c k p h f =
    let e : suc (k - 1) ≡ k = omega arith in
    rw e at (raised_step l c (k - 1) (omega arith) f)

pub raised_end : (l : List ℕ) (c i v : ℕ) → i ≤ c → c < length l → set (raised l c i) i v ≡ inserted_in l c i v
unfolding inserted_in when◌then◌else◌ ◌and◌ raised
raised_end l c i v h f =
    rw (lt-ltb c (length l) f, le-leb i c h, append_assoc)
    (set_end l _ i v (omega arith) ∙ sym (append_assoc (take i l) (v ∷ take (c - i) (drop i l)) (drop (suc c) l)))

-- no room, or a position past the first c
pub inserted_none : (l : List ℕ) (c i v : ℕ) → length l ≤ c → inserted_in l c i v ≡ l
unfolding inserted_in when◌then◌else◌ ◌and◌
inserted_none l c i v h = rw (le-ltb c (length l) h)

pub inserted_past : (l : List ℕ) (c i v : ℕ) → c < length l → c < i → inserted_in l c i v ≡ l
unfolding inserted_in when◌then◌else◌ ◌and◌
inserted_past l c i v f h = rw (lt-ltb c (length l) f, lt-leb i c h)

pub length_inserted : (l : List ℕ) (c i v : ℕ) → length (inserted_in l c i v) ≡ length l
unfolding inserted_in
length_inserted l c i v =
    if_elim (λ (m : List ℕ). length m ≡ length l) (ltb c (length l) and leb i c) _ l
    (λ t.
    let p = and_parts (ltb c (length l)) (leb i c) t in
    let h = ltb-true c (length l) p.0 in
    let k = leb-true i c p.1 in
    simp (length-append, length-take, length-drop) (omega arith))
    (λ t. refl)

-- ---- an item taken out

-- the items past i copied one place down
pub removed_copied : (l : List ℕ) (c i : ℕ) → i < c → c ≤ length l → copy_within l (i + 1) c i ≡ removed_from l c i
unfolding removed_from when◌then◌else◌ ◌and◌
removed_copied l c i h f =
    let end : i + (c - (i + 1)) ≡ c - 1 = omega arith in
    rw (le-leb c (length l) f, lt-ltb i c h, end, add-one)

pub removed_none : (l : List ℕ) (c i : ℕ) → length l < c → removed_from l c i ≡ l
unfolding removed_from when◌then◌else◌ ◌and◌
removed_none l c i h = rw (lt-leb c (length l) h)

pub removed_past : (l : List ℕ) (c i : ℕ) → c ≤ length l → c ≤ i → removed_from l c i ≡ l
unfolding removed_from when◌then◌else◌ ◌and◌
removed_past l c i f h = rw (le-leb c (length l) f, le-ltb i c h)

pub length_removed : (l : List ℕ) (c i : ℕ) → length (removed_from l c i) ≡ length l
unfolding removed_from
length_removed l c i =
    if_elim (λ (m : List ℕ). length m ≡ length l) (leb c (length l) and ltb i c) _ l
    (λ t.
    let p = and_parts (leb c (length l)) (ltb i c) t in
    let h = leb-true c (length l) p.0 in
    let k = ltb-true i c p.1 in
    simp (length-append, length-take, length-drop) (omega arith))
    (λ t. refl)

-- ---- a search

drop_past : (l : List ℕ) (i : ℕ) → length l ≤ i → drop i l ≡ []
drop_past [] zero h = refl
drop_past [] (suc i) h = refl
drop_past (x ∷ l) zero h = absurd (omega arith)
drop_past (x ∷ l) (suc i) h = drop_past l i (omega arith)

module _ (l : List ℕ) (a i : ℕ) where
  pub scan_hit : i < length l → a ≡ get_or l i 0 → scan (drop i l) a i ≡ At i
  unfolding scan when◌then◌else◌
  scan_hit h e = rw (drop-cons l i 0 h, le-leb a (get_or l i 0) (omega arith), eq-eqb a (get_or l i 0) e)

  pub scan_before : i < length l → a < get_or l i 0 → scan (drop i l) a i ≡ Before i
  unfolding scan when◌then◌else◌
  scan_before h e = rw (drop-cons l i 0 h, le-leb a (get_or l i 0) (omega arith), ne_eqb a (get_or l i 0) (omega arith))

  pub scan_turn : i < length l → get_or l i 0 < a → scan (drop i l) a i ≡ scan (drop (i + 1) l) a (i + 1)
  unfolding scan when◌then◌else◌
  scan_turn h e = rw (drop-cons l i 0 h, lt-leb a (get_or l i 0) e, add-one)

  pub scan_end : length l ≤ i → scan (drop i l) a i ≡ Before i
  unfolding scan
  scan_end h = rw (drop_past l i h)

-- a position among c accounts, or just past them
abbrev pub Among : ℕ → Position → Type 0
Among c (At i) = i < c
Among c (Before i) = i ≤ c

pub scan_among : (l : List ℕ) (a i : ℕ) → Among (i + length l) (scan l a i)
unfolding scan
scan_among [] a i = omega arith
scan_among (x ∷ xs) a i =
    let e : suc i + length xs ≡ i + suc (length xs) = omega arith in
    if_elim (Among (i + suc (length xs))) (leb a x) _ (scan xs a (suc i))
    (λ t. if_elim (Among (i + suc (length xs))) (eqb a x) (At i) (Before i) (λ u. omega arith) (λ u. omega arith))
    (λ t. subst (λ (k : ℕ). Among k (scan xs a (suc i))) e (scan_among xs a (suc i)))
