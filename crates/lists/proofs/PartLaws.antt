-- Laws of runs: an overlay of a list of anything, then for words their lengths, single words, and what an overlay does to each run.
-- Rests on the library's laws of lists; from the laws of single words on, lists are compared word by word.
use Prim.Native.Nat.{ℕ, ◌+◌, ◌-◌, ◌≤◌, ◌<◌}
use native.Mathlib.Nat.{add-zero, zero-add, add_assoc}
use native.Mathlib.Omega.{arith}
use native.Mathlib.Numerals.{add-one}
use native.Mathlib.Decide.{dec_lt}
use mathlib.Core.Path.{◌≡◌, refl, sym, ◌∙◌, ap, subst}
use mathlib.Core.List.{List, [], ◌∷◌, ◌++◌, append_assoc, append-nil}
use lib.ListN.{length, get_or, set, take, drop, length-append, length-drop, take-append-drop, get_or-append}
use lib.Seq.{length-take-le, take_at, drop-append-add, drop_at, drop-drop, get_or-take, get_or-drop, get_or-append-add, set_split, append_snoc, ext_get_or}
use Rattle.lists.specs.Parts.{part, overlay}

-- ---- a part, as code takes it

-- from `at` to `at + k`
pub part_taken : (l : List ℕ) (at to k : ℕ) → at ≡ to → take (at + k - at) (drop at l) ≡ part l to k
unfolding part
part_taken l at to k e = let size : at + k - at ≡ k = omega arith in rw (size, e)

-- ---- an overlay of a list of anything

pub set_overlay : {A : Type 0} (l : List A) (i : ℕ) (v : A) → i < length l → set l i v ≡ overlay l i (v ∷ [])
unfolding overlay
set_overlay l i v h = set_split l i v h ∙ rw (append_snoc, add-one)

module _ {A : Type 0} (l : List A) (at : ℕ) where
  pub overlay_nil : overlay l at [] ≡ l
  unfolding overlay
  overlay_nil = rw (add-zero, append-nil, take-append-drop)

  module _ (xs : List A) where
    length_front : at ≤ length l → length (take at l ++ xs) ≡ at + length xs
    length_front h = rw (length-append, length-take-le at l h)

    pub length_overlay : at + length xs ≤ length l → length (overlay l at xs) ≡ length l
    unfolding overlay
    length_overlay h = rw (length-append (take at l ++ xs), length_front (omega arith), length-drop) (omega arith)

    -- a run laid behind a run
    pub overlay_join : (ys : List A) → at ≤ length l → overlay (overlay l at xs) (at + length xs) ys ≡ overlay l at (xs ++ ys)
    unfolding overlay
    overlay_join ys h =
        let p : List A = take at l ++ xs in
        let rest : List A = drop (at + length xs) l in
        let e = length_front h in
        let n : at + length xs + length ys ≡ at + length (xs ++ ys) = omega (arith, length-append xs ys) in
        let behind : drop (at + length xs + length ys) (p ++ rest) ≡ drop (at + length (xs ++ ys)) l =
        ap (λ (k : ℕ). drop (k + length ys) (p ++ rest)) (sym e)
        ∙ drop-append-add p rest (length ys)
        ∙ drop-drop (length ys) (at + length xs) l
        ∙ ap (λ (k : ℕ). drop k l) n in
        ap (λ (f : List A). f ++ ys ++ drop (at + length xs + length ys) (p ++ rest)) (take_at p rest (at + length xs) e)
        ∙ ap (λ (r : List A). p ++ ys ++ r) behind
        ∙ ap (λ (f : List A). f ++ drop (at + length (xs ++ ys)) l) (append_assoc (take at l) xs ys)

    -- an item written behind a run
    pub overlay_more : (v : A) → at + length xs < length l → set (overlay l at xs) (at + length xs) v ≡ overlay l at (xs ++ v ∷ [])
    overlay_more v h =
        set_overlay (overlay l at xs) (at + length xs) v (rw (length_overlay (omega arith)) h) ∙ overlay_join (v ∷ []) (omega arith)

-- ---- an overlay from the first position on

module _ {A : Type 0} where
  pub overlay_first : (l xs : List A) → overlay l 0 xs ≡ xs ++ drop (length xs) l
  unfolding overlay
  overlay_first l xs = ap (λ (n : ℕ). xs ++ drop n l) (zero-add (length xs))

  -- written again, as many
  pub overlay_again : (l xs ys : List A) → length xs ≡ length ys → overlay (overlay l 0 xs) 0 ys ≡ overlay l 0 ys
  overlay_again l xs ys e =
      ap (λ (r : List A). overlay r 0 ys) (overlay_first l xs)
      ∙ overlay_first (xs ++ drop (length xs) l) ys
      ∙ ap (λ (r : List A). ys ++ r) (drop_at xs (drop (length xs) l) (length ys) e ∙ ap (λ (n : ℕ). drop n l) e)
      ∙ sym (overlay_first l ys)

  -- a list that differs from l in its first k items only is l with those items
  pub overlay_front :
      (d : A) (l m : List A) (k : ℕ) → length m ≡ length l → k ≤ length l → ((i : ℕ) → k ≤ i → get_or m i d ≡ get_or l i d)
      → m ≡ overlay l 0 (take k m)
  overlay_front d l m k e h same =
      let n : length (take k m) ≡ k = length-take-le k m (omega arith) in
      let lengths : length (drop k m) ≡ length (drop k l) = length-drop k m ∙ rw e (sym (length-drop k l)) in
      let rest : drop k m ≡ drop k l =
      ext_get_or d (drop k m) (drop k l) lengths
      (λ i b. get_or-drop k m i d ∙ same (k + i) (omega arith) ∙ sym (get_or-drop k l i d)) in
      sym (take-append-drop k m)
      ∙ ap (λ (r : List A). take k m ++ r) (rest ∙ ap (λ (j : ℕ). drop j l) (sym n))
      ∙ sym (overlay_first l (take k m))

-- ---- a run

pub length_part : (l : List ℕ) (at size : ℕ) → at + size ≤ length l → length (part l at size) ≡ size
unfolding part
length_part l at size fits = length-take-le size (drop at l) (rw length-drop (omega arith))

pub get_d_part : (l : List ℕ) (at size i : ℕ) → i < size → get_or (part l at size) i 0 ≡ get_or l (at + i) 0
unfolding part
get_d_part l at size i h = rw (get_or-take, get_or-drop)

-- a list is a run if it has the run's length and words
pub part_ext :
    (l : List ℕ) (at size : ℕ) (xs : List ℕ) → at + size ≤ length l → length xs ≡ size
    → ((i : ℕ) → i < size → get_or l (at + i) 0 ≡ get_or xs i 0) → part l at size ≡ xs
part_ext l at size xs fits e same =
    let k : length (part l at size) ≡ size = length_part l at size fits in
    ext_get_or 0 _ xs (k ∙ sym e) (λ i h. get_d_part l at size i (omega arith) ∙ same i (omega arith))

-- ---- an overlay of words

get_d_behind : (p q : List ℕ) (n i : ℕ) → length p ≡ n → get_or (p ++ q) (n + i) 0 ≡ get_or q i 0
get_d_behind p q n i e = subst (λ (k : ℕ). get_or (p ++ q) (k + i) 0 ≡ get_or q i 0) e (get_or-append-add p q i 0)

module _ (l : List ℕ) (at : ℕ) (xs : List ℕ) (fits : at + length xs ≤ length l) where
  length_before : length (take at l) ≡ at
  length_before = length-take-le at l (omega arith)

  pub get_d_overlay_in : (i : ℕ) → i < length xs → get_or (overlay l at xs) (at + i) 0 ≡ get_or xs i 0
  unfolding overlay
  get_d_overlay_in i h = rw (append_assoc, get_d_behind (take at l) _ at i length_before) (get_or-append xs _ 0 i h)

  pub get_d_overlay_before : (i : ℕ) → i < at → get_or (overlay l at xs) i 0 ≡ get_or l i 0
  unfolding overlay
  get_d_overlay_before i h =
      let k = length_before in
      rw (append_assoc, get_or-append (take at l) _ 0 i (omega arith)) (get_or-take at l i 0 h)

  pub get_d_overlay_after : (i : ℕ) → at + length xs ≤ i → get_or (overlay l at xs) i 0 ≡ get_or l i 0
  unfolding overlay
  get_d_overlay_after i h =
      let e : i ≡ at + length xs + (i - (at + length xs)) = omega arith in
      rw e (rw (get_d_behind (take at l ++ xs) _ _ (i - (at + length xs)) (length_front l at xs (omega arith)), get_or-drop))

  -- the overlay is the only list as long that holds xs there and l's words elsewhere
  pub overlay_ext :
      (m : List ℕ) → length m ≡ length l → ((i : ℕ) → i < length xs → get_or m (at + i) 0 ≡ get_or xs i 0)
      → ((i : ℕ) → i < at → get_or m i 0 ≡ get_or l i 0) → ((i : ℕ) → at + length xs ≤ i → i < length l → get_or m i 0 ≡ get_or l i 0)
      → m ≡ overlay l at xs
  overlay_ext m e within before after =
      ext_get_or 0 m _ (e ∙ sym (length_overlay l at xs fits)) (λ i h. go i h (dec_lt i at) (dec_lt i (at + length xs)))
    where
      go : (i : ℕ) → i < length m → Dec (i < at) → Dec (i < at + length xs) → get_or m i 0 ≡ get_or (overlay l at xs) i 0
      go i h (yes b) c = before i b ∙ sym (get_d_overlay_before i b)
      go i h (no b) (yes c) =
          let k : i ≡ at + (i - at) = omega arith in
          rw k (within (i - at) (omega arith) ∙ sym (get_d_overlay_in (i - at) (omega arith)))
      go i h (no b) (no c) = after i (omega arith) (omega arith) ∙ sym (get_d_overlay_after i (omega arith))

  -- ---- a run of an overlay: the overlay's own, one before it, one behind it

  pub part_here : part (overlay l at xs) at (length xs) ≡ xs
  part_here = part_ext _ at (length xs) xs (rw (length_overlay l at xs fits) fits) refl get_d_overlay_in

  pub part_before : (e size : ℕ) → e + size ≤ at → part (overlay l at xs) e size ≡ part l e size
  part_before e size h =
      part_ext _ e size _ (rw (length_overlay l at xs fits) (omega arith)) (length_part l e size (omega arith))
      (λ i k. get_d_overlay_before (e + i) (omega arith) ∙ sym (get_d_part l e size i k))

  pub part_after : (e size : ℕ) → at + length xs ≤ e → e + size ≤ length l → part (overlay l at xs) e size ≡ part l e size
  part_after e size h k =
      part_ext _ e size _ (rw (length_overlay l at xs fits) k) (length_part l e size k)
      (λ i b. get_d_overlay_after (e + i) (omega arith) ∙ sym (get_d_part l e size i b))

-- ---- an overlay inside a run

module _ (l : List ℕ) (at size : ℕ) (fits : at + size ≤ length l) where
  -- a list that differs from l in the run only is l overlaid with its run
  overlay_part_ext :
      (m : List ℕ) → length m ≡ length l → ((i : ℕ) → i < at → get_or m i 0 ≡ get_or l i 0)
      → ((i : ℕ) → at + size ≤ i → get_or m i 0 ≡ get_or l i 0) → overlay l at (part m at size) ≡ m
  overlay_part_ext m e before after =
      let n : length (part m at size) ≡ size = length_part m at size (omega arith) in
      sym (overlay_ext l at _ (omega arith) m e (λ i h. sym (get_d_part m at size i (omega arith))) before (λ i h c. after i (omega arith)))

  same_word :
      (m : List ℕ) (i : ℕ) → i < size → get_or m (at + i) 0 ≡ get_or l (at + i) 0 → get_or (part m at size) i 0 ≡ get_or (part l at size) i 0
  same_word m i h e = get_d_part m at size i h ∙ e ∙ sym (get_d_part l at size i h)

  module _ (k : ℕ) (xs : List ℕ) (inside : k + length xs ≤ size) where
    whole : at + k + length xs ≤ length l
    whole = omega arith

    pub part_inner : part (overlay l (at + k) xs) at size ≡ overlay (part l at size) k xs
    part_inner =
        let m : List ℕ = overlay l (at + k) xs in
        let e : length m ≡ length l = length_overlay l (at + k) xs whole in
        let n : length (part l at size) ≡ size = length_part l at size fits in
        overlay_ext (part l at size) k xs (omega arith) _ (length_part m at size (omega arith) ∙ sym n)
        (λ i h. get_d_part m at size (k + i) (omega arith) ∙ rw (← add_assoc) (get_d_overlay_in l (at + k) xs whole i h))
        (λ i h. same_word m i (omega arith) (get_d_overlay_before l (at + k) xs whole (at + i) (omega arith)))
        (λ i h c. same_word m i (omega arith) (get_d_overlay_after l (at + k) xs whole (at + i) (omega arith)))

    pub overlay_inner : overlay l at (overlay (part l at size) k xs) ≡ overlay l (at + k) xs
    overlay_inner =
        rw (← part_inner)
        (overlay_part_ext _ (length_overlay l (at + k) xs whole)
        (λ i h. get_d_overlay_before l (at + k) xs whole i (omega arith))
        (λ i h. get_d_overlay_after l (at + k) xs whole i (omega arith)))
