-- Laws of the list for the order, of which the search lends all but the first place to the call of itself. Rests on the
-- definitions.
use Prim.Native.Nat.{ℕ, suc, ◌-◌, ◌≤◌, ◌<◌}
use native.Mathlib.Omega.{arith}
use mathlib.Core.Path.{◌≡◌, refl, sym, ap, ◌∙◌}
use mathlib.Core.Bool.{Bool, true, false}
use mathlib.Core.List.{List, [], ◌∷◌, ◌++◌, append-nil}
use Rattle.std.specs.Prelude.{Option, Some, None}
use lib.ListN.{length, set, take, drop, length-drop, drop_of_length-le}
use lib.Seq.{take_all, length-take-le}
use Rattle.machine.proofs.laws.Base.{no_both}
use Rattle.lists.specs.Parts.{overlay}
use Rattle.lists.proofs.PartLaws.{overlay_first}
use Rattle.searching.specs.Searching.{written_in, is_found}

-- all but the first place, and the list with another part there
abbrev pub rest : List ℕ → List ℕ
rest l = take (length l - 1) (drop 1 l)

abbrev pub with_rest : List ℕ → List ℕ → List ℕ
with_rest l p = take 1 l ++ (p ++ drop (length l - 1) (drop 1 l))

pub has_first : (l l₀ : List ℕ) (m : ℕ) → l ≡ l₀ → m ≤ length l₀ → (m ≡ 0 → ⊥) → 0 < length l
has_first l l₀ m e h f = rw e (omega arith)

pub rest_room : (l l₀ : List ℕ) (m : ℕ) → l ≡ l₀ → m ≤ length l₀ → m - 1 ≤ length (rest l)
rest_room l l₀ m e h =
    let k = length-drop 1 l in
    let n : length (rest l) ≡ length l - 1 = length-take-le (length l - 1) (drop 1 l) (omega arith) in
    rw n (rw e (omega arith))

rest_cons : (v : ℕ) (l : List ℕ) → rest (v ∷ l) ≡ l
rest_cons v l = take_all (length (v ∷ l) - 1) l (omega arith)

with_rest_cons : (v : ℕ) (l p : List ℕ) → with_rest (v ∷ l) p ≡ v ∷ p
with_rest_cons v l p =
    ap (λ (q : List ℕ). v ∷ (p ++ q)) (drop_of_length-le l {i = length (v ∷ l) - 1} (omega arith))
    ∙ ap (λ (q : List ℕ). v ∷ q) (append-nil p)

pub length_with_rest : (l p : List ℕ) → length p ≡ length (rest l) → 0 < length l → length (with_rest l p) ≡ length l
length_with_rest [] p e h = absurd (omega arith)
length_with_rest (v ∷ l) p e h =
    ap (λ (q : List ℕ). length q) (with_rest_cons v l p) ∙ ap suc (e ∙ ap (λ (q : List ℕ). length q) (rest_cons v l))

same_rest : (l : List ℕ) → 0 < length l → with_rest l (rest l) ≡ l
same_rest [] h = absurd (omega arith)
same_rest (v ∷ l) h = with_rest_cons v l (rest (v ∷ l)) ∙ ap (λ (q : List ℕ). v ∷ q) (rest_cons v l)

first_written : (l o : List ℕ) (i : ℕ) → 0 < length l → set (with_rest l (overlay (rest l) 0 o)) 0 i ≡ overlay l 0 (i ∷ o)
first_written [] o i h = absurd (omega arith)
first_written (v ∷ l) o i h =
    ap (λ (q : List ℕ). set q 0 i) (with_rest_cons v l (overlay (rest (v ∷ l)) 0 o))
    ∙ ap (λ (q : List ℕ). i ∷ overlay q 0 o) (rest_cons v l)
    ∙ ap (λ (q : List ℕ). i ∷ q) (overlay_first l o)
    ∙ sym (overlay_first (v ∷ l) (i ∷ o))

-- nothing found, nothing written
pub none_found : (l l₀ : List ℕ) (whole : Option (List ℕ)) → l ≡ l₀ → whole ≡ None → (false ≡ is_found whole) × (l ≡ written_in l₀ whole)
unfolding is_found written_in
none_found l l₀ whole same e = (sym (ap is_found e), same ∙ sym (ap (written_in l₀) e))

pub child_none : (child : Option (List ℕ)) (r : Bool) → r ≡ is_found child → r ≡ false → child ≡ None
unfolding is_found
child_none None r found e = refl
child_none (Some o) r found e = absurd (no_both found e)

-- what the call of itself, lent the rest, found and wrote
module _ (l p : List ℕ) (child : Option (List ℕ)) (r : Bool) (found : r ≡ is_found child) (written : p ≡ written_in (rest l) child)
    (first : 0 < length l) where
  pub none_written : r ≡ false → with_rest l p ≡ l
  unfolding written_in
  none_written e = ap (with_rest l) (written ∙ ap (written_in (rest l)) (child_none child r found e)) ∙ same_rest l first

  pub found_written :
      (i : ℕ) (whole : Option (List ℕ)) → r ≡ true → ((o : List ℕ) → child ≡ Some o → whole ≡ Some (i ∷ o)) → (l₀ : List ℕ) → l ≡ l₀
      → (true ≡ is_found whole) × (set (with_rest l p) 0 i ≡ written_in l₀ whole)
  unfolding is_found written_in
  found_written i whole e step l₀ same = go child refl
    where
      go : (o : Option (List ℕ)) → child ≡ o → (true ≡ is_found whole) × (set (with_rest l p) 0 i ≡ written_in l₀ whole)
      go None f = absurd (no_both e (found ∙ ap is_found f))
      go (Some o) f =
          let w = step o f in (
            sym (ap is_found w),
            ap (λ (q : List ℕ). set (with_rest l q) 0 i) (written ∙ ap (written_in (rest l)) f)
                ∙ first_written l o i first
                ∙ ap (λ (q : List ℕ). overlay q 0 (i ∷ o)) same
                ∙ sym (ap (written_in l₀) w),
          )
