-- A bucket's arrays changed in the words of its record: what is written over each is what the changed array would be stored as.
-- Rests on the laws of parts and overlays, and on the laws of runs, of stored states and of overlays.
use Prim.Native.Nat.{ℕ, ◌+◌, ◌-◌, ◌≤◌, ◌<◌}
use native.Mathlib.Nat.{add_assoc}
use native.Mathlib.Omega.{arith}
use native.Mathlib.Decide.{dec_lt}
use mathlib.Core.Path.{◌≡◌, refl, sym, ◌∙◌, ap}
use mathlib.Core.Logic.{inl, inr, ⊎_elim}
use mathlib.Core.List.{List, [], ◌∷◌}
use lib.ListN.{length, get_or, set, take}
use lib.Seq.{length-take-le, get_or-take, get_or-set_other}
use Rattle.interface.specs.Limits.{greatest_capacity}
use Rattle.fields.specs.Fields.{record_count, record_applied, accounts_from, totals_from, settled_from, answers_from, posted_from}
use Rattle.arrays.specs.Arrays.{inserted_in, removed_from}
use Rattle.lists.specs.Parts.{part, overlay}
use Rattle.lists.proofs.PartLaws.{set_overlay, length_overlay, length_part, get_d_part, part_ext, get_d_overlay_in, get_d_overlay_before, get_d_overlay_after, overlay_ext}
use Rattle.record.specs.Loads.{copied}
use Rattle.storing.specs.Stores.{stored_state}
use Rattle.memory.specs.Words.{stored}
use Rattle.memory.proofs.Runs.{Run}
use Rattle.record.proofs.Runs.{length_copied, get_d_copied, copied_same}
use Rattle.memory.proofs.Lesser.{least_same}
use Rattle.storing.proofs.States.{state_stored}
use Rattle.writes.proofs.Slices.{inserted_overlay, removed_overlay}

-- ---- one array changed in the words

-- w is m but for an array at `at`: there stand the first k items of what F makes of the c words that m has there
pub record Changed (m w : List ℕ) (at c k : ℕ) (F : List ℕ → List ℕ) : Type 0 where
  pub run : Run m w at (F (copied m at c)) k
  pub wide : k ≤ length (F (copied m at c))
  pub fits : at + k ≤ length m

changed_is : {m w : List ℕ} {at c k : ℕ} {F : List ℕ → List ℕ} → Changed m w at c k F → w ≡ stored m at (F (copied m at c)) k
unfolding stored
changed_is {m} {w} {at} {c} {k} {F} y =
    let a : List ℕ = F (copied m at c) in
    let n : length (take k a) ≡ k = length-take-le k a y.wide in
    overlay_ext m at (take k a) (omega (arith, y.fits)) w y.run.long
    (λ i h. y.run.inside i (omega arith) ∙ sym (get_or-take k a i 0 (omega arith)))
    (λ i h. y.run.elsewhere i (inl h))
    (λ i h f. y.run.elsewhere i (inr (omega arith)))

-- the same words and the same array, got otherwise
changed_as :
    {m w u : List ℕ} {at c k : ℕ} (F G : List ℕ → List ℕ) → Changed m w at c k F → u ≡ w
    → G (copied m at c) ≡ F (copied m at c) → Changed m u at c k G
changed_as F G y e f = record { run = rw (e, f) y.run; wide = rw f y.wide; fits = y.fits }

module _ (m : List ℕ) (at c : ℕ) (few : c ≤ greatest_capacity) where
  pub array_kept : (w : List ℕ) → w ≡ m → at + c ≤ length m → Changed m w at c c (λ a. a)
  array_kept w e f =
      let n = length_copied m at c in
      record {
        run = rw e (record { long = refl; inside = λ i h. sym (get_d_copied m at c i few h); elsewhere = λ i h. refl });
        wide = omega arith;
        fits = f;
      }

  -- the array's words overlaid with a run from position i on; behind it there are no words that were not there
  overlaid :
      (k i : ℕ) (xs : List ℕ) → k ≤ greatest_capacity → at + k ≤ length m → i ≤ c → i + length xs ≤ k
      → ((j : ℕ) → i + length xs ≤ j → j < k → j < c) → Changed m (overlay m (at + i) xs) at c k (λ a. overlay a i xs)
  overlaid k i xs small f low inside reach =
      let n : length A ≡ greatest_capacity = length_copied m at c in
      let e : length (overlay A i xs) ≡ length A = length_overlay A i xs (omega arith) in
      record {
        run = record {
          long = length_overlay m (at + i) xs (omega arith);
          inside = λ j h. go j h (dec_lt j i) (dec_lt j (i + length xs));
          elsewhere =
              λ j h. ⊎_elim (λ p. get_d_overlay_before m (at + i) xs (omega arith) j (omega arith))
              (λ p. get_d_overlay_after m (at + i) xs (omega arith) j (omega arith)) h;
        };
        wide = omega arith;
        fits = f;
      }
    where
      A : List ℕ
      A = copied m at c

      go : (j : ℕ) → j < k → Dec (j < i) → Dec (j < i + length xs) → get_or (overlay m (at + i) xs) (at + j) 0 ≡ get_or (overlay A i xs) j 0
      go j h (yes p) r =
          let n : length A ≡ greatest_capacity = length_copied m at c in
          get_d_overlay_before m (at + i) xs (omega arith) (at + j) (omega arith)
          ∙ sym (get_d_overlay_before A i xs (omega arith) j p ∙ get_d_copied m at c j few (omega arith))
      go j h (no p) (yes r) =
          let n : length A ≡ greatest_capacity = length_copied m at c in
          let there : at + j ≡ at + i + (j - i) = omega arith in
          let here : j ≡ i + (j - i) = omega arith in
          ap (λ (o : ℕ). get_or (overlay m (at + i) xs) o 0) there
          ∙ get_d_overlay_in m (at + i) xs (omega arith) (j - i) (omega arith)
          ∙ sym (ap (λ (o : ℕ). get_or (overlay A i xs) o 0) here ∙ get_d_overlay_in A i xs (omega arith) (j - i) (omega arith))
      go j h (no p) (no r) =
          let n : length A ≡ greatest_capacity = length_copied m at c in
          get_d_overlay_after m (at + i) xs (omega arith) (at + j) (omega arith)
          ∙ sym (get_d_overlay_after A i xs (omega arith) j (omega arith) ∙ get_d_copied m at c j few (reach j (omega arith) h))

  part_copied : (i k : ℕ) → i + k ≤ c → at + c ≤ length m → part (copied m at c) i k ≡ part m (at + i) k
  part_copied i k h f =
      let n = length_copied m at c in
      part_ext (copied m at c) i k (part m (at + i) k) (omega arith) (length_part m (at + i) k (omega arith))
      (λ j g. get_d_copied m at c (i + j) few (omega arith) ∙ rw (← add_assoc) (sym (get_d_part m (at + i) k j g)))

  pub array_set : (w : List ℕ) (i v : ℕ) → w ≡ set m (at + i) v → i < c → at + c ≤ length m → Changed m w at c c (λ a. set a i v)
  array_set w i v e h f =
      let n = length_copied m at c in
      changed_as (λ a. overlay a i (v ∷ [])) (λ a. set a i v) (overlaid c i (v ∷ []) few f (omega arith) (omega arith) (λ j g r. r))
      (e ∙ set_overlay m (at + i) v (omega arith)) (set_overlay (copied m at c) i v (omega arith))

  pub array_raised :
      (w : List ℕ) (i v : ℕ) → w ≡ overlay m (at + i) (v ∷ part m (at + i) (c - i)) → c < greatest_capacity → i ≤ c → at + c < length m
      → Changed m w at c (c + 1) (λ a. inserted_in a c i v)
  array_raised w i v e h k f =
      let xs : List ℕ = part m (at + i) (c - i) in
      let n : length xs ≡ c - i = length_part m (at + i) (c - i) (omega arith) in
      let r = length_copied m at c in
      changed_as (λ a. overlay a i (v ∷ xs)) (λ a. inserted_in a c i v)
      (overlaid (c + 1) i (v ∷ xs) (omega arith) (omega arith) k (omega arith) (λ j g o. omega arith)) e
      (inserted_overlay (copied m at c) c i v (omega arith) k
      ∙ ap (λ (ys : List ℕ). overlay (copied m at c) i (v ∷ ys)) (part_copied i (c - i) (omega arith) (omega arith)))

  pub array_lowered :
      (w : List ℕ) (i : ℕ) → w ≡ overlay m (at + i) (part m (at + i + 1) (c - i - 1)) → i < c → at + c ≤ length m
      → Changed m w at c (c - 1) (λ a. removed_from a c i)
  array_lowered w i e k f =
      let xs : List ℕ = part m (at + i + 1) (c - i - 1) in
      let n : length xs ≡ c - i - 1 = length_part m (at + i + 1) (c - i - 1) (omega arith) in
      let r = length_copied m at c in
      changed_as (λ a. overlay a i xs) (λ a. removed_from a c i)
      (overlaid (c - 1) i xs (omega arith) (omega arith) (omega arith) (omega arith) (λ j g o. omega arith)) e
      (removed_overlay (copied m at c) c i (omega arith) k
      ∙ ap (overlay (copied m at c) i) (part_copied (i + 1) (c - i - 1) (omega arith) f ∙ rw (← add_assoc)))

-- ---- a state stored array by array, each changed in the words

-- m has l's words from `at` on
abbrev From : List ℕ → List ℕ → ℕ → Type 0
From l m at = (i : ℕ) → at ≤ i → get_or m i 0 ≡ get_or l i 0

-- one array changed: what is written, and the words from the next array on
next_array :
    (l : List ℕ) {m w : List ℕ} {at c k : ℕ} {F : List ℕ → List ℕ} (to : ℕ) → From l m at → Changed m w at c k F → at + k ≤ to
    → (w ≡ stored m at (F (copied l at c)) k) × From l w to
next_array l {m} {w} {at} {c} {k} {F} to kept y h = (
  changed_is y ∙ ap (λ (a : List ℕ). stored m at (F a) k) (copied_same m l at at c (λ i g. kept (at + i) (omega arith))),
  λ i g. y.run.elsewhere i (inr (omega arith)) ∙ kept i (omega arith),
)

module _ (l : List ℕ) (q b n c k bits : ℕ) (F G H K L : List ℕ → List ℕ) (fit : k ≤ b) (m₁ m₂ m₃ m₄ m₅ m₆ : List ℕ)
    (e₁ : m₁ ≡ set (set l (q + record_count) k) (q + record_applied) bits) (y₂ : Changed m₁ m₂ (accounts_from q) c k F)
    (y₃ : Changed m₂ m₃ (totals_from q b) c k G) (y₄ : Changed m₃ m₄ (settled_from q b) n n H)
    (y₅ : Changed m₄ m₅ (answers_from q b n) n n K) (y₆ : Changed m₅ m₆ (posted_from q b n) n n L) where
  pub arrays_stored :
      m₆
      ≡ stored_state l q b n (record {
        accounts = F (copied l (accounts_from q) c);
        totals = G (copied l (totals_from q b) c);
        settled = H (copied l (settled_from q b) n);
        answers = K (copied l (answers_from q b n) n);
        posted = L (copied l (posted_from q b n) n);
        count = k;
        applied = bits;
      })
  arrays_stored =
      let first : From l m₁ (accounts_from q) =
      λ i h. ap (λ (u : List ℕ). get_or u i 0) e₁
      ∙ get_or-set_other (set l (q + record_count) k) (q + record_applied) i bits 0 (λ e. omega arith)
      ∙ get_or-set_other l (q + record_count) i k 0 (λ e. omega arith) in
      let r₂ = next_array l (totals_from q b) first y₂ (omega arith) in
      let r₃ = next_array l (settled_from q b) r₂.1 y₃ (omega arith) in
      let r₄ = next_array l (answers_from q b n) r₃.1 y₄ (omega arith) in
      let r₅ = next_array l (posted_from q b n) r₄.1 y₅ (omega arith) in
      let r₆ = next_array l (posted_from q b n + n) r₅.1 y₆ (omega arith) in
      state_stored l m₃ m₆ q b n k _ (sym (least_same k b fit)) (r₃.0 ∙ rw (r₂.0, e₁)) (r₆.0 ∙ rw (r₅.0, r₄.0))
