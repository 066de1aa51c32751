-- A fresh table's words laid part by part, and the cases of opening. Rests on the laws of overlays, and on the definition of a fresh
-- table's words.
use Prim.Native.Nat.{ℕ, ◌+◌, ◌-◌, ◌*◌, ◌^◌, ◌≤◌, ◌<◌}
use native.Mathlib.Omega.{arith}
use mathlib.Core.Path.{◌≡◌, refl, sym, ◌∙◌}
use mathlib.Core.Bool.{Bool, true, false}
use mathlib.Core.List.{List, [], ◌∷◌, ◌++◌}
use lib.ListN.{length, replicate, length-append, length-replicate}
use borrow.Author.Tests.{le-leb, lt-leb}
use Rattle.interface.specs.Limits.{in_range, built, greatest_workers, greatest_capacity}
use Rattle.interface.specs.declared.Settings.{Settings}
use Rattle.interface.specs.declared.Refusal.{Refusal}
use Rattle.interface.proofs.Laws.{range_of, wrong_settings, right_settings}
use Rattle.fields.specs.Fields.{header_spare, header_size, deepest, record_size, spare_words}
use Rattle.fields.specs.Regions.{directory_start, record_start, words_needed}
use Rattle.machine.proofs.laws.Base.{if_true, if_false}
use Rattle.lists.specs.Parts.{overlay}
use Rattle.lists.proofs.PartLaws.{overlay_join}
use Rattle.layout.specs.Shape.{first_word}
use Rattle.opening.specs.Opening.{fresh_words, needed_for, opened_words, open_words}
use Rattle.std.specs.Prelude.{Result, Ok, Err}

-- ---- the words of a fresh table

-- a run laid behind what stands at the start
laid_behind : (l w : List ℕ) (n : ℕ) (xs ys : List ℕ) → w ≡ overlay l 0 xs → n ≡ length xs → overlay w n ys ≡ overlay l 0 (xs ++ ys)
laid_behind l w n xs ys e k =
    let m : n ≡ 0 + length xs = omega arith in
    rw (e, m) (overlay_join l 0 xs ys (omega arith))

-- the parts of a fresh table lie one behind the other
pub fresh_parts :
    (s : Settings) → (header_size ≤ directory_start s.workers) × (directory_start s.workers + 2 ^ s.depth + spare_words ≤ words_needed s)
unfolding words_needed record_start directory_start
fresh_parts s = (omega arith, omega arith)

pub fresh_laid :
    (s : Settings) (l l₁ l₂ l₃ l₄ : List ℕ) (x start d records all : ℕ) → x ≡ first_word s → start ≡ directory_start s.workers
    → d ≡ 2 ^ s.depth
    → records ≡ start + d → all ≡ words_needed s → l₁ ≡ overlay l 0 (x ∷ all ∷ 0 ∷ 0 ∷ 1 ∷ [])
    → l₂ ≡ overlay l₁ (header_spare + 1) (replicate (start - (header_spare + 1)) 0)
    → l₃ ≡ overlay l₂ start (replicate (records - start) records) → l₄ ≡ overlay l₃ records (replicate (all - records) 0)
    → l₄ ≡ overlay l 0 (fresh_words s)
unfolding fresh_words record_start
fresh_laid s l l₁ l₂ l₃ l₄ x start d records all ex es ed er ea e₁ e₂ e₃ e₄ =
    let p = fresh_parts s in
    let head : List ℕ = x ∷ all ∷ 0 ∷ 0 ∷ 1 ∷ [] in
    let f₂ : l₂ ≡ overlay l 0 (head ++ replicate (start - (header_spare + 1)) 0) = e₂ ∙ laid_behind l l₁ (header_spare + 1) head _ e₁ refl in
    let n₂ : start ≡ length (head ++ replicate (start - (header_spare + 1)) 0) = omega
    (arith, length-append head (replicate (start - (header_spare + 1)) 0), length-replicate {A = ℕ} (start - (header_spare + 1)) 0) in
    let f₃ = e₃ ∙ laid_behind l l₂ start _ (replicate (records - start) records) f₂ n₂ in
    let n₃ : records ≡ length (head ++ replicate (start - (header_spare + 1)) 0 ++ replicate (records - start) records) =
    omega (
      arith,
      length-append (head ++ replicate (start - (header_spare + 1)) 0) (replicate (records - start) records),
      length-replicate
          (records - start) records,
    ) in
    let f₄ = e₄ ∙ laid_behind l l₃ records _ (replicate (all - records) 0) f₃ n₃ in
    let a : records - start ≡ 2 ^ s.depth = omega arith in
    let b : records ≡ directory_start s.workers + 2 ^ s.depth + 0 * (record_size s.capacity s.workers) = omega arith in
    let c : all - records ≡ words_needed s - (directory_start s.workers + 2 ^ s.depth) = omega arith in
    f₄ ∙ cc

-- ---- opening

-- what the code is told of settings
pub record Ranged (s : Settings) : Type 0 where
  pub least : 1 ≤ s.workers
  pub workers : s.workers ≤ greatest_workers
  pub least-capacity : 1 ≤ s.capacity
  pub capacity : s.capacity ≤ greatest_capacity
  pub depth : s.depth ≤ deepest

module _ (n b M : ℕ) where
  pub ranged : (r : Result Settings Refusal) (s : Settings) → r ≡ built n b M → r ≡ Ok s → Ranged s
  ranged r s e h = go (in_range n b M) refl
    where
      go : (t : Bool) → in_range n b M ≡ t → Ranged s
      go false i = let z : ◌≡◌ {A = ℕ} 0 1 = cc (wrong_settings n b M i) in absurd (omega arith)
      go true i =
          let k : s ≡ record { workers = n; capacity = b; depth = M } = cc (right_settings n b M i) in
          let f = range_of n b M i in
          rw k (record {
            least = f.least-workers;
            workers = f.greatest-workers;
            least-capacity = omega arith;
            capacity =
                f.greatest-capacity;
            depth = omega arith;
          })

  module _ (r : Result Settings Refusal) (e : r ≡ built n b M) where
    pub needed_words : (s : Settings) (k : ℕ) → r ≡ Ok s → k ≡ words_needed s → Ok k ≡ needed_for (built n b M)
    unfolding needed_for
    needed_words s k h g = rw (← e, h, g)

    pub needed_none : (x : Refusal) → r ≡ Err x → Err x ≡ needed_for (built n b M)
    unfolding needed_for
    needed_none x h = rw (← e, h)

    pub opened_none : (l : List ℕ) (x : Refusal) → r ≡ Err x → (l, Err x) ≡ open_words l n b M
    unfolding open_words opened_words
    opened_none l x h = rw (← e, h)

    module _ (l : List ℕ) (s : Settings) (k : ℕ) (h : r ≡ Ok s) (g : k ≡ words_needed s) where
      pub opened_short : length l < k → (l, Err Refusal.Short) ≡ open_words l n b M
      unfolding open_words opened_words
      opened_short m = rw (← e, h, ← g) (sym (if_false _ _ (lt-leb k (length l) m)))

      pub opened_fresh : (w : List ℕ) → k ≤ length l → w ≡ overlay l 0 (fresh_words s) → (w, Ok tt) ≡ open_words l n b M
      unfolding open_words opened_words
      opened_fresh w m f = rw (← e, h, ← g, f) (sym (if_true _ _ (le-leb k (length l) m)))
