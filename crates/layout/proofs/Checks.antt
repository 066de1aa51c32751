-- Words that pass the checks behind 8 fit, with no depth above 8, zeros never pass, and the first two checks of a call in their order.
-- Rests on the header's definitions.
use Prim.Native.Nat.{ℕ, zero, suc, ◌+◌, ◌≤◌, ◌<◌}
use native.Mathlib.Omega.{arith}
use mathlib.Core.Path.{◌≡◌, refl, ap, sym, ◌∙◌}
use mathlib.Core.Bool.{Bool, true, false, not, ◌||◌, or-true}
use mathlib.Core.List.{List, []}
use lib.Dec.{ltb, leb}
use lib.ListN.{length, replicate}
use borrow.Author.Tests.{ltb-false, le-leb, lt-leb, not-false}
use Rattle.interface.specs.Limits.{greatest_depth, within}
use Rattle.interface.specs.declared.Settings.{Settings}
use Rattle.interface.proofs.Laws.{within_of}
use Rattle.fields.specs.Fields.{header_settings, header_needed, least_first, greatest_first, widest_record}
use Rattle.fields.specs.Regions.{directory_start, least_words}
use Rattle.machine.specs.Choice.{when◌then◌else◌}
use Rattle.machine.proofs.laws.Base.{no_both, if_true, if_false}
use Rattle.layout.specs.Shape.{word, settings_of, strange, shape_of, Fits}

-- ---- words that pass the checks

pub or_parts : (a b : Bool) → (a || b) ≡ false → (a ≡ false) × (b ≡ false)
or_parts true b e = absurd (no_both refl e)
or_parts false b e = (refl, e)

pub fits_of : (l : List ℕ) → strange l ≡ false → Fits l (shape_of l)
unfolding strange settings_of
fits_of l e =
    let before : Bool =
    ltb (length l) least_words || not (within least_first (word l header_settings) greatest_first) || ltb (length l) (word l header_needed) in
    let h = ltb-false (length l) (directory_start (settings_of (word l header_settings)).workers + widest_record) (or_parts before _ e).1 in
    record {
      least = omega arith;
      workers = omega arith;
      least-capacity = omega arith;
      capacity = omega arith;
      depth = omega arith;
      room = h;
    }

-- no depth above 8
pub depth-of : (l : List ℕ) → strange l ≡ false → (shape_of l).depth ≤ greatest_depth
unfolding strange settings_of
depth-of l e =
    let x : ℕ = word l header_settings in
    let short : Bool = ltb (length l) least_words in
    let unmarked : Bool = not (within least_first x greatest_first) in
    let fewer : Bool = ltb (length l) (word l header_needed) in
    let three : (short || unmarked || fewer) ≡ false = (or_parts (short || unmarked || fewer) _ e).0 in
    let marked : unmarked ≡ false = (or_parts short unmarked (or_parts (short || unmarked) fewer three).0).1 in
    let r = within_of least_first x greatest_first (not-false _ marked) in
    omega arith

-- ---- zeros

-- words that begin with a zero, whatever their number, have no mark
zero_strange : (l : List ℕ) → word l header_settings ≡ 0 → strange l ≡ true
unfolding strange within
zero_strange l e = ap test e ∙ simp or-true
  where
    test : ℕ → Bool
    test x =
        ltb (length l) least_words || not (within least_first x greatest_first) || ltb (length l) (word l header_needed)
        || ltb (length l) (directory_start (settings_of x).workers + widest_record)

pub zeros_strange : (k : ℕ) → strange (replicate k 0) ≡ true
zeros_strange zero = zero_strange [] refl
zeros_strange (suc k) = zero_strange (replicate (suc k) 0) refl

-- ---- the first two checks of a step, a run and a call

pub strange_first : {A : Type 0} (l : List ℕ) (x : Bool) (a b : A) → x ≡ strange l → x ≡ true → a ≡ when strange l then a else b
strange_first l x a b tested e = sym (if_true a b (sym tested ∙ e))

module _ (l : List ℕ) (x : Bool) (g : Settings) (tested : x ≡ strange l) where
  pub fits_read : x ≡ false → g ≡ shape_of l → Fits l g
  fits_read e h = rw h (fits_of l (sym tested ∙ e))

  pub stranger_next :
      {A : Type 0} (a b c : A) (w : ℕ) → x ≡ false → g ≡ shape_of l → g.workers ≤ w
      → b ≡ when strange l then a else when leb (shape_of l).workers w then b else c
  stranger_next a b c w e h n = sym (if_false a _ (sym tested ∙ e) ∙ rw (← h) (if_true b c (le-leb g.workers w n)))

  pub both_passed :
      {A : Type 0} (a b c : A) (w : ℕ) → x ≡ false → g ≡ shape_of l → w < g.workers
      → c ≡ when strange l then a else when leb (shape_of l).workers w then b else c
  both_passed a b c w e h n = sym (if_false a _ (sym tested ∙ e) ∙ rw (← h) (if_false b c (lt-leb g.workers w n)))
