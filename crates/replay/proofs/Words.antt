-- Totals compared by their words. Rests on the laws of a total and the word that keeps it.
use Prim.Native.Nat.{ℕ, ◌<◌, ◌^◌}
use mathlib.Core.Path.{◌≡◌, refl, sym, ap, ◌∙◌}
use mathlib.Core.Bool.{Bool, true, false}
use lib.Dec.{eqb}
use lib.IntN.{ℤ, pos, negsuc}
use mir.Syntax.{w64}
use mir.Val.{SFits, Fits, to_z, of_z}
use mir.Facts.{to_z-of_z, of_z-to_z}
use borrow.Author.Tests.{eq-eqb, eqb-true, eqb-false}
use Rattle.machine.proofs.laws.Base.{no_both, is_false}
use Rattle.logs.specs.Orders.{equal_z}

equal_true : (x y : ℤ) → equal_z x y ≡ true → x ≡ y
unfolding equal_z
equal_true (pos m) (pos n) e = ap pos (eqb-true m n e)
equal_true (pos m) (negsuc n) e = absurd (no_both e refl)
equal_true (negsuc m) (pos n) e = absurd (no_both e refl)
equal_true (negsuc m) (negsuc n) e = ap negsuc (eqb-true m n e)

equal_same : (x : ℤ) → equal_z x x ≡ true
unfolding equal_z
equal_same (pos m) = eq-eqb m m refl
equal_same (negsuc m) = eq-eqb m m refl

-- a total is the one that a word keeps, where its word is that word
pub equal_words : (z : ℤ) (c : ℕ) → SFits w64 z → Fits w64 c → equal_z z (to_z w64 c) ≡ eqb c (of_z w64 z)
equal_words z c f g = go (eqb c (of_z w64 z)) refl
  where
    go : (t : Bool) → eqb c (of_z w64 z) ≡ t → equal_z z (to_z w64 c) ≡ t
    go true e = rw (eqb-true c (of_z w64 z) e, to_z-of_z f) (equal_same z)
    go false e =
        is_false (equal_z z (to_z w64 c))
        (λ q. eqb-false c (of_z w64 z) e (sym (of_z-to_z {w = w64} {n = c} g) ∙ ap (of_z w64) (sym (equal_true z (to_z w64 c) q))))

-- a word that was read has 64 bits
pub word_fits : {r w : ℕ} → r ≡ w → r < 2 ^ 64 → Fits w64 w
word_fits e h = rw (← e) (record { fits = h })
