-- Lines of two numbers: a row, and an answer's total with the steps. Rests on the definitions of specs/Printed.
use Prim.Native.Nat.{ℕ}
use mathlib.Core.Path.{◌≡◌, ◌∙◌}
use mathlib.Core.List.{[], ◌∷◌, ◌++◌, append_assoc}
use lib.IntN.{ℤ, pos}
use Rattle.decimals.specs.declared.Decimal.{Decimal}
use Rattle.decimals.specs.Ascii.{line_feed, space}
use Rattle.decimals.specs.Decimals.{decimal, signed_decimal}
use Rattle.decimals.specs.Signs.{sign_of, decimal_text}
use Rattle.decimals.proofs.Signs.{signed_text}
use Rattle.printers.specs.Written.{pair_text}
use Rattle.replies.specs.Printed.{printed_line, printed_row}

pair_line : (a b : Decimal) → pair_text a b ≡ decimal_text a ++ space ∷ (decimal_text b ++ line_feed ∷ [])
unfolding pair_text
pair_line a b = simp append_assoc

numbers : (x y : ℤ) → pair_text (sign_of x) (sign_of y) ≡ signed_decimal x ++ space ∷ (signed_decimal y ++ line_feed ∷ [])
numbers x y = pair_line (sign_of x) (sign_of y) ∙ rw (signed_text x, signed_text y)

pub row_text : (a : ℕ) (t : ℤ) → pair_text (sign_of (pos a)) (sign_of t) ≡ printed_row a t
unfolding printed_row printed_line signed_decimal
row_text a t = numbers (pos a) t

pub total_text : (t : ℤ) (k : ℕ) → pair_text (sign_of t) (sign_of (pos k)) ≡ printed_line (signed_decimal t ∷ decimal k ∷ [])
unfolding printed_line signed_decimal
total_text t k = numbers t (pos k)
