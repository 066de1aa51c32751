-- A test of two words of a record that the code has read one after the other.
use Prim.Native.Nat.{ℕ}
use mathlib.Core.Path.{◌≡◌, ◌∙◌, ap}
use mathlib.Core.Bool.{Bool}

-- a test of a record's depth and count, which the code has read one after the other
pub both_read : (f : ℕ → ℕ → Bool) {t : Bool} {d c x y : ℕ} → t ≡ f d c → d ≡ x → c ≡ y → t ≡ f x y
both_read f {t} {d} {c} {x} {y} e g h = e ∙ ap (λ (k : ℕ). f k c) g ∙ ap (f x) h
