-- Laws of the place of an account and of the way back: each is the other's inverse on 32 bits. Only this file looks at how they are
-- computed. Rests on the laws of remainders.
use Prim.Native.Nat.{ℕ, ◌+◌, ◌*◌, ◌/◌, ◌%◌, ◌^◌, ◌<◌}
use native.Mathlib.Nat.{mod-lt, mod-eq_of_lt, mul_comm, mul_assoc, mul-one, add-mul, div-add-mod, mul-add-mod_self_left}
use mathlib.Core.Path.{◌≡◌, refl, ap, sym, ◌∙◌}
use lib.Pow.{pow_pos}
use Rattle.machine.specs.Sequential.{place_factor, place, account_factor, account_at}

-- ---- products modulo n

-- a factor may be reduced first
reduced : (n a c : ℕ) → a % n * c % n ≡ a * c % n
reduced n a c =
    let parts : n * (a / n * c) + a % n * c ≡ a * c =
    ap (λ (x : ℕ). x + a % n * c) (sym (mul_assoc n (a / n) c)) ∙ sym (add-mul (n * (a / n)) (a % n) c)
    ∙ ap (λ (x : ℕ). x * c) (div-add-mod a n) in
    sym (ap (λ (x : ℕ). x % n) (sym parts) ∙ mul-add-mod_self_left n (a / n * c) (a % n * c))

-- times c and then times d, where their product is 1
back : (n c d a : ℕ) → c * d % n ≡ 1 → a < n → a * c % n * d % n ≡ a
back n c d a one less =
    reduced n (a * c) d ∙ ap (λ (x : ℕ). x % n) (mul_assoc a c d ∙ mul_comm a (c * d)) ∙ sym (reduced n (c * d) a)
    ∙ ap (λ (x : ℕ). x * a % n) one ∙ ap (λ (x : ℕ). x % n) (mul_comm 1 a ∙ mul-one a) ∙ mod-eq_of_lt less

-- ---- 32 bits

pub place_below : (a : ℕ) → place a < 2 ^ 32
unfolding place
place_below a = mod-lt (a * place_factor) (pow_pos 32)

pub account_below : (p : ℕ) → account_at p < 2 ^ 32
unfolding account_at
account_below p = mod-lt (p * account_factor) (pow_pos 32)

-- an account of more than 32 bits has the place of its last 32
pub place_last_32 : (a : ℕ) → place (a % 2 ^ 32) ≡ place a
unfolding place
place_last_32 a = reduced (2 ^ 32) a place_factor

-- ---- "shown to be exact in either order"

pub account_of_place : (a : ℕ) → a < 2 ^ 32 → account_at (place a) ≡ a
unfolding place account_at
account_of_place a h = back (2 ^ 32) place_factor account_factor a refl h

pub place_of_account : (p : ℕ) → p < 2 ^ 32 → place (account_at p) ≡ p
unfolding place account_at
place_of_account p h = back (2 ^ 32) account_factor place_factor p refl h
