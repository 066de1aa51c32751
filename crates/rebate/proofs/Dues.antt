-- What is due by a list of bands, band after band, and the sum of cents and parts of a cent kept apart. Rests on the definition of the
-- rebate.
use Prim.Native.Nat.{ℕ, zero, suc, ◌+◌, ◌-◌, ◌*◌, ◌/◌, ◌%◌, ◌^◌, ◌≤◌, ◌<◌}
use native.Mathlib.Nat.{mul-le-mul, add-mul, mul_assoc, div-add-mod}
use native.Mathlib.Omega.{arith}
use mathlib.Core.Path.{◌≡◌, refl, sym, ◌∙◌, ap}
use mathlib.Core.Bool.{true, and-eq-true_iff}
use mathlib.Core.List.{List, [], ◌∷◌}
use lib.Dec.{ltb}
use lib.ListN.{length, drop, get_or}
use borrow.Author.Tests.{ltb-true}
use Rattle.rebate.specs.declared.Band.{Band}
use Rattle.rebate.specs.Bands.{ascending, yearly}
use Rattle.rebate.specs.Rebate.{whole_rate, inside, due_by}

abbrev pub none : Band
none = record { start = 0; rate = 0 }

-- ---- the computed test, at each band

pub next_above : (x y : Band) (l : List Band) → ascending (x ∷ y ∷ l) ≡ true → x.start < y.start
next_above x y l e = ltb-true x.start y.start ((and-eq-true_iff (ltb x.start y.start) (ascending (y ∷ l))).0 e).0

pub rest_ascends : (x : Band) (l : List Band) → ascending (x ∷ l) ≡ true → ascending l ≡ true
rest_ascends x [] e = refl
rest_ascends x (y ∷ l) e = ((and-eq-true_iff (ltb x.start y.start) (ascending (y ∷ l))).0 e).1

pub starts_ascend :
    (l : List Band) → ascending l ≡ true → (i : ℕ) → suc i < length l → (get_or l i none).start < (get_or l (suc i) none).start
starts_ascend [] e i h = absurd (omega arith)
starts_ascend (x ∷ []) e i h = absurd (omega arith)
starts_ascend (x ∷ y ∷ l) e zero h = next_above x y l e
starts_ascend (x ∷ y ∷ l) e (suc i) h = starts_ascend (y ∷ l) (rest_ascends x (y ∷ l) e) i (omega arith)

-- ---- the part inside a band

pub inside_most : (l : List Band) (t : ℕ) → inside l t ≤ t
unfolding inside
inside_most [] t = omega arith
inside_most (x ∷ []) t = omega arith
inside_most (x ∷ y ∷ l) t = omega arith

-- of the first of the bands from i on, where one follows
pub inside_between :
    (l : List Band) (i t : ℕ) → suc i < length l → inside (drop i l) t ≡ t - (get_or l i none).start - (t - (get_or l (suc i) none).start)
unfolding inside
inside_between [] i t h = absurd (omega arith)
inside_between (x ∷ []) i t h = absurd (omega arith)
inside_between (x ∷ y ∷ l) zero t h = refl
inside_between (x ∷ y ∷ l) (suc i) t h = inside_between (y ∷ l) i t (omega arith)

-- and where none follows
pub inside_last : (l : List Band) (i t : ℕ) → suc i ≡ length l → inside (drop i l) t ≡ t - (get_or l i none).start
unfolding inside
inside_last [] i t e = absurd (omega arith)
inside_last (x ∷ []) zero t e = refl
inside_last (x ∷ []) (suc i) t e = absurd (omega arith)
inside_last (x ∷ y ∷ l) zero t e = absurd (omega arith)
inside_last (x ∷ y ∷ l) (suc i) t e = inside_last (y ∷ l) i t (omega arith)

-- ---- what is due

-- by the bands from i on: by band i, and by those behind it
pub due_first :
    (l : List Band) (i t : ℕ) → i < length l
    → due_by (drop i l) t ≡ inside (drop i l) t * (get_or l i none).rate + due_by (drop (suc i) l) t
unfolding due_by
due_first [] i t h = absurd (omega arith)
due_first (x ∷ l) zero t h = refl
due_first (x ∷ l) (suc i) t h = due_first l i t (omega arith)

pub rate_most : (i : ℕ) → (get_or yearly.bands i none).rate ≤ 350
rate_most zero = omega arith
rate_most (suc zero) = omega arith
rate_most (suc (suc zero)) = omega arith
rate_most (suc (suc (suc zero))) = omega arith
rate_most (suc (suc (suc (suc i)))) = omega arith

-- ---- cents and parts of a cent apart

-- a part at a rate: so many whole cents, and so many ten-thousandths
pub apart : (part rate : ℕ) → part * rate ≡ whole_rate * (part / whole_rate * rate) + part % whole_rate * rate
apart part rate =
    ap (λ (n : ℕ). n * rate) (sym (div-add-mod part whole_rate)) ∙ add-mul (whole_rate * (part / whole_rate)) (part % whole_rate) rate
    ∙ ap (λ (n : ℕ). n + part % whole_rate * rate) (mul_assoc whole_rate (part / whole_rate) rate)

-- one band more is summed
pub due_added :
    (l : List Band) (i t part rate cents parts due : ℕ) → i < length l → part ≡ inside (drop i l) t → rate ≡ (get_or l i none).rate
    → whole_rate * cents + parts + due_by (drop i l) t ≡ due
    → whole_rate * (cents + part / whole_rate * rate) + (parts + part % whole_rate * rate) + due_by (drop (suc i) l) t ≡ due
due_added l i t part rate cents parts due h e r n =
    let k = rw (sym e, sym r) at (due_first l i t h) in
    let m = apart part rate in
    omega arith

-- of an amount of 63 bits at a rate of the table
pub cents_most : (part rate : ℕ) → part < 2 ^ 63 → rate ≤ 350 → part / whole_rate * rate ≤ 400_000_000_000_000_000
cents_most part rate h k =
    let q : part / whole_rate ≤ 922_337_203_685_478 = omega arith in
    let m = mul-le-mul q k in
    omega arith

pub parts_most : (part rate : ℕ) → rate ≤ 350 → part % whole_rate * rate ≤ 3_500_000
parts_most part rate k =
    let q : part % whole_rate ≤ 10_000 = omega arith in
    let m = mul-le-mul q k in
    omega arith
