-- No line of more than longest_line bytes means anything: `I 65535 4294967295 -9223372036854775808` is a longest that does, and so is a
-- post's with the same numbers.
-- Rests on the definitions of specs/Grammar and of crate commands.
use Prim.Native.Nat.{ℕ, zero, suc, ◌+◌, ◌-◌, ◌*◌, ◌^◌, ◌≤◌, ◌<◌}
use mathlib.Core.Path.{◌≡◌, refl, sym, ◌∙◌, ap}
use mathlib.Core.Bool.{Bool, true, false}
use mathlib.Core.List.{List, [], ◌∷◌}
use Rattle.std.specs.Prelude.{Option, Some, None}
use native.Mathlib.Omega.{arith}
use native.Mathlib.Nat.{le-add_right, not-le_of_lt, mul-le-mul_right, mul_assoc, pow-succ', pow-le-pow_right, one-mul, mul-one}
use lib.Dec.{leb, eqb, lit<}
use lib.IntN.{ℤ, pos, negsuc}
use lib.ListN.{length}
use borrow.Author.Tests.{leb-true, leb-false, eqb-false}
use Rattle.machine.specs.Choice.{when◌then◌else◌}
use Rattle.machine.proofs.laws.Base.{and_parts, if_elim}
use Rattle.decimals.specs.Ascii.{space, minus_sign, zero_digit, nine_digit}
use Rattle.commands.specs.declared.Command.{Command}
use Rattle.commands.specs.declared.Command.TheVariants.{Open, Insert, Delete, Lookup, Post, Steps}
use Rattle.numerals.specs.Numerals.{is_digit, digits_after, zero_then, numeral, plus, minus, signed_numeral, up_to, from, in64, greatest_total, least_total_size}
use Rattle.commands.specs.Commands.{greatest_small, greatest_account, least_steps, greatest_steps, open_letter, insert_letter, delete_letter, lookup_letter, post_letter, steps_letter, small_of, account_of, total_of, steps_of, with2, with3, one_field, three_fields, four_fields}
use Rattle.numerals.specs.Cut.{before, parts_at}
use Rattle.lines.specs.Grammar.{fields_of, letter_of, of_fields, command_of}
use Rattle.lines.specs.Reading.{longest_line}
use Rattle.numerals.proofs.NumeralLaws.{some_none, passed}

-- ---- the length of a number

-- each digit makes the number ten times as large
grows : (a : ℕ) (f : List ℕ) (v : ℕ) → digits_after a f ≡ Some v → a * 10 ^ length f ≤ v
unfolding digits_after
grows a [] v e = let q : a ≡ v = cc in omega (arith, mul-one a)
grows a (b ∷ f) v e =
    let h = grows (a * 10 + (b - zero_digit)) f v (passed (is_digit b) _ v e).1 in
    let k = mul-le-mul_right (10 ^ length f) (le-add_right (a * 10) (b - zero_digit)) in
    let q : a * 10 ^ suc (length f) ≡ a * 10 * 10 ^ length f = ap (λ (n : ℕ). a * n) (pow-succ' 10 (length f))
    ∙ sym (mul_assoc a 10 (10 ^ length f)) in
    omega arith

shorter : (k n : ℕ) → 10 ^ n < 10 ^ suc k → n ≤ k
shorter k n h = by (leb (suc k) n) refl
  where
    by : (t : Bool) → leb (suc k) n ≡ t → n ≤ k
    by true e = absurd (not-le_of_lt h (pow-le-pow_right (lit< tt) (leb-true (suc k) n e)))
    by false e = let z = leb-false (suc k) n e in omega arith

lone_zero : (k : ℕ) (f : List ℕ) (v : ℕ) → zero_then f ≡ Some v → suc (length f) ≤ suc k
unfolding zero_then
lone_zero k [] v e = omega arith
lone_zero k (b ∷ f) v e = absurd (some_none (sym e))

first_digit : (k b : ℕ) (f : List ℕ) (v : ℕ) → digits_after 0 (b ∷ f) ≡ Some v → (b ≡ zero_digit → ⊥) → v < 10 ^ suc k
    → suc (length f) ≤ suc k
unfolding digits_after is_digit
first_digit k b f v e z h =
    let p = passed (is_digit b) _ v e in
    let low = leb-true zero_digit b (and_parts (leb zero_digit b) (leb b nine_digit) p.0).0 in
    let g = grows (0 * 10 + (b - zero_digit)) f v p.1 in
    let one : 1 ≤ 0 * 10 + (b - zero_digit) = omega arith in
    let m = mul-le-mul_right (10 ^ length f) one in
    let n = shorter k (length f) (omega (arith, one-mul (10 ^ length f))) in
    omega arith

-- a number below a power of ten has no more digits than the power says
numeral_length : (k : ℕ) (f : List ℕ) (v : ℕ) → numeral f ≡ Some v → v < 10 ^ suc k → length f ≤ suc k
unfolding numeral when◌then◌else◌
numeral_length k [] v e h = absurd (some_none (sym e))
numeral_length k (b ∷ f) v e h = by (eqb b zero_digit) refl e
  where
    by : (t : Bool) → eqb b zero_digit ≡ t → when t then zero_then f else digits_after 0 (b ∷ f) ≡ Some v → suc (length f) ≤ suc k
    by true q p = lone_zero k f v p
    by false q p = first_digit k b f v p (eqb-false b zero_digit q) h

-- within a limit of the grammar
pub limited_length : (most k : ℕ) (f : List ℕ) (v : ℕ) → most < 10 ^ suc k → up_to most (numeral f) ≡ Some v → length f ≤ suc k
unfolding up_to
limited_length most k f v h e = by (numeral f) refl e
  where
    by : (o : Option ℕ) → numeral f ≡ o → up_to most o ≡ Some v → length f ≤ suc k
    by None q p = absurd (some_none (sym p))
    by (Some u) q p =
        let r = passed (leb u most) (Some u) v p in
        let l = leb-true u most r.0 in
        numeral_length k f u q (omega arith)

-- ---- the fields of a command

-- the most bytes of each
abbrev small_length : ℕ
small_length = 5

abbrev account_length : ℕ
account_length = 10

abbrev steps_length : ℕ
steps_length = 4

abbrev size_length : ℕ
size_length = 19

-- with the minus
abbrev total_length : ℕ
total_length = suc size_length

pub small-length : (f : List ℕ) (v : ℕ) → small_of f ≡ Some v → length f ≤ small_length
unfolding small_of
small-length f v e = limited_length greatest_small 4 f v (lit< tt) e

pub account-length : (f : List ℕ) (v : ℕ) → account_of f ≡ Some v → length f ≤ account_length
unfolding account_of
account-length f v e = limited_length greatest_account 9 f v (lit< tt) e

steps-length : (f : List ℕ) (v : ℕ) → steps_of f ≡ Some v → length f ≤ steps_length
unfolding steps_of from
steps-length f v e = by (up_to greatest_steps (numeral f)) refl e
  where
    by : (o : Option ℕ) → up_to greatest_steps (numeral f) ≡ o → from least_steps o ≡ Some v → length f ≤ steps_length
    by None q p = absurd (some_none (sym p))
    by (Some u) q p = limited_length greatest_steps 3 f u (lit< tt) q

unsigned_length : (f : List ℕ) (o : Option ℕ) (z : ℤ) → numeral f ≡ o → in64 (plus o) ≡ Some z → length f ≤ size_length
unfolding plus in64
unsigned_length f None z q p = absurd (some_none (sym p))
unsigned_length f (Some n) z q p =
    let h = leb-true n greatest_total (passed (leb n greatest_total) (Some (pos n)) z p).0 in
    numeral_length 18 f n q (omega arith)

negative_length : (f : List ℕ) (o : Option ℕ) (z : ℤ) → numeral f ≡ o → in64 (minus o) ≡ Some z → length f ≤ size_length
unfolding minus in64
negative_length f None z q p = absurd (some_none (sym p))
negative_length f (Some zero) z q p = absurd (some_none (sym p))
negative_length f (Some (suc n)) z q p =
    let h = leb-true (suc n) least_total_size (passed (leb (suc n) least_total_size) (Some (negsuc n)) z p).0 in
    numeral_length 18 f (suc n) q (omega arith)

pub total-length : (f : List ℕ) (z : ℤ) → total_of f ≡ Some z → length f ≤ total_length
unfolding total_of signed_numeral when◌then◌else◌
total-length [] z e = omega arith
total-length (b ∷ f) z e = by (eqb b minus_sign) e
  where
    by : (t : Bool) → in64 (when t then minus (numeral f) else plus (numeral (b ∷ f))) ≡ Some z → suc (length f) ≤ total_length
    by true p = let h = negative_length f (numeral f) z refl p in omega arith
    by false p = let h = unsigned_length (b ∷ f) (numeral (b ∷ f)) z refl p in omega arith

-- ---- commands

-- where the fields are longer together than each may be, one of them is not read
long2 : {A B : Type 0} (f : A → B → Command) (o : Option A) (p : Option B) (x y a b : ℕ)
    → ((v : A) → o ≡ Some v → x ≤ a) → ((v : B) → p ≡ Some v → y ≤ b) → a + b < x + y → with2 f o p ≡ None
unfolding with2
long2 f None p x y a b i j h = refl
long2 f (Some u) None x y a b i j h = refl
long2 f (Some u) (Some v) x y a b i j h = let k = i u refl in let l = j v refl in absurd (omega arith)

long3 : {A B C : Type 0} (f : A → B → C → Command) (o : Option A) (p : Option B) (q : Option C) (x y z a b c : ℕ)
    → ((v : A) → o ≡ Some v → x ≤ a) → ((v : B) → p ≡ Some v → y ≤ b) → ((v : C) → q ≡ Some v → z ≤ c) → a + b + c < x + y + z → with3 f o
    p q ≡ None
unfolding with3
long3 f None p q x y z a b c i j k h = refl
long3 f (Some u) None q x y z a b c i j k h = refl
long3 f (Some u) (Some v) None x y z a b c i j k h = refl
long3 f (Some u) (Some v) (Some w) x y z a b c i j k h = let l = i u refl in let m = j v refl in let n = k w refl in absurd (omega arith)

-- a choice between what are all no commands
none_of : (t : Bool) {x y : Option Command} → x ≡ None → y ≡ None → when t then x else y ≡ None
none_of t {x} {y} e f = if_elim (λ c. c ≡ None) t x y (λ _. e) (λ _. f)

long_three : (letter : ℕ) (x y : List ℕ) → small_length + account_length < length x + length y → three_fields letter x y ≡ None
unfolding three_fields
long_three letter x y h =
    let keyed : (f : ℕ → ℕ → Command) → with2 f (small_of x) (account_of y) ≡ None = λ f. long2 f (small_of x) (account_of y) (length x)
    (length y) small_length account_length (small-length x) (account-length y) h in
    none_of (eqb letter delete_letter) (keyed Delete)
    (none_of (eqb letter lookup_letter) (keyed Lookup)
    (none_of (eqb letter steps_letter)
    (long2 Steps (small_of x) (steps_of y) (length x) (length y) small_length steps_length (small-length x) (steps-length y) (omega arith))
    refl))

long_four : (letter : ℕ) (x y z : List ℕ) → small_length + account_length + total_length < length x + length y + length z
    → four_fields letter x y z ≡ None
unfolding four_fields
long_four letter x y z h =
    let totalled : (f : ℕ → ℕ → ℤ → Command) → with3 f (small_of x) (account_of y) (total_of z) ≡ None = λ f. long3 f (small_of x)
    (account_of y) (total_of z) (length x) (length y) (length z) small_length account_length total_length (small-length x) (account-length y)
    (total-length z) h in
    none_of (eqb letter open_letter)
    (long3 Open (small_of x) (small_of y) (small_of z) (length x) (length y) (length z) small_length small_length small_length (small-length x)
    (small-length y) (small-length z) (omega arith))
    (none_of (eqb letter insert_letter) (totalled Insert) (none_of (eqb letter post_letter) (totalled Post) refl))

-- ---- lines

-- the bytes of the fields, and one for the end of each
abbrev pub span : List (List ℕ) → ℕ
span [] = 0
span (f ∷ fs) = suc (length f) + span fs

span_step : (t : Bool) (b n : ℕ) (ps : List (List ℕ)) → suc n ≡ span ps → suc (suc n) ≡ span (when t then [] ∷ ps else before b ps)
unfolding when◌then◌else◌ before
span_step true b n ps e = omega arith
span_step false b n [] e = absurd (omega arith)
span_step false b n (p ∷ ps) e = omega arith

pub span_of : (l : List ℕ) → suc (length l) ≡ span (fields_of l)
unfolding fields_of parts_at
span_of [] = omega arith
span_of (b ∷ bs) = span_step (eqb b space) b (length bs) (fields_of bs) (span_of bs)

-- a first field of one byte, or none that counts
long_fields : (fs : List (List ℕ)) → suc longest_line < span fs → of_fields fs ≡ None
unfolding of_fields letter_of one_field when◌then◌else◌ three_fields four_fields
long_fields [] h = refl
long_fields ([] ∷ []) h = refl
long_fields ((b ∷ []) ∷ []) h = absurd (omega arith)
long_fields ((b ∷ c ∷ f) ∷ []) h = refl
long_fields (f ∷ x ∷ []) h = refl
long_fields ([] ∷ x ∷ y ∷ []) h = refl
long_fields ((b ∷ []) ∷ x ∷ y ∷ []) h = long_three b x y (omega arith)
long_fields ((b ∷ c ∷ f) ∷ x ∷ y ∷ []) h = refl
long_fields ([] ∷ x ∷ y ∷ z ∷ []) h = refl
long_fields ((b ∷ []) ∷ x ∷ y ∷ z ∷ []) h = long_four b x y z (omega arith)
long_fields ((b ∷ c ∷ f) ∷ x ∷ y ∷ z ∷ []) h = refl
long_fields (f ∷ x ∷ y ∷ z ∷ g ∷ gs) h = refl

-- "so the bound loses nothing": a longer line means nothing
pub long_nothing : (l : List ℕ) → longest_line < length l → command_of l ≡ None
unfolding command_of
long_nothing l h = long_fields (fields_of l) (let e = span_of l in omega arith)
