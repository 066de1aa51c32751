-- How long the texts are: a row has at most 32 bytes, the end of a listing 25, a reply longest_reply. Rests on the lines' decimals.
use Prim.Native.Nat.{ℕ, suc, ◌^◌, ◌≤◌, ◌<◌}
use mathlib.Core.List.{[], ◌∷◌, ◌++◌}
use native.Mathlib.Omega.{arith}
use lib.IntN.{ℤ, pos, negsuc}
use lib.ListN.{length, length-append}
use lib.Signed.{mag}
use Rattle.interface.specs.Numbers.{bytes, answer_word, answer_total}
use Rattle.interface.specs.declared.Answer.{Answer}
use Rattle.replies.specs.declared.Reply.{Reply}
use Rattle.decimals.specs.Decimals.{decimal, signed_decimal}
use Rattle.replies.specs.Printed.{printed_line, total_then, printed_row, printed_end, printed_answer, printed, printed_unread, printed_reply}
use Rattle.decimals.proofs.DecimalLaws.{decimal_within}

-- ---- numbers

word_within : (n : ℕ) → n < 2 ^ 64 → length (decimal n) ≤ 20
word_within n h = decimal_within 19 n (omega arith)

signed_within : (t : ℤ) → mag t < 2 ^ 63 → length (signed_decimal t) ≤ 20
unfolding signed_decimal
signed_within (pos n) h = let k = decimal_within 18 n (omega arith) in omega arith
signed_within (negsuc n) h = let k = decimal_within 18 (suc n) (omega arith) in omega arith

-- ---- lines

pub row_within : (a : ℕ) (t : ℤ) → a < 2 ^ 32 → mag t < 2 ^ 63 → length (printed_row a t) ≤ 32
unfolding printed_row printed_line
row_within a t h k =
    let m = decimal_within 9 a (omega arith) in
    let n = signed_within t k in
    omega (arith, length-append (decimal a) (32 ∷ (signed_decimal t ++ 10 ∷ [])), length-append (signed_decimal t) (10 ∷ []))

pub end_within : (n : ℕ) → n < 2 ^ 64 → length (printed_end n) ≤ 25
unfolding printed_end printed_line bytes
end_within n h = let k = word_within n h in omega (arith, length-append (decimal n) (10 ∷ []))

-- ---- replies

-- `answered posted -9223372036854775808 18446744073709551615` with its line feed is a longest
abbrev pub longest_reply : ℕ
longest_reply = 58

-- the total of found or posted is one of 64 bits
unfoldable pub small_answer : Answer → Type 0
small_answer Answer.Added = Unit {0}
small_answer Answer.Replaced = Unit {0}
small_answer Answer.Removed = Unit {0}
small_answer Answer.Absent = Unit {0}
small_answer (Answer.Found t) = mag t < 2 ^ 63
small_answer Answer.None = Unit {0}
small_answer (Answer.Posted t) = mag t < 2 ^ 63
small_answer Answer.Crowded = Unit {0}
small_answer Answer.Overrun = Unit {0}

-- every number is one of 64 bits
unfoldable pub small_reply : Reply → Type 0
small_reply Reply.Ok = Unit {0}
small_reply (Reply.Refused k) = k < 2 ^ 64
small_reply (Reply.Moved k) = k < 2 ^ 64
small_reply (Reply.Answered c) = (c.steps < 2 ^ 64) × small_answer c.answer
small_reply Reply.Unread = Unit {0}

last_within : (k : ℕ) → k < 2 ^ 64 → length (decimal k ++ 10 ∷ []) ≤ 21
last_within k h = let m = word_within k h in omega (arith, length-append (decimal k) (10 ∷ []))

total_within : (t : ℤ) (k : ℕ) → k < 2 ^ 64 → mag t < 2 ^ 63 → length (signed_decimal t ++ 32 ∷ (decimal k ++ 10 ∷ [])) ≤ 42
total_within t k h s =
    omega (arith, last_within k h, signed_within t s, length-append (signed_decimal t) (32 ∷ (decimal k ++ 10 ∷ [])))

answer_within : (a : Answer) (k : ℕ) → k < 2 ^ 64 → small_answer a → length (printed_answer a k) ≤ longest_reply
unfolding printed_answer printed_line total_then answer_word answer_total bytes small_answer
answer_within Answer.Added k h s = omega (arith, last_within k h)
answer_within Answer.Replaced k h s = omega (arith, last_within k h)
answer_within Answer.Removed k h s = omega (arith, last_within k h)
answer_within Answer.Absent k h s = omega (arith, last_within k h)
answer_within (Answer.Found t) k h s = omega (arith, total_within t k h s)
answer_within Answer.None k h s = omega (arith, last_within k h)
answer_within (Answer.Posted t) k h s = omega (arith, total_within t k h s)
answer_within Answer.Crowded k h s = omega (arith, last_within k h)
answer_within Answer.Overrun k h s = omega (arith, last_within k h)

pub reply_within : (r : Reply) → small_reply r → length (printed_reply r) ≤ longest_reply
unfolding printed_reply printed printed_unread printed_line bytes small_reply
reply_within Reply.Ok s = omega arith
reply_within (Reply.Refused k) s = omega (arith, last_within k s)
reply_within (Reply.Moved k) s = omega (arith, last_within k s)
reply_within (Reply.Answered c) s = answer_within c.answer c.steps s.0 s.1
reply_within Reply.Unread s = omega arith
