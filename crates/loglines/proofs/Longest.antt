-- No line of more than longest_line bytes means anything, and an operation has eight words. Rests on the definitions of specs/Lines and on
-- crate lines' lengths of numbers.
use Prim.Native.Nat.{ℕ, suc, ◌+◌, ◌*◌, ◌≤◌, ◌<◌}
use mathlib.Core.Path.{◌≡◌, refl, sym, ◌∙◌, ap}
use mathlib.Core.List.{List, [], ◌∷◌}
use Rattle.std.specs.Prelude.{Option, Some, None}
use native.Mathlib.Omega.{arith}
use lib.Dec.{eqb, lit<}
use lib.IntN.{ℤ}
use lib.ListN.{length}
use borrow.Author.Tests.{eqb-true}
use Rattle.interface.specs.Numbers.{bytes, answer_word}
use Rattle.interface.specs.declared.Answer.{Answer}
use Rattle.interface.specs.declared.Answer.TheVariants.{Added, Replaced, Removed, Absent, Found, Posted, Crowded, Overrun}
use Rattle.machine.proofs.laws.Base.{if_elim}
use Rattle.numerals.proofs.NumeralLaws.{some_none, passed}
use Rattle.commands.specs.Commands.{small_of, total_of}
use Rattle.commands.proofs.Fields.{both_read}
use Rattle.lines.specs.Grammar.{fields_of}
use Rattle.lines.proofs.Longest.{limited_length, small-length, account-length, total-length, span, span_of}
use Rattle.logs.specs.Log.{operation_words, logged_account, logged_total, logged_answer, logged_answer_total, greatest_word}
use Rattle.logs.specs.Same.{same_numbers}
use Rattle.logs.proofs.SameLaws.{same-numbers}
use Rattle.loglines.specs.Fields.{number64, as_word, number_among, all_answers, answer_named, field_word}
use Rattle.loglines.specs.Lines.{settings_of, settings_line, word_then, each_word, operation_in, operation_line}
use Rattle.loglines.specs.Holding.{longest_line}

-- ---- fields

-- the most bytes of a field: a number of 64 bits, or a total with its minus
abbrev field_length : ℕ
field_length = 20

number_length : (f : List ℕ) (w : ℕ) → number64 f ≡ Some w → length f ≤ field_length
unfolding number64
number_length f w e = limited_length greatest_word 19 f w (lit< tt) e

word_length : (f : List ℕ) (o : Option ℤ) (w : ℕ) → total_of f ≡ o → as_word o ≡ Some w → length f ≤ field_length
unfolding as_word
word_length f None w q e = absurd (some_none (sym e))
word_length f (Some t) w q e = total-length f t q

answer_length : (a : Answer) → length (answer_word a) ≤ field_length
unfolding answer_word bytes
answer_length Added = omega arith
answer_length Replaced = omega arith
answer_length Removed = omega arith
answer_length Absent = omega arith
answer_length (Found t) = omega arith
answer_length Answer.None = omega arith
answer_length (Posted t) = omega arith
answer_length Crowded = omega arith
answer_length Overrun = omega arith

named_length : (f : List ℕ) (answers : List Answer) (w : ℕ) → number_among f answers ≡ Some w → length f ≤ field_length
unfolding number_among
named_length f [] w e = absurd (some_none (sym e))
named_length f (a ∷ answers) w e =
    if_elim (λ o. o ≡ Some w → length f ≤ field_length) (same_numbers f (answer_word a)) _ _
    (λ t _. let n = answer_length a in omega (arith, ap length (same-numbers f (answer_word a) t))) (λ _ d. named_length f answers w d) e

field-length : (k : ℕ) (f : List ℕ) (w : ℕ) → field_word k f ≡ Some w → length f ≤ field_length
unfolding field_word answer_named
field-length k f w e =
    let P : Option ℕ → Type 0 = λ o. o ≡ Some w → length f ≤ field_length in
    if_elim P (eqb k logged_account) _ _ (λ _ d. let n = account-length f w d in omega arith)
    (λ _. if_elim P (eqb k logged_total) _ _ (λ _. word_length f (total_of f) w refl)
    (λ _. if_elim P (eqb k logged_answer) _ _ (λ _. named_length f all_answers w)
    (λ _. if_elim P (eqb k logged_answer_total) _ _ (λ _. word_length f (total_of f) w refl) (λ _. number_length f w)))) e

-- ---- operations

-- each field is read, and has a word
each_read : (k : ℕ) (fs : List (List ℕ)) (ws : List ℕ) → each_word k fs ≡ Some ws → (length ws ≡ length fs) × (span fs ≤ 21 * length fs)
unfolding each_word word_then
each_read k [] ws e = let q : [] ≡ ws = cc in (sym (ap length q), omega arith)
each_read k (f ∷ fs) ws e = by (field_word k f) (each_word (suc k) fs) refl refl (each_read (suc k) fs) e
  where
    by : (o : Option ℕ) (p : Option (List ℕ)) → field_word k f ≡ o → each_word (suc k) fs ≡ p
        → ((vs : List ℕ) → each_word (suc k) fs ≡ Some vs → (length vs ≡ length fs) × (span fs ≤ 21 * length fs)) → word_then o p ≡ Some ws
        → (length ws ≡ suc (length fs)) × (suc (length f) + span fs ≤ 21 * suc (length fs))
    by None p q r ih d = absurd (some_none (sym d))
    by (Some w) None q r ih d = absurd (some_none (sym d))
    by (Some w) (Some vs) q r ih d =
        let n = ih vs r in
        let m = field-length k f w q in
        let c : w ∷ vs ≡ ws = cc in
        (sym (ap length c) ∙ ap suc n.0, omega (arith, n.1))

operation_read : (fs : List (List ℕ)) (ws : List ℕ) → operation_in fs ≡ Some ws → (length ws ≡ operation_words) × (span fs ≤ suc longest_line)
unfolding operation_in
operation_read fs ws e =
    let p = passed (eqb (length fs) operation_words) (each_word 0 fs) ws e in
    let n = eqb-true (length fs) operation_words p.0 in
    let r = each_read 0 fs ws p.1 in
    (r.0 ∙ n, omega (arith, r.1))

pub eight_words : (l ws : List ℕ) → operation_line l ≡ Some ws → length ws ≡ operation_words
unfolding operation_line
eight_words l ws e = (operation_read (fields_of l) ws e).0

pub no_operation : (l : List ℕ) → longest_line < length l → operation_line l ≡ None
unfolding operation_line
no_operation l h = by (operation_in (fields_of l)) refl
  where
    by : (o : Option (List ℕ)) → operation_in (fields_of l) ≡ o → o ≡ None
    by None e = refl
    by (Some ws) e = let n = (operation_read (fields_of l) ws e).1 in absurd (omega (arith, span_of l))

-- ---- settings

settings_read : (fs : List (List ℕ)) (b M : ℕ) → settings_of fs ≡ Some (b, M) → span fs ≤ suc longest_line
unfolding settings_of
settings_read [] b M e = omega arith
settings_read (x ∷ []) b M e = absurd (some_none (sym e))
settings_read (x ∷ y ∷ []) b M e =
    let r = both_read (small_of x) (small_of y) b M (sym e) in
    let m = small-length x b r.0 in
    let n = small-length y M r.1 in
    omega arith
settings_read (x ∷ y ∷ z ∷ fs) b M e = absurd (some_none (sym e))

pub no_settings : (l : List ℕ) → longest_line < length l → settings_line l ≡ None
unfolding settings_line
no_settings l h = by (settings_of (fields_of l)) refl
  where
    by : (o : Option (ℕ × ℕ)) → settings_of (fields_of l) ≡ o → o ≡ None
    by None e = refl
    by (Some (b, M)) e = let n = settings_read (fields_of l) b M e in absurd (omega (arith, span_of l))
