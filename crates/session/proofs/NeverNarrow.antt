-- No line is met with `refused 10`, whatever the words: only a listing could be, and its lists are long enough. Rests on the count of
-- rows, and on what is printed.
use Prim.Native.Nat.{ℕ, zero, suc, ◌/◌, ◌%◌, ◌≤◌, ◌<◌}
use native.Mathlib.Omega.{arith}
use native.Mathlib.Decide.{dec_lt}
use mathlib.Core.Path.{◌≡◌, refl, ap, sym, ◌∙◌}
use mathlib.Core.Logic.{by_cases}
use mathlib.Core.Bool.{Bool, true, false, ◌||◌}
use mathlib.Core.List.{List, [], ◌∷◌, ◌++◌, append_assoc}
use lib.Dec.{ltb}
use lib.ListN.{length, get_or, replicate, length-append}
use lib.IntN.{ℤ}
use borrow.Author.Tests.{le-ltb}
use Rattle.interface.specs.Numbers.{bytes, number_of, kind_insert, kind_delete, kind_lookup, kind_post}
use Rattle.interface.specs.declared.Settings.{Settings}
use Rattle.interface.specs.declared.Refusal.{Refusal}
use Rattle.interface.specs.declared.Stepped.{Stepped}
use Rattle.interface.specs.declared.Ran.{Ran}
use Rattle.interface.specs.Limits.{in_range, built}
use Rattle.interface.proofs.Laws.{wrong_settings, right_settings}
use Rattle.machine.specs.Sequential.{Table}
use Rattle.machine.specs.Script as Script
use Rattle.machine.proofs.laws.Base.{if_elim, if_false}
use Rattle.replies.specs.declared.Reply.{Reply}
use Rattle.decimals.specs.Decimals.{digit, digits, decimal, digit_count}
use Rattle.replies.specs.Printed.{printed_line, printed_row, printed_rows, printed_end, printed_answer, printed, printed_unread, printed_reply}
use Rattle.decimals.proofs.DecimalLaws.{digit_count_small, digit_count_large, length_decimal}
use Rattle.commands.specs.declared.Command.{Command}
use Rattle.layout.specs.Shape.{strange}
use Rattle.rows.proofs.RowLaws.{rows_few}
use Rattle.opening.specs.Opening.{open_words, opened_words}
use Rattle.calls.specs.Calls.{call_in, call_words}
use Rattle.runs.specs.Runs.{last_of, or_else, run_in, run_words}
use Rattle.responses.specs.Responses.{of_done, of_ran, replying, responded}
use Rattle.responses.specs.Answers.{is_list}
use Rattle.texts.specs.Texts.{rows_text, listing_text, text_on, words_on, ended, reader_after, last_feed}
use Rattle.lines.specs.Reading.{fresh}
use Rattle.session.specs.Program.{NeverNarrowOn, NeverNarrow}
use Rattle.std.specs.Prelude.{Option, Some, None, Result, Ok, Err, ⊤}

-- ---- texts that are not `refused 10`

abbrev Another : List ℕ → Type 0
Another xs = xs ≡ printed (Script.refused 10) → ⊥

by_first : (xs : List ℕ) (b : ℕ) → get_or xs 0 0 ≡ b → (b ≡ 114 → ⊥) → Another xs
unfolding printed printed_line bytes
by_first xs b h other e = other (sym h ∙ ap (λ (l : List ℕ). get_or l 0 0) e)

-- one digit less
smaller : (k : ℕ) → k ≤ 8 → Another (printed (Script.refused k))
unfolding printed printed_line bytes
smaller k h e =
    let n = ap length e in
    omega (
      arith,
      length-append (decimal k) (10 ∷ []),
      length-append (decimal 10) (10 ∷ []),
      length_decimal k,
      length_decimal 10,
      digit_count_small k (omega arith),
      digit_count_large 10 (omega arith),
      digit_count_small 1 (omega arith),
    )

-- every reply but that one
abbrev pub OtherReply : Reply → Type 0
OtherReply Reply.Ok = Unit {0}
OtherReply (Reply.Refused k) = k ≤ 8
OtherReply (Reply.Moved k) = Unit {0}
OtherReply (Reply.Answered c) = Unit {0}
OtherReply Reply.Unread = Unit {0}

pub reply_another : (r : Reply) → OtherReply r → Another (printed_reply r)
unfolding printed_reply printed printed_line printed_answer printed_unread bytes
reply_another Reply.Ok h = by_first _ 111 refl (λ e. omega arith)
reply_another (Reply.Refused k) h = smaller k h
reply_another (Reply.Moved k) h = by_first _ 109 refl (λ e. omega arith)
reply_another (Reply.Answered c) h = by_first _ 97 refl (λ e. omega arith)
reply_another Reply.Unread h = by_first _ 117 refl (λ e. omega arith)

-- a number starts with a digit
digits_first : (k n : ℕ) (ys : List ℕ) → get_or (digits (suc k) n ++ ys) 0 0 < 58
unfolding digits digit
digits_first zero n ys = omega arith
digits_first (suc k) n ys =
    rw (append_assoc (digits (suc k) (n / 10)) (digit (n % 10) ∷ []) ys) (digits_first k (n / 10) (digit (n % 10) ∷ ys))

decimal_first : (n : ℕ) (ys : List ℕ) → get_or (decimal n ++ ys) 0 0 < 58
unfolding decimal
decimal_first n ys =
    by_cases (dec_lt n 10) (λ h. rw (digit_count_small n h) (digits_first 0 n ys))
    (λ h. rw (digit_count_large n (omega arith)) (digits_first (digit_count (n / 10)) n ys))

pub rows_another : (t : Table) (n : ℕ) → Another (printed_rows t ++ printed_end n)
unfolding printed_rows printed_end printed_row printed_line bytes
rows_another [] n = by_first _ 101 refl (λ e. omega arith)
rows_another (e ∷ t) n = by_first _ _ refl (λ h. let k = first in omega arith)
  where
    first : get_or ((printed_row e.0 e.1 ++ printed_rows t) ++ printed_end n) 0 0 < 58
    first = rw (append_assoc (printed_row e.0 e.1) (printed_rows t) (printed_end n), append_assoc) (decimal_first e.0 _)

-- ---- commands that are no listing

other_built :
    (l : List ℕ) (x : Result Settings Refusal) → ((r : Refusal) → x ≡ Err r → r ≡ Refusal.Settings) → OtherReply (of_done (opened_words l x).1)
unfolding opened_words of_done
other_built l (Err r) h = rw (h r refl) (omega arith)
other_built l (Ok s) h = if_elim (λ (x : List ℕ × Result ⊤ Refusal). OtherReply (of_done x.1)) _ _ _ (λ e. tt) (λ e. omega arith)

other_opened : (l : List ℕ) (n b M : ℕ) → OtherReply (of_done (open_words l n b M).1)
unfolding open_words
other_opened l n b M = other_built l (built n b M) (λ r e. by (in_range n b M) refl r e)
  where
    by : (t : Bool) → in_range n b M ≡ t → (r : Refusal) → built n b M ≡ Err r → r ≡ Refusal.Settings
    by true h r e = let q = right_settings n b M h in absurd (let z : ◌≡◌ {A = ℕ} 0 1 = cc in omega arith)
    by false h r e = let q = wrong_settings n b M h in cc

other_called : (l : List ℕ) (w kind a : ℕ) (v : ℤ) → OtherReply (of_done (call_words l w kind a v).1)
unfolding call_words call_in of_done
other_called l w kind a v =
    if_elim other _ _ _ (λ e. omega arith)
    (λ e.
    if_elim other _ _ _ (λ e. omega arith)
    (λ e.
    if_elim other _ _ _ (λ e. omega arith)
    (λ e.
    if_elim other _ _ _ (λ e. omega arith)
    (λ e. if_elim other _ _ _ (λ e. tt) (λ e. if_elim other _ _ _ (λ e. omega arith) (λ e. tt))))))
  where
    other : List ℕ × Result ⊤ Refusal → Type 0
    other x = OtherReply (of_done x.1)

other_last : (l : List ℕ) (k : ℕ) (x : Stepped) (later : List ℕ × Result Ran Refusal) → OtherReply (of_ran later.1)
    → OtherReply (of_ran (or_else l (last_of k x) later).1)
unfolding or_else last_of of_ran
other_last l k Stepped.Moved later h = h
other_last l k (Stepped.Answered c) later h = tt
other_last l k (Stepped.Refused r) later h = tt

other_run : (f : ℕ) (l : List ℕ) (s : Settings) (w k : ℕ) → OtherReply (of_ran (run_in l s w k f).1)
unfolding run_in of_ran
other_run zero l s w k = tt
other_run (suc f) l s w k =
    if_elim (λ (x : List ℕ × Result Ran Refusal). OtherReply (of_ran x.1)) _ _ _ (λ e. tt) (λ e. other_last _ k _ _ (other_run f _ s w (suc k)))

other_ran : (l : List ℕ) (w most : ℕ) → OtherReply (of_ran (run_words l w most).1)
unfolding run_words of_ran
other_ran l w most =
    if_elim other _ _ _ (λ e. omega arith)
    (λ e. if_elim other _ _ _ (λ e. omega arith) (λ e. if_elim other _ _ _ (λ e. omega arith) (λ e. other_run _ l _ w 0)))
  where
    other : List ℕ × Result Ran Refusal → Type 0
    other x = OtherReply (of_ran x.1)

other_response : (l : List ℕ) (c : Command) → OtherReply (responded l (Some c)).1
unfolding responded replying
other_response l (Command.Open n b M) = other_opened l n b M
other_response l (Command.Insert w a t) = other_called l w kind_insert a t
other_response l (Command.Delete w a) = other_called l w kind_delete a _
other_response l (Command.Lookup w a) = other_called l w kind_lookup a _
other_response l (Command.Post w a v) = other_called l w kind_post a v
other_response l (Command.Steps w k) = other_ran l w k
other_response l Command.List = tt

-- ---- the listing

rows_text_another : (t : Table) → length t ≤ 4_096 → Another (rows_text 4_096 4_096 t)
unfolding rows_text
rows_text_another t h e =
    let f : ltb 4_096 (length t) || ltb 4_096 (length t) ≡ false = rw (le-ltb 4_096 (length t) h) in
    rows_another t (length t) (sym (if_false _ _ f) ∙ e)

listing_another : (l : List ℕ) → Another (listing_text l 4_096 4_096)
unfolding listing_text
listing_another l =
    if_elim Another (strange l) _ _ (λ e. reply_another (Reply.Refused (number_of Refusal.Strange)) (omega arith))
    (λ e. rows_text_another _ (rows_few l e))

-- ---- every line, on any words

text_another : (l : List ℕ) (c : Option Command) → Another (text_on l 4_096 4_096 c)
unfolding text_on
text_another l None = reply_another Reply.Unread tt
text_another l (Some c) = if_elim Another (is_list c) _ _ (λ e. listing_another l) (λ e. reply_another _ (other_response l c))

never_narrow_on : (cs : List (Option Command)) (l : List ℕ) → NeverNarrowOn l cs
never_narrow_on [] l = tt
never_narrow_on (c ∷ cs) l = (text_another l c, never_narrow_on cs (words_on l c))

-- "so 10 never comes up there"
pub never_narrow : NeverNarrow
never_narrow input = never_narrow_on (ended fresh (input ++ last_feed (reader_after fresh input))) (replicate (Script.driver).words 0)
