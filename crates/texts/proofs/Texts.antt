-- What `feed` leaves in the buffer is the text of the commands whose lines it ended, whole and in order: no text is too long.
-- Rests on the lengths of texts, and on the laws of buffers.
use Prim.Native.Nat.{ℕ, suc, ◌+◌, ◌*◌, ◌≤◌}
use mathlib.Core.Path.{◌≡◌, refl, sym, ◌∙◌, ap}
use mathlib.Core.Bool.{Bool, true, false, ◌||◌}
use mathlib.Core.List.{List, [], ◌∷◌, ◌++◌, map}
use native.Mathlib.Nat.{add_assoc}
use native.Mathlib.Omega.{arith}
use lib.Dec.{ltb}
use lib.IntN.{ℤ}
use lib.ListN.{length, drop, length-append, length-drop}
use borrow.Author.Tests.{le-leb, ltb-false}
use Rattle.interface.specs.Numbers.{number_of}
use Rattle.interface.specs.declared.Refusal.{Refusal}
use Rattle.machine.specs.Choice.{when◌then◌else◌}
use Rattle.machine.specs.Sequential.{Table}
use Rattle.machine.proofs.laws.Base.{if_elim, if_true}
use Rattle.layout.specs.Shape.{strange, shape_of}
use Rattle.sorting.proofs.Rows.{rows_back}
use Rattle.lists.specs.Every.{Every}
use Rattle.rows.proofs.SmallRows.{Small, rows_small}
use Rattle.rows.specs.Rows.{rows, Shown, shown, listing_words}
use Rattle.commands.specs.declared.Command.{Command}
use Rattle.replies.specs.declared.Reply.{Reply}
use Rattle.lists.specs.Parts.{overlay}
use Rattle.printers.specs.Written.{fits}
use Rattle.replies.specs.Printed.{printed_row, printed_rows, printed_end, printed_reply}
use Rattle.lists.proofs.PartLaws.{overlay_nil, length_overlay}
use Rattle.decimals.proofs.Overlays.{next}
use Rattle.responses.specs.Responses.{responded}
use Rattle.outputs.specs.Outputs.{Output, emitted, put_rows, put_listed, DriverState, listed_as, listed}
use Rattle.outputs.specs.Room.{longest}
use Rattle.responses.specs.Answers.{replied_as, is_list, answered}
use Rattle.texts.specs.Texts.{rows_text, listing_text, text_on, words_on}
use Rattle.texts.proofs.Lengths.{longest_reply, row_within, end_within, reply_within}
use Rattle.texts.proofs.Small.{small_refused, small_response, small_unread}
use Rattle.std.specs.Prelude.{Option, Some, None, Ok, Err}

-- ---- a text behind the used bytes

-- the output with a text behind the used bytes
unfoldable pub behind : Output → List ℕ → Output
behind o xs = record { bytes = overlay o.bytes o.used xs; used = o.used + length xs }

-- the text has room
pub record Room (o : Output) (xs : List ℕ) : Type 0 where
  pub room : o.used + length xs ≤ length o.bytes

put_behind : (o : Output) (xs : List ℕ) → Room o xs → emitted o xs ≡ behind o xs
unfolding emitted fits behind
put_behind o xs h = if_true _ _ (le-leb (o.used + length xs) (length o.bytes) h.room)

pub behind_nil : (o : Output) → behind o [] ≡ o
unfolding behind
behind_nil o = let e : o.used + 0 ≡ o.used = omega arith in rw (overlay_nil o.bytes o.used, e)

module _ (o : Output) (xs ys : List ℕ) (h : Room o (xs ++ ys)) where
  room_first : Room o xs
  room_first = let n = length-append xs ys in let k = h.room in record { room = omega arith }

  pub room_next : Room (behind o xs) ys
  unfolding behind
  room_next =
      let n = length-append xs ys in
      let k = h.room in
      record { room = rw (length_overlay o.bytes o.used xs room_first.room) (omega arith) }

  pub behind_behind : behind (behind o xs) ys ≡ behind o (xs ++ ys)
  unfolding behind
  behind_behind =
      rw (next o.bytes o.used xs (o.used + length xs) ys room_first.room refl refl refl, length-append xs ys, add_assoc)

rows_behind : (o : Output) (t : Table) → Room o (printed_rows t) → put_rows o t ≡ behind o (printed_rows t)
unfolding put_rows printed_rows
rows_behind o [] h = sym (behind_nil o)
rows_behind o (e ∷ t) h =
    let row = printed_row e.0 e.1 in
    rw (put_behind o row (room_first o row (printed_rows t) h))
    (rows_behind (behind o row) t (room_next o row (printed_rows t) h) ∙ behind_behind o row (printed_rows t) h)

-- ---- the rows of a listing

-- at most 32 bytes a row
pub record Short (t : Table) : Type 0 where
  pub size : length (printed_rows t) ≤ 32 * length t

short_small : (t : Table) → Every Small t → Short t
unfolding printed_rows Every
short_small [] h = record { size = omega arith }
short_small (e ∷ t) h =
    let m = row_within e.0 e.1 h.0.account h.0.total in
    let n = (short_small t h.1).size in
    record { size = omega (arith, length-append (printed_row e.0 e.1) (printed_rows t)) }

short_rows : (l : List ℕ) → Short (rows l (shape_of l))
short_rows l = short_small _ (rows_small l (shape_of l))

-- ---- the lists that a listing leaves

left_false : (x y : Bool) → x || y ≡ false → x ≡ false
left_false true y e = e
left_false false y e = refl

module _ (o : Output) (room : o.used + longest ≤ length o.bytes) where
  reply_behind : (r : Reply) → length (printed_reply r) ≤ longest_reply → emitted o (printed_reply r) ≡ behind o (printed_reply r)
  unfolding longest
  reply_behind r h = put_behind o (printed_reply r) (record { room = omega arith })

  module _ (accounts : List ℕ) (totals : List ℤ) (few : length accounts ≤ 4_096) (t : Table) (short : Short t) where
    -- a listing that its lists hold
    counted_behind : length t ≤ length accounts
        → put_listed o (overlay accounts 0 (map (λ x. x.0) t)) (overlay totals 0 (map (λ x. x.1) t)) (Ok (length t))
        ≡ behind o (printed_rows t ++ printed_end (length t))
    unfolding put_listed overlay longest
    counted_behind h =
        let n = short.size in
        let m = end_within (length t) (omega arith) in
        let all : Room o (printed_rows t ++ printed_end (length t)) =
        record { room = omega (arith, length-append (printed_rows t) (printed_end (length t))) } in
        rw (rows_back t _ _, rows_behind o t (room_first o (printed_rows t) (printed_end (length t)) all))
        (put_behind (behind o (printed_rows t)) (printed_end (length t)) (room_next o (printed_rows t) (printed_end (length t)) all)
        ∙ behind_behind o (printed_rows t) (printed_end (length t)) all)

    shown_behind : (x : Shown) → x ≡ shown accounts totals t
        → put_listed o x.accounts x.totals x.listed ≡ behind o (rows_text (length accounts) (length totals) t)
    unfolding shown rows_text put_listed when◌then◌else◌
    shown_behind x e = rw e (by (ltb (length accounts) (length t) || ltb (length totals) (length t)) refl)
      where
        by : (b : Bool) → ltb (length accounts) (length t) || ltb (length totals) (length t) ≡ b
            → let y : Shown =
            when b then record { accounts = accounts; totals = totals; listed = Err Refusal.Narrow } else record {
              accounts = overlay accounts 0 (map (λ x. x.0) t);
              totals = overlay totals 0 (map (λ x. x.1) t);
              listed = Ok (length t);
            } in put_listed o y.accounts y.totals y.listed ≡ behind o
            (when b then printed_reply (Reply.Refused (number_of Refusal.Narrow)) else printed_rows t ++ printed_end (length t))
        by true h = reply_behind (Reply.Refused (number_of Refusal.Narrow)) (reply_within _ (small_refused Refusal.Narrow))
        by false h = counted_behind (ltb-false _ _ (left_false _ _ h))

-- ---- no text is too long

module _ (n m : ℕ) (few : n ≤ 4_096) where
  rows_text_within : (t : Table) → Short t → length (rows_text n m t) ≤ longest
  unfolding rows_text longest
  rows_text_within t short =
      if_elim (λ (xs : List ℕ). length xs ≤ 131_097) _ _ _ (λ e. omega (arith, reply_within _ (small_refused Refusal.Narrow)))
      (λ e.
      let k : length t ≤ n = ltb-false n (length t) (left_false (ltb n (length t)) _ e) in
      let h = short.size in
      omega (arith, end_within (length t) (omega arith), length-append (printed_rows t) (printed_end (length t))))

  pub text_within : (l : List ℕ) (c : Option Command) → length (text_on l n m c) ≤ longest
  unfolding text_on listing_text longest
  text_within l None = omega (arith, reply_within _ small_unread)
  text_within l (Some c) =
      if_elim (λ (xs : List ℕ). length xs ≤ 131_097) _ _ _
      (λ e.
      if_elim (λ (xs : List ℕ). length xs ≤ 131_097) _ _ _ (λ e. omega (arith, reply_within _ (small_refused Refusal.Strange)))
      (λ e. rows_text_within (rows l (shape_of l)) (short_rows l)))
      (λ e. omega (arith, reply_within _ (small_response l (Some c))))

-- ---- one line

module _ (s : DriverState) (few : length s.accounts ≤ 4_096) (room : s.output.used + longest ≤ length s.output.bytes) where
  listed_behind : (listed s).output ≡ behind s.output (listing_text s.words (length s.accounts) (length s.totals))
  unfolding listed listed_as listing_words listing_text put_listed when◌then◌else◌
  listed_behind = by (strange s.words) refl
    where
      by :
          (b : Bool) → strange s.words ≡ b
          → (listed s).output ≡ behind s.output (listing_text s.words (length s.accounts) (length s.totals))
      by true e =
          rw e (reply_behind s.output room (Reply.Refused (number_of Refusal.Strange)) (reply_within _ (small_refused Refusal.Strange)))
      by false e =
          rw e (shown_behind s.output room s.accounts s.totals few (rows s.words (shape_of s.words))
          (short_rows s.words) _ refl)

  -- a line's whole text stands behind the used bytes
  pub answered_behind :
      (c : Option Command) → (answered s c).output ≡ behind s.output (text_on s.words (length s.accounts) (length s.totals) c)
  unfolding answered replied_as text_on when◌then◌else◌
  answered_behind None = reply_behind s.output room Reply.Unread (reply_within _ small_unread)
  answered_behind (Some c) = by (is_list c) refl
    where
      by :
          (b : Bool) → is_list c ≡ b
          → (answered s (Some c)).output ≡ behind s.output (text_on s.words (length s.accounts) (length s.totals) (Some c))
      by true e = rw e listed_behind
      by false e = rw e (reply_behind s.output room (responded s.words (Some c)).1 (reply_within _ (small_response s.words (Some c))))

pub answered_words : (s : DriverState) (c : Option Command) → (answered s c).words ≡ words_on s.words c
unfolding answered listed listed_as replied_as words_on when◌then◌else◌
answered_words s None = refl
answered_words s (Some c) = by (is_list c) refl
  where
    by : (b : Bool) → is_list c ≡ b → (answered s (Some c)).words ≡ words_on s.words (Some c)
    by true e = rw e
    by false e = rw e

-- ---- the lists keep their lengths

overlaid : {A : Type 0} (l xs : List A) → length xs ≤ length l → length (overlay l 0 xs) ≡ length l
unfolding overlay
overlaid l xs h = length-append xs (drop (0 + length xs) l) ∙ rw (length-drop (0 + length xs) l) (omega arith)

mapped : {A B : Type 0} (f : A → B) (l : List A) → length (map f l) ≡ length l
mapped f [] = refl
mapped f (x ∷ l) = ap suc (mapped f l)

-- both lists as long as the state's
pub record Kept (s t : DriverState) : Type 0 where
  pub accounts : length t.accounts ≡ length s.accounts
  pub totals : length t.totals ≡ length s.totals

right_false : (x y : Bool) → x || y ≡ false → y ≡ false
right_false true y e = absurd (let z : ◌≡◌ {A = ℕ} 0 1 = cc in omega arith)
right_false false y e = e

shown_kept : (accounts : List ℕ) (totals : List ℤ) (t : Table)
    → (length (shown accounts totals t).accounts ≡ length accounts) × (length (shown accounts totals t).totals ≡ length totals)
unfolding shown
shown_kept accounts totals t =
    if_elim (λ (x : Shown). (length x.accounts ≡ length accounts) × (length x.totals ≡ length totals)) _ _ _ (λ e. (refl, refl))
    (λ e. (
      overlaid accounts _ (rw (mapped (λ x. x.0) t) (ltb-false _ _ (left_false (ltb (length accounts) (length t)) _ e))),
      overlaid totals _ (rw (mapped (λ x. x.1) t) (ltb-false _ _ (right_false (ltb (length accounts) (length t)) _ e))),
    ))

pub answered_kept : (s : DriverState) (c : Option Command) → Kept s (answered s c)
unfolding answered listed listed_as listing_words replied_as when◌then◌else◌
answered_kept s None = record { accounts = refl; totals = refl }
answered_kept s (Some c) = by (is_list c) (strange s.words) refl refl
  where
    by : (b d : Bool) → is_list c ≡ b → strange s.words ≡ d → Kept s (answered s (Some c))
    by false d e f = rw e (record { accounts = refl; totals = refl })
    by true true e f = rw (e, f) (record { accounts = refl; totals = refl })
    by true false e f =
        let k = shown_kept s.accounts s.totals (rows s.words (shape_of s.words)) in rw (e, f)
        (record { accounts = k.0; totals = k.1 })
